-- The outcomes of the room's entry are determined.
-- Assumes nothing.
use Prim.Native.Nat.{ℕ}
use mathlib.Core.List.{List}
use Rattle.wire.proofs.Outcomes.{Determined, same-both}
use Rattle.soup_pieces.proofs.take.Kinds as take
use Rattle.soup_pieces.proofs.take.Reads as take-reads

take-is : Determined 2 take.ps take.r (List ℕ) (λ κs s. s.1.0.now) take-reads.Post
take-is κs a x y s t p q = same-both p.answer q.answer p.bytes q.bytes
