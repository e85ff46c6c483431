-- The outcomes of the room's entries are determined.
-- Assumes nothing.
use Prim.Native.Nat.{ℕ}
use mathlib.Core.List.{List}
use Rattle.wire.proofs.Outcomes.{Determined, same-both}
use Rattle.taking.proofs.take.Kinds as take
use Rattle.taking.proofs.take.Reads as take-reads

take-is : Determined 3 take.ps take.r (List ℕ × List ℕ) (λ κs s. (s.1.0.now, s.1.1.1.0.now)) take-reads.Post
take-is κs a x y s t p q = same-both p.answer q.answer (λ i. (p.slots i, p.bytes i)) (λ i. (q.slots i, q.bytes i))
