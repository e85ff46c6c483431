-- The outcomes of the room's functions are determined.
-- Assumes nothing.
use Prim.Native.Nat.{ℕ}
use mathlib.Core.Path.{◌≡◌}
use mathlib.Core.List.{List}
use Rattle.wire.specs.Checks.{Verdict}
use Rattle.wire.proofs.Outcomes.{Determined, same-both}
use Rattle.soup_pieces.specs.Machine.{First}
use Rattle.flat_pieces.specs.Taking.{FlatAnswered}
use Rattle.flat_pieces.specs.declared.FlatPieces.{FlatPieces}
use Rattle.flat_pieces.specs.declared.FlatPiece.{FlatPiece}
use Rattle.flat_pieces.proofs.take.Kinds as take
use Rattle.flat_pieces.proofs.take.Reads as take-reads

-- a verdict settles what is answered, and the buffer
pub same-piece : {v : Verdict First} {lent : FlatPieces} {buffer piece l m : List ℕ} {x y : FlatPiece}
    → FlatAnswered v lent buffer piece x l → FlatAnswered v lent buffer piece y m → (x ≡ y) × (l ≡ m)
same-piece p q = same-both p.answer q.answer p.bytes q.bytes

take-is : Determined 2 take.ps take.r (List ℕ) (λ κs s. s.1.0.now) take-reads.Post
take-is κs a x y s t = same-piece
