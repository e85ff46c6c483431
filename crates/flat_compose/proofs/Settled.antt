-- The outcome of the room's entry is determined.
-- Assumes nothing.
use Prim.Native.Nat.{ℕ}
use mathlib.Core.List.{List}
use Rattle.wire.proofs.Outcomes.{Determined}
use Rattle.flat.proofs.Outcomes.{same-flat-reply}
use Rattle.flat_compose.proofs.add.Kinds as add
use Rattle.flat_compose.proofs.add.Reads as add_reads

add_is : Determined 2 add.ps add.r (List ℕ) (λ κs s. s.1.1.0.now) add_reads.Post
add_is κs a x y s t = same-flat-reply
