-- The outcomes of the room's entries are determined.
-- Assumes nothing.
use Prim.Native.Nat.{ℕ}
use mathlib.Core.List.{List}
use Rattle.wire.proofs.Outcomes.{Answered, Determined, same_answer, same-both}
use Rattle.lent_log.proofs.hangs_together.Kinds as hangs-together
use Rattle.lent_log.proofs.hangs_together.Reads as hangs-together-reads
use Rattle.lent_log.proofs.add.Kinds as add
use Rattle.lent_log.proofs.add.Reads as add_reads
use Rattle.lent_log.proofs.add_many.Kinds as add-many
use Rattle.lent_log.proofs.add_many.Reads as add-many-reads
use Rattle.lent_log.proofs.declare_end.Kinds as declare-end
use Rattle.lent_log.proofs.declare_end.Reads as declare-end-reads

hangs-together-is : Answered 1 hangs-together.ps hangs-together.r hangs-together-reads.Post
hangs-together-is κs a x y s t = same_answer

add_is : Determined 2 add.ps add.r (List ℕ) (λ κs s. s.1.0.now) add_reads.Post
add_is κs a x y s t p q = same-both p.answer q.answer p.bytes q.bytes

add-many-is : Determined 2 add-many.ps add-many.r (List ℕ) (λ κs s. s.1.0.now) add-many-reads.Post
add-many-is κs a x y s t p q = same-both p.answer q.answer p.bytes q.bytes

declare-end-is : Answered 1 declare-end.ps declare-end.r declare-end-reads.Post
declare-end-is κs a x y s t = same_answer
