-- The outcomes of the room's entries are determined.
-- Assumes nothing.
use Prim.Native.Nat.{ℕ}
use mathlib.Core.List.{List}
use Rattle.wire.proofs.Outcomes.{Answered, Determined, same_answer, same-reply}
use Rattle.ufo_compose.proofs.read_so_far.Kinds as read-so-far
use Rattle.ufo_compose.proofs.read_so_far.Reads as read-so-far-reads
use Rattle.ufo_compose.proofs.add_message.Kinds as add-message
use Rattle.ufo_compose.proofs.add_message.Reads as add-message-reads

read-so-far-is : Answered 1 read-so-far.ps read-so-far.r read-so-far-reads.Post
read-so-far-is κs a x y s t = same_answer

add-message-is : Determined 2 add-message.ps add-message.r (List ℕ) (λ κs s. s.1.1.0.now) add-message-reads.Post
add-message-is κs a x y s t = same-reply
