-- The outcomes of the room's functions are determined.
-- Assumes nothing.
use Prim.Native.Nat.{ℕ}
use mathlib.Core.List.{List}
use Rattle.wire.proofs.Outcomes.{Answered, Determined, same_answer}
use Rattle.flat.proofs.Outcomes.{same-flat-reply}
use Rattle.flat_ufo_up.proofs.read.Kinds as read
use Rattle.flat_ufo_up.proofs.read.Reads as read-reads
use Rattle.flat_ufo_up.proofs.read_message.Kinds as read-message
use Rattle.flat_ufo_up.proofs.read_message.Reads as read-message-reads
use Rattle.flat_ufo_up.proofs.write_message.Kinds as write-message
use Rattle.flat_ufo_up.proofs.write_message.Reads as write-message-reads

read_is : Answered 1 read.ps read.r read-reads.Post
read_is κs a x y s t = same_answer

read-message-is : Answered 1 read-message.ps read-message.r read-message-reads.Post
read-message-is κs a x y s t = same_answer

write-message-is : Determined 2 write-message.ps write-message.r (List ℕ) (λ κs s. s.1.1.0.now) write-message-reads.Post
write-message-is κs a x y s t = same-flat-reply
