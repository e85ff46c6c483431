-- The outcomes of the room's entries are determined.
-- Assumes nothing.
use Rattle.wire.proofs.Outcomes.{Answered, same_answer}
use Rattle.ufo_up.proofs.up.read_up.Kinds as read_up
use Rattle.ufo_up.proofs.up.read_up.Reads as read-up-reads
use Rattle.ufo_up.proofs.up.read_message.Kinds as read-message
use Rattle.ufo_up.proofs.up.read_message.Reads as read-message-reads

read-up-is : Answered 1 read_up.ps read_up.r read-up-reads.Post
read-up-is κs a x y s t = same_answer

read-message-is : Answered 1 read-message.ps read-message.r read-message-reads.Post
read-message-is κs a x y s t = same_answer
