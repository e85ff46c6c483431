-- The outcomes of the room's entries are determined.
-- Assumes nothing.
use Rattle.wire.proofs.Outcomes.{Answered, same_answer}
use Rattle.ufo.proofs.down.read_down.Kinds as read_down
use Rattle.ufo.proofs.down.read_down.Reads as read-down-reads

read-down-is : Answered 1 read_down.ps read_down.r read-down-reads.Post
read-down-is κs a x y s t = same_answer
