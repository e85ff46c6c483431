-- The outcomes of the room's entries are determined.
-- Assumes nothing.
use Rattle.wire.proofs.Outcomes.{Answered, same_answer}
use Rattle.decimal.proofs.read.Kinds as read
use Rattle.decimal.proofs.read.Reads as read-reads
use Rattle.decimal.proofs.characters.Kinds as characters
use Rattle.decimal.proofs.characters.Reads as characters-reads

read_is : Answered 1 read.ps read.r read-reads.Post
read_is κs a x y s t = same_answer

characters-is : Answered 0 characters.ps characters.r characters-reads.Post
characters-is κs a x y s t = same_answer
