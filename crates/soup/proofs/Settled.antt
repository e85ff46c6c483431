-- The outcomes of the room's entries are determined.
-- Assumes nothing.
use Rattle.wire.proofs.Outcomes.{Answered, same_answer}
use Rattle.soup.proofs.line.is_unbroken.Kinds as is-unbroken
use Rattle.soup.proofs.line.is_unbroken.Reads as is-unbroken-reads
use Rattle.soup.proofs.reading.read.Kinds as read
use Rattle.soup.proofs.reading.read.Reads as read-reads

is-unbroken-is : Answered 1 is-unbroken.ps is-unbroken.r is-unbroken-reads.Post
is-unbroken-is κs a x y s t = same_answer

read_is : Answered 1 read.ps read.r read-reads.Post
read_is κs a x y s t = same_answer
