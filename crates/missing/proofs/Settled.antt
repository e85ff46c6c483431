-- The outcomes of the room's entries are determined.
-- Assumes nothing.
use Rattle.wire.proofs.Outcomes.{Answered, same_answer}
use Rattle.missing.proofs.count.Kinds as count
use Rattle.missing.proofs.count.Reads as count-reads
use Rattle.missing.proofs.at.Kinds as at
use Rattle.missing.proofs.at.Reads as at_reads

count-is : Answered 0 count.ps count.r count-reads.Post
count-is κs a x y s t = same_answer

at-is : Answered 0 at.ps at.r at_reads.Post
at-is κs a x y s t = same_answer
