-- The outcomes of the room's functions are determined.
-- Assumes nothing.
use Rattle.wire.proofs.Outcomes.{Answered, same_answer}
use Rattle.blocks.proofs.next.Kinds as next
use Rattle.blocks.proofs.next.Reads as next-reads
use Rattle.blocks.proofs.exactly.Kinds as exactly
use Rattle.blocks.proofs.exactly.Reads as exactly-Reads
use Rattle.blocks.proofs.count_upstream.Kinds as count-upstream
use Rattle.blocks.proofs.count_upstream.Reads as count-upstream-reads
use Rattle.blocks.proofs.skip.Kinds as skip
use Rattle.blocks.proofs.skip.Reads as skip-reads

next-is : Answered 1 next.ps next.r next-reads.Post
next-is κs a x y s t = same_answer

exactly-is : Answered 1 exactly.ps exactly.r exactly-Reads.Post
exactly-is κs a x y s t = same_answer

count-upstream-is : Answered 1 count-upstream.ps count-upstream.r count-upstream-reads.Post
count-upstream-is κs a x y s t = same_answer

skip_is : Answered 1 skip.ps skip.r skip-reads.Post
skip_is κs a x y s t = same_answer
