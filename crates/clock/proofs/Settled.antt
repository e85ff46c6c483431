-- The outcomes of the room's entries are determined.
-- Assumes nothing.
use Rattle.wire.proofs.Outcomes.{Answered, same_answer}
use Rattle.clock.proofs.sheet.is_sound.Kinds as is-sound
use Rattle.clock.proofs.sheet.is_sound.Reads as is-sound-reads
use Rattle.clock.proofs.sheet.time.Kinds as time
use Rattle.clock.proofs.sheet.time.Reads as time-reads
use Rattle.clock.proofs.patience.wait_of.Kinds as wait-of
use Rattle.clock.proofs.patience.wait_of.Reads as wait-of-reads
use Rattle.clock.proofs.patience.wait_over.Kinds as wait-over
use Rattle.clock.proofs.patience.wait_over.Reads as wait-over-reads

is-sound-is : Answered 0 is-sound.ps is-sound.r is-sound-reads.Post
is-sound-is κs a x y s t = same_answer

time-is : Answered 0 time.ps time.r time-reads.Post
time-is κs a x y s t = same_answer

wait-of-is : Answered 0 wait-of.ps wait-of.r wait-of-reads.Post
wait-of-is κs a x y s t = same_answer

wait-over-is : Answered 0 wait-over.ps wait-over.r wait-over-reads.Post
wait-over-is κs a x y s t = same_answer
