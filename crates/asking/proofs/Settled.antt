-- The outcomes of the room's entries are determined.
-- Assumes nothing.
use Rattle.wire.proofs.Outcomes.{Answered, same_answer}
use Rattle.asking.proofs.ask.Kinds as ask
use Rattle.asking.proofs.ask.Reads as ask-reads

ask-is : Answered 0 ask.ps ask.r ask-reads.Post
ask-is κs a x y s t = same_answer
