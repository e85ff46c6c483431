-- The outcomes of the room's entries are determined.
-- Assumes nothing.
use Rattle.wire.proofs.Outcomes.{Answered, same_answer}
use Rattle.silence.proofs.line_lost.Kinds as line-lost
use Rattle.silence.proofs.line_lost.Reads as line-lost-reads
use Rattle.silence.proofs.heartbeat_due.Kinds as heartbeat-due
use Rattle.silence.proofs.heartbeat_due.Reads as heartbeat-due-reads

line-lost-is : Answered 0 line-lost.ps line-lost.r line-lost-reads.Post
line-lost-is κs a x y s t = same_answer

heartbeat-due-is : Answered 0 heartbeat-due.ps heartbeat-due.r heartbeat-due-reads.Post
heartbeat-due-is κs a x y s t = same_answer
