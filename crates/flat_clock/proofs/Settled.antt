-- The outcomes of the room's functions are determined.
-- Assumes nothing.
use Rattle.wire.proofs.Outcomes.{Answered, same_answer}
use Rattle.flat_clock.proofs.sheet_of.Kinds as sheet-of
use Rattle.flat_clock.proofs.sheet_of.Reads as sheet-of-reads
use Rattle.flat_clock.proofs.known_sheet.Kinds as known-sheet
use Rattle.flat_clock.proofs.known_sheet.Reads as known-sheet-reads
use Rattle.flat_clock.proofs.rule_of.Kinds as rule-of
use Rattle.flat_clock.proofs.rule_of.Reads as rule-of-reads
use Rattle.flat_clock.proofs.time.Kinds as time
use Rattle.flat_clock.proofs.time.Reads as time-reads
use Rattle.flat_clock.proofs.wait_of.Kinds as wait-of
use Rattle.flat_clock.proofs.wait_of.Reads as wait-of-reads
use Rattle.flat_clock.proofs.line_lost.Kinds as line-lost
use Rattle.flat_clock.proofs.line_lost.Reads as line-lost-reads
use Rattle.flat_clock.proofs.heartbeat_due.Kinds as heartbeat-due
use Rattle.flat_clock.proofs.heartbeat_due.Reads as heartbeat-due-reads

sheet-of-is : Answered 0 sheet-of.ps sheet-of.r sheet-of-reads.Post
sheet-of-is κs a x y s t = same_answer

known-sheet-is : Answered 0 known-sheet.ps known-sheet.r known-sheet-reads.Post
known-sheet-is κs a x y s t = same_answer

rule-of-is : Answered 0 rule-of.ps rule-of.r rule-of-reads.Post
rule-of-is κs a x y s t = same_answer

time-is : Answered 0 time.ps time.r time-reads.Post
time-is κs a x y s t = same_answer

wait-of-is : Answered 0 wait-of.ps wait-of.r wait-of-reads.Post
wait-of-is κs a x y s t = same_answer

line-lost-is : Answered 0 line-lost.ps line-lost.r line-lost-reads.Post
line-lost-is κs a x y s t = same_answer

heartbeat-due-is : Answered 0 heartbeat-due.ps heartbeat-due.r heartbeat-due-reads.Post
heartbeat-due-is κs a x y s t = same_answer
