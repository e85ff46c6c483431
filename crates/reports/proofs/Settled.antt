-- The outcomes of the room's entry are determined.
-- Assumes nothing.
use Rattle.wire.proofs.Outcomes.{Answered, same_answer}
use Rattle.reports.proofs.report_of.Kinds as report-of
use Rattle.reports.proofs.report_of.Reads as report-of-reads

report-of-is : Answered 1 report-of.ps report-of.r report-of-reads.Post
report-of-is κs a x y s t = same_answer
