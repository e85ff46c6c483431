use Rattle.reports.specs.Reports.{report_of}
use Rattle.reports.proofs.report_of.Goals as goal

pub returns-in-Ufo : goal.returns-in-Ufo
unfolding report_of
returns-in-Ufo c = rw c.in-Ufo.is c.ufo_report.ensures

pub returns-in-Memx : goal.returns-in-Memx
unfolding report_of
returns-in-Memx c = rw c.in-Memx.is c.memx_report.ensures
