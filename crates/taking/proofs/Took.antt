-- What is known of a report that was taken, and of a datagram, and what is enough for each.
-- Assumes nothing.
use Prim.Native.Nat.{ℕ, ◌≤◌}
use mathlib.Core.List.{List}
use mathlib.Core.Path.{◌≡◌, refl}
use mathlib.Core.Bool.{true, false}
use borrow.Author.Tests.{le-leb, leb-true, not-true}
use lib.ListN.{length}
use Rattle.wire.specs.Checks.{taken, ◌into◌}
use Rattle.wire.proofs.Checks.{all-passed, passed-all, went}
use Rattle.blocks.specs.Blocks.{frames}
use Rattle.held.specs.Hanging.{sound}
use Rattle.record.specs.Record.{hangs}
use Rattle.reports.specs.Reports.{Report, report_of}
use Rattle.taking.specs.Taking.{contradicts, delivered, Taking, outcome, report_checks, reporting, broken, taking}
use Rattle.record.specs.declared.Record.{Record}

-- what is known of a report that was taken
pub record TookReport (r : Record) (area : List ℕ) (room : ℕ) (report : Report) (t : Taking) : Type 0 where
  pub agrees : contradicts r report ≡ false
  pub fits : length (frames (delivered r area report)) ≤ room
  pub gives : t ≡ outcome r area report

pub took-report : (r : Record) (area : List ℕ) (room : ℕ) (report : Report) (t : Taking) → reporting r area room report ≡ taken t
    → TookReport r area room report t
unfolding reporting
took-report r area room report t e =
    let p = all-passed (report_checks r area room report) (taken (outcome r area report)) t e in
    record { agrees = not-true (contradicts r report) p.0.0; fits = leb-true _ _ p.0.1.0; gives = cc p.1 }

-- and what is enough for it
pub takes-report : (r : Record) (area : List ℕ) (room : ℕ) (report : Report) → contradicts r report ≡ false
    → length (frames (delivered r area report)) ≤ room → reporting r area room report ≡ taken (outcome r area report)
unfolding reporting
takes-report r area room report a b =
    passed-all (report_checks r area room report) (taken (outcome r area report)) (rw a refl, (le-leb _ _ b, tt))

-- and of a datagram
pub record Took (r : Record) (area d : List ℕ) (room : ℕ) (t : Taking) : Type 0 where
  pub hangs : hangs r ≡ true
  pub sound : sound r.held area ≡ true
  pub report : Report
  pub reports : report_of r.session d ≡ taken report
  pub reported : TookReport r area room report t

module _ (r : Record) (area d : List ℕ) (room : ℕ) where
  pub took : (t : Taking) → taking r area d room ≡ taken t → Took r area d room t
  unfolding taking
  took t e =
      let p = all-passed (broken r area) (report_of r.session d into reporting r area room) t e in
      let w = went (report_of r.session d) (reporting r area room) t p.1 in
      record {
        hangs = p.0.0;
        sound = p.0.1.0;
        report = w.by;
        reports = w.was;
        reported = took-report r area room w.by t w.gave;
      }

  pub takes : (report : Report) → hangs r ≡ true → sound r.held area ≡ true → report_of r.session d ≡ taken report
      → contradicts r report ≡ false → length (frames (delivered r area report)) ≤ room
      → taking r area d room ≡ taken (outcome r area report)
  unfolding taking
  takes report h s e c l = rw (h, s, e) (takes-report r area room report c l)
