-- A datagram is taken in the scope's order: 10, of the record and of the area; whatever is refused in reporting it (the reader's numbers,
-- 16, 11); 12; 9.
-- Assumes nothing.
use Prim.Native.Nat.{ℕ}
use mathlib.Core.Path.{◌≡◌, refl}
use mathlib.Core.Bool.{true, false}
use mathlib.Core.List.{List, [], ◌∷◌}
use Rattle.wire.specs.Checks.{refused, taken, ◌else◌, checked, in_order}
use Rattle.wire.specs.declared.refusal.Refusal.{Refusal}
use Rattle.wire.specs.declared.refusal.Refusal.TheVariants.{Broken}
use Rattle.wire.proofs.Tests.{by-test}
use Rattle.held.specs.Hanging.{sound}
use Rattle.record.specs.Record.{hangs}
use Rattle.record.specs.declared.Record.{Record}
use Rattle.reports.specs.Reports.{Report, report_of}
use Rattle.taking.specs.Taking.{outcome, report_checks, reporting, taking}

module _ (r : Record) (area d : List ℕ) (room : ℕ) where
  pub broken-is-10-first : hangs r ≡ false → taking r area d room ≡ refused Broken
  unfolding taking
  broken-is-10-first h = rw h

  pub broken-area-is-10-first : sound r.held area ≡ false → taking r area d room ≡ refused Broken
  unfolding taking
  broken-area-is-10-first s = by-test (hangs r) (λ h. rw (h, s)) (λ h. rw h)

  pub then-as-it-is-reported : (why : Refusal) → hangs r ≡ true → sound r.held area ≡ true → report_of r.session d ≡ refused why
      → taking r area d room ≡ refused why
  unfolding taking
  then-as-it-is-reported why h s e = rw (h, s, e)

  pub then-by-these-checks : (report : Report) → report_of r.session d ≡ taken report
      → taking r area d room ≡ checked ((hangs r else Broken) ∷ (sound r.held area else Broken) ∷ report_checks r area room report)
      (taken (outcome r area report))
  unfolding taking reporting
  then-by-these-checks report e = rw e

  pub taking-in-order : (report : Report)
      → in_order (10 ∷ 12 ∷ 9 ∷ []) ((hangs r else Broken) ∷ (sound r.held area else Broken) ∷ report_checks r area room report) ≡ true
  taking-in-order report = refl
