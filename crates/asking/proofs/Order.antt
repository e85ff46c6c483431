-- Asking is checked in the scope's order: every 10, the record's and the sheet's, and then 15, the rule's and the elapsed time's.
-- Assumes nothing.
use mathlib.Core.Path.{◌≡◌, refl}
use mathlib.Core.Bool.{true}
use mathlib.Core.List.{[], ◌∷◌}
use lib.Ieee.{Float}
use Rattle.wire.specs.Checks.{taken, ◌else◌, checked, in_order}
use Rattle.wire.specs.declared.refusal.Refusal.TheVariants.{Broken}
use Rattle.wire.proofs.Checks.{into-checked}
use Rattle.clock.specs.Patience.{wait_under, past, wait_over_checks}
use Rattle.clock.specs.declared.sheet.Sheet.{Sheet}
use Rattle.clock.specs.declared.patience.Patience.{Patience}
use Rattle.record.specs.Record.{hangs}
use Rattle.record.specs.declared.Record.{Record}
use Rattle.asking.specs.Asking.{wish, asking}

module _ (r : Record) (s : Sheet) (p : Patience) (elapsed : Float) where
  pub asking-checks : asking r s p elapsed ≡ checked ((hangs r else Broken) ∷ wait_over_checks s p elapsed)
      (taken (wish r (past (wait_under s p) elapsed)))
  unfolding asking
  asking-checks = rw (into-checked (wait_over_checks s p elapsed) (taken (past (wait_under s p) elapsed)) (λ late. taken (wish r late)))

  pub asking-in-order : in_order (10 ∷ 15 ∷ []) ((hangs r else Broken) ∷ wait_over_checks s p elapsed) ≡ true
  asking-in-order = refl
