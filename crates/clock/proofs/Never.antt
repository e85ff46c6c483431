-- A rule that never asks twice has no wait, and so none that is over.
-- Assumes nothing.
use mathlib.Core.Path.{◌≡◌, sym}
use mathlib.Core.Bool.{Bool, false}
use lib.Ieee.{Float}
use Rattle.wire.specs.Checks.{taken}
use Rattle.wire.proofs.Checks.{all-passed, taken-same}
use Rattle.clock.specs.Patience.{wait_over_checks, wait_over}
use Rattle.clock.specs.declared.sheet.Sheet.{Sheet}
use Rattle.clock.specs.declared.patience.Patience.TheVariants.{Never}

pub never-past : (s : Sheet) (elapsed : Float) (late : Bool) → wait_over s Never elapsed ≡ taken late → late ≡ false
never-past s elapsed late e = sym (taken-same false late (all-passed (wait_over_checks s Never elapsed) (taken false) late e).1)
