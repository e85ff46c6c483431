-- The specimen book's samples, 100, 60 and 95, worked out: mean 100, 95, 95; spread 50, 47.5, 35.625; waits 300, 285, 237.5.
-- Assumes nothing.
use Rattle.std.specs.Prelude.{Some}
use mathlib.Core.Path.{◌≡◌, refl}
use mathlib.Core.Bool.{true, false}
use lib.Ieee.{Float, round, add, sub, mul, div, neg, le, lt}
use Rattle.wire.specs.Checks.{taken}
use Rattle.clock.specs.Milliseconds.{decimal, whole}
use Rattle.clock.specs.Sheet.{smoothed, timing}
use Rattle.clock.specs.Patience.{waiting}
use Rattle.clock.specs.declared.sheet.Sheet.{Sheet}
use Rattle.clock.specs.declared.patience.Patience.{Patience}
use Rattle.clock.specs.declared.patience.Patience.TheVariants.{Measured}

abbrev sheet : Float → Float → Sheet
sheet mean spread = record { mean = mean; spread = spread; timed = true }

abbrev fresh : Sheet
fresh = record { mean = whole 0; spread = whole 0; timed = false }

abbrev first : Sheet
first = sheet (whole 100) (whole 50)

abbrev second : Sheet
second = sheet (whole 95) (decimal 475 10)

abbrev third : Sheet
third = sheet (whole 95) (decimal 35625 1000)

pub samples : (timing fresh (whole 100) ≡ taken first) × (timing first (whole 60) ≡ taken second) × (timing second (whole 95) ≡ taken third)
unfolding smoothed add sub mul div le lt neg round
samples = (refl, refl, refl)

-- within a floor of a millisecond and a ceiling of a minute
abbrev wide : Patience
wide = Measured (whole 1) (whole 60000)

pub waits : (waiting first wide ≡ taken (Some (whole 300))) × (waiting second wide ≡ taken (Some (whole 285)))
    × (waiting third wide ≡ taken (Some (decimal 2375 10)))
unfolding add mul le lt round
waits = (refl, refl, refl)
