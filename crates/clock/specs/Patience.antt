-- How long to wait under each rule, and whether the wait is over.
-- Assumes nothing.
use Rattle.std.specs.Prelude.{List, [], ◌∷◌, Bool, true, false, ◌&&◌, Float, if◌then◌else◌, Option, None, Some}
use Rattle.std.specs.Float.{binary64}
use Rattle.std.specs.Float.Ieee.{add, mul, le, lt}
use Rattle.wire.specs.Checks.{Verdict, taken, Check, ◌else◌, checked}
use Rattle.wire.specs.declared.refusal.Refusal.TheVariants.{Broken, Range}
use Rattle.clock.specs.Milliseconds.{whole, between}
use Rattle.clock.specs.Sheet.{sound}
use Rattle.clock.specs.declared.sheet.Sheet.{Sheet}
use Rattle.clock.specs.declared.patience.Patience.{Patience}
use Rattle.clock.specs.declared.patience.Patience.TheVariants.{Never, Fixed, Measured}

-- the rule is in range
abbrev pub in_range : Patience → Bool
in_range Never = true
in_range (Fixed w) = lt (whole 0) w && le w (whole 60000)
in_range (Measured floor ceiling) = lt (whole 0) floor && between floor ceiling (whole 60000)

abbrev pub measured : Sheet → Float
measured s = if s.timed then add binary64 s.mean (mul binary64 (whole 4) s.spread) else whole 1000

abbrev pub clamped : Float → Float → Float → Float
clamped floor ceiling w = if lt w floor then floor else if lt ceiling w then ceiling else w

-- the rule's wait, if it has one; a measured one lies between floor and ceiling (`Waits.wait-between`)
abbrev pub wait_under : Sheet → Patience → Option Float
wait_under s Never = None
wait_under s (Fixed w) = Some w
wait_under s (Measured floor ceiling) = Some (clamped floor ceiling (measured s))

abbrev pub waiting : Sheet → Patience → Verdict (Option Float)
waiting s p = checked ((sound s else Broken) ∷ (in_range p else Range) ∷ []) (taken (wait_under s p))

-- the rule has a wait, and elapsed is at least that wait
abbrev pub past : Option Float → Float → Bool
past None elapsed = false
past (Some w) elapsed = le w elapsed

-- what the elapsed milliseconds may be
abbrev pub within_day : Float → Bool
within_day elapsed = between (whole 0) elapsed (whole 86400000)

-- what is checked before anything is said of a wait
abbrev pub wait_over_checks : Sheet → Patience → Float → List Check
wait_over_checks s p elapsed = (sound s else Broken) ∷ (in_range p else Range) ∷ (within_day elapsed else Range) ∷ []

abbrev pub wait_over : Sheet → Patience → Float → Verdict Bool
wait_over s p elapsed = checked (wait_over_checks s p elapsed) (taken (past (wait_under s p) elapsed))
