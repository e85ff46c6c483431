-- A sheet, and a wait rule, laid flat and taken up again are the same.
-- Assumes nothing.
use mathlib.Core.Path.{◌≡◌, refl}
use Rattle.wire.specs.Checks.{taken}
use Rattle.clock.specs.Milliseconds.{whole}
use Rattle.clock.specs.declared.sheet.Sheet.{Sheet}
use Rattle.clock.specs.declared.patience.Patience.{Patience}
use Rattle.clock.specs.declared.patience.Patience.TheVariants.{Never, Fixed, Measured}
use Rattle.flat.proofs.Flags.{flag-again, says-again}
use Rattle.flat_clock.specs.Waiting.{known_sheet, flat_sheet, rule_of}
use Rattle.flat_clock.specs.declared.FlatPatience.{FlatPatience}

pub sheet-again : (s : Sheet) → known_sheet (flat_sheet s) ≡ taken s
sheet-again s = rw (flag-again s.timed, says-again s.timed)

-- the face only takes rules, so this is said of the header's own words: 0 never; 1 fixed; 2 measured, the floor first
abbrev pub flat_rule : Patience → FlatPatience
flat_rule Never = record { rule = 0; first = whole 0; second = whole 0 }
flat_rule (Fixed wait) = record { rule = 1; first = wait; second = whole 0 }
flat_rule (Measured floor ceiling) = record { rule = 2; first = floor; second = ceiling }

pub rule-again : (p : Patience) → rule_of (flat_rule p) ≡ p
rule-again Never = refl
rule-again (Fixed wait) = refl
rule-again (Measured floor ceiling) = refl
