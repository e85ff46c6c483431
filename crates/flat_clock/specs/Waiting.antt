-- Sheets, wait rules, and what the clock answers.
-- Assumes nothing.
use Rattle.std.specs.Prelude.{ℕ, [], ◌∷◌, Bool, Option, Some, None, Float, if◌then◌else◌}
use Rattle.wire.specs.Checks.{◌is◌, Verdict, refused, taken, ◌else◌, checked, ◌into◌}
use Rattle.wire.specs.Refusals.{number_of}
use Rattle.wire.specs.declared.refusal.Refusal.TheVariants.{Broken}
use Rattle.clock.specs.Milliseconds.{whole}
use Rattle.clock.specs.Patience.{waiting}
use Rattle.clock.specs.Sheet.{timing}
use Rattle.silence.specs.Silence.{exceeds}
use Rattle.clock.specs.declared.sheet.Sheet.{Sheet}
use Rattle.clock.specs.declared.patience.Patience.{Patience}
use Rattle.clock.specs.declared.patience.Patience.TheVariants.{Never, Fixed, Measured}
use Rattle.flat.specs.Flag.{is_flag, says, byte_of}
use Rattle.flat_clock.specs.declared.FlatSheet.{FlatSheet}
use Rattle.flat_clock.specs.declared.FlatPatience.{FlatPatience}
use Rattle.flat_clock.specs.declared.FlatTimed.{FlatTimed}
use Rattle.flat_clock.specs.declared.FlatWait.{FlatWait}
use Rattle.flat_clock.specs.declared.FlatSaid.{FlatSaid}

-- the sheet that a flat one is, if its flag is a flag, and back
abbrev pub sheet_of : FlatSheet → Sheet
sheet_of s = record { mean = s.mean; spread = s.spread; timed = says s.timed }

abbrev pub known_sheet : FlatSheet → Verdict Sheet
known_sheet s = checked ((is_flag s.timed else Broken) ∷ []) (taken (sheet_of s))

abbrev pub flat_sheet : Sheet → FlatSheet
flat_sheet s = record { mean = s.mean; spread = s.spread; timed = byte_of s.timed }

-- on a refusal the sheet that was given
abbrev pub flat_timed : FlatSheet → Verdict Sheet → FlatTimed
flat_timed given (refused why) = record { refusal = number_of why; sheet = given }
flat_timed given (taken after) = record { refusal = 0; sheet = flat_sheet after }

-- 0 never; 1 fixed; 2 measured, the floor first; another is taken for a wait of 0, which is out of range
abbrev pub rule_of : FlatPatience → Patience
rule_of p =
    if p.rule is 0 then Never else
    if p.rule is 1 then Fixed p.first else
    if p.rule is 2 then Measured p.first p.second else
    Fixed (whole 0)

abbrev pub flat_wait : Verdict (Option Float) → FlatWait
flat_wait (refused why) = record { refusal = number_of why; waits = 0; milliseconds = whole 0 }
flat_wait (taken None) = record { refusal = 0; waits = 0; milliseconds = whole 0 }
flat_wait (taken (Some w)) = record { refusal = 0; waits = 1; milliseconds = w }

abbrev pub flat_said : Verdict Bool → FlatSaid
flat_said (refused why) = record { refusal = number_of why; yes = 0 }
flat_said (taken so) = record { refusal = 0; yes = byte_of so }

-- the entries: a flag that is none is 10, before all else
abbrev pub time_answer : FlatSheet → Float → FlatTimed
time_answer given sample = flat_timed given (known_sheet given into λ s. timing s sample)

abbrev pub wait_answer : FlatSheet → FlatPatience → FlatWait
wait_answer given patience = flat_wait (known_sheet given into λ s. waiting s (rule_of patience))

abbrev pub line_lost : (now heard : ℕ) → FlatSaid
line_lost now heard = flat_said (exceeds 10000 (record { 0 = now }) (record { 0 = heard }))

abbrev pub heartbeat_due : (now sent : ℕ) → FlatSaid
heartbeat_due now sent = flat_said (exceeds 1000 (record { 0 = now }) (record { 0 = sent }))
