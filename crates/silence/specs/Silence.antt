-- Silence, in whole milliseconds.
-- Assumes nothing.
use Rattle.std.specs.Prelude.{ℕ, ◌-◌, [], ◌∷◌, Bool, not}
use Rattle.wire.specs.Checks.{◌at_most◌, Verdict, taken, ◌else◌, checked}
use Rattle.wire.specs.declared.kinds.Tick.{Tick}
use Rattle.wire.specs.declared.refusal.Refusal.TheVariants.{Clock}

-- now minus the last one exceeds the limit; `Meaning` says of the two limits that are asked for which readings of the clock that is
abbrev pub exceeds : ℕ → Tick → Tick → Verdict Bool
exceeds limit now last = checked ((last.0 at_most now.0 else Clock) ∷ []) (taken (not (now.0 - last.0 at_most limit)))
