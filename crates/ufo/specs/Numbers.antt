-- UFO's numbers stand in four bytes; a writer may be given more.
-- Assumes nothing.
use Rattle.std.specs.Prelude.{ℕ, ◌-◌, ◌^◌, min, Bool}
use Rattle.wire.specs.Checks.{◌at_most◌}

-- the highest number that the field can hold
abbrev pub highest : ℕ
highest = 2 ^ 32 - 1

-- whether it can hold n, and n brought down to what it can hold
abbrev pub held : ℕ → Bool
held n = n at_most highest

abbrev pub capped : ℕ → ℕ
capped n = min n highest
