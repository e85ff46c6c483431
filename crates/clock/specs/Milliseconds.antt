-- Fractional milliseconds, as f64. `decimal n d` is the f64 nearest to n / d, so `decimal 75 100` reads 0.75.
-- Assumes nothing.
use Rattle.std.specs.Prelude.{ℕ, Bool, false, ◌&&◌, Float}
use Rattle.std.specs.Float.{binary64}
use Rattle.std.specs.Float.Ieee.{round, le}

abbrev pub decimal : ℕ → ℕ → Float
decimal n d = round binary64 false n d

abbrev pub whole : ℕ → Float
whole n = decimal n 1

-- low ≤ x ≤ high, which fails where one of them is not a number
abbrev pub between : Float → Float → Float → Bool
between low x high = le low x && le x high

-- what a sample, and a timed mean or spread, may be
abbrev pub lawful : Float → Bool
lawful x = between (whole 0) x (whole 60000)
