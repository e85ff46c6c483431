-- Numbers one after another that are all held, or all missing. Those called first, last, ahead, past and reach are counted from N.
-- Assumes nothing.
use Rattle.std.specs.Prelude.{ℕ, ◌+◌, ◌-◌, ◌≤◌, ◌<◌, ◌≡◌, Bool, true, false, List, [], drop, Option, None, Some}
use Rattle.missing.specs.Missing.{ranges}
use Rattle.missing.specs.declared.Range.{Range}

-- the numbers from m to before e are all so, or all are not
abbrev pub Runs : (ℕ → Bool) → Bool → (m e : ℕ) → Type 0
Runs so is m e = (k : ℕ) → m ≤ k → k < e → so k ≡ is

-- those from first to last are missing, and the next one is held or is past the reach
pub record LastOf (so : ℕ → Bool) (next reach first last : ℕ) : Type 0 where
  pub after : first ≤ last
  pub within : last ≤ reach
  pub gap : Runs so false (next + first) (next + (last + 1))
  pub ends : last < reach → so (next + (last + 1)) ≡ true

-- those from ahead to before past are held, and past is not
pub record PastHeld (so : ℕ → Bool) (next ahead past : ℕ) : Type 0 where
  pub after : ahead ≤ past
  pub near : past ≤ 32
  pub filled : Runs so true (next + ahead) (next + past)
  pub free : so (next + past) ≡ false

-- the ranges of the numbers from first to the reach
abbrev pub ranges_from : (ℕ → Bool) → (next reach first : ℕ) → List Range
ranges_from so next reach first = ranges so (next + first) (reach + 1 - first)

-- a range begins at begins that follows the one from first on: with those behind it
pub record Begins (so : ℕ → Bool) (next reach first begins : ℕ) : Type 0 where
  pub within : begins ≤ reach
  pub free : so (next + begins) ≡ false
  pub others : drop 1 (ranges_from so next reach first) ≡ ranges_from so next reach begins

-- and none where the one from first on is the last
abbrev pub Follows : (ℕ → Bool) → (next reach first : ℕ) → Option ℕ → Type 0
Follows so next reach first None = drop 1 (ranges_from so next reach first) ≡ []
Follows so next reach first (Some begins) = Begins so next reach first begins
