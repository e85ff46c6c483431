-- What is missing: the ranges of the numbers from N to T that are not held.
-- Assumes nothing.
use Rattle.std.specs.Prelude.{ℕ, zero, suc, ◌+◌, ◌-◌, List, [], ◌∷◌, Bool, ◌&&◌, get_or, if◌then◌else◌}
use Rattle.wire.specs.Checks.{◌is◌, ◌at_most◌}
use Rattle.held.specs.Slots.{full}
use Rattle.missing.specs.declared.Range.{Range}

infix 40 ◌to◌
infixr 30 ◌before◌
infixl 40 ◌at◌
-- message m is held: it is one of N+1 to N+31, and its slot is full
abbrev pub is_held : (held next m : ℕ) → Bool
is_held held next m = next + 1 at_most m && m at_most next + 31 && full held m

abbrev pub ◌to◌ : ℕ → ℕ → Range
first to last = record { first = record { 0 = first }; last = record { 0 = last } }

-- a missing number set before the ranges of those after it: it widens the first range if it stands next to it
abbrev pub ◌before◌ : ℕ → List Range → List Range
m before [] = (m to m) ∷ []
m before (r ∷ rs) = if r.first.0 is suc m then (m to r.last.0) ∷ rs else (m to m) ∷ r ∷ rs

-- the ranges of those among n numbers from m on that are not so
unfoldable pub ranges : (ℕ → Bool) → (m n : ℕ) → List Range
ranges so m zero = []
ranges so m (suc n) = if so m then ranges so (suc m) n else m before ranges so (suc m) n

-- from N to T, those that are not held; none if N > T; Exactly.missing-exactly: these and no others, missing-apart: in ranges apart
unfoldable pub missing : (held next top : ℕ) → List Range
missing held next top = ranges (is_held held next) next (top + 1 - next)

-- the range at a place, counted from 0; noughts where there is none, as the face tells the code's None
abbrev pub ◌at◌ : List Range → ℕ → Range
rs at place = get_or rs place (0 to 0)
