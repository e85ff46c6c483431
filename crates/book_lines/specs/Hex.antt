-- Bytes in a text, as hexadecimal digits in capitals.
-- Assumes nothing.
use Rattle.std.specs.Prelude.{◌≡◌, ℕ, ◌+◌, ◌-◌, ◌*◌, ◌≤◌, ◌&&◌, List, [], ◌∷◌, length, take, if◌then◌else◌}
use Rattle.std.specs.Prelude.{Option, Some, None}
use Rattle.wire.specs.Checks.{◌at_most◌}

-- 0 to 9, A to F
unfoldable pub digit : ℕ → Option ℕ
digit b =
    if 48 at_most b && b at_most 57 then Some (b - 48) else
    if 65 at_most b && b at_most 70 then Some (b - 65 + 10) else
    None

-- what a digit and the bytes after it spell, where `high` is the digit that waits for its second one, if one does
unfoldable pub onto : Option ℕ → Option ℕ → (Option ℕ → List ℕ) → List ℕ
onto high None rest = rest high
onto None (Some low) rest = rest (Some low)
onto (Some high) (Some low) rest = (high * 16 + low) ∷ rest None

-- the bytes that a text spells, two digits each, whatever stands between them
unfoldable pub spelt : Option ℕ → List ℕ → List ℕ
spelt high [] = []
spelt high (b ∷ s) = onto high (digit b) (λ h. spelt h s)

-- a text that is longer than the room spells nothing
abbrev pub within : ℕ → List ℕ → List ℕ
within room text = if length text at_most room then spelt None text else []

-- so many bytes stand at the start: a slice up to there lies within, and is as long
abbrev pub Counts : ℕ → List ℕ → Type 0
Counts n s = (n ≤ length s) × (n ≡ length (take n s))
