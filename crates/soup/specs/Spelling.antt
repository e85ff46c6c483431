-- The one spelling of a packet: its number as we write it, and all else as it came.
-- Assumes nothing.
use Rattle.std.specs.Prelude.{ℕ, ◌+◌, List, ◌++◌, Bool, false, get_or, take, drop, if◌then◌else◌}
use Rattle.wire.specs.Checks.{◌is◌}
use Rattle.decimal.specs.Decimal.{value_of, written, leading_zero}
use Rattle.soup.specs.Read.{field}

-- by where the number stands: an A has it at byte 11, an L at byte 27, any other packet has none
abbrev pub by_place : {R : Type 0} → (at : ℕ → R) (none : R) (d : List ℕ) → R
by_place at none d = if get_or d 0 0 is 65 then at 11 else if get_or d 0 0 is 76 then at 27 else none

-- the twenty bytes at a place spelt anew
unfoldable pub spelt_anew : List ℕ → ℕ → List ℕ
spelt_anew d place = take place d ++ written (value_of (field place 20 d)) ++ drop (place + 20) d

-- proofs/Spelling shows that a packet and its spelling are read alike
unfoldable pub spelling : List ℕ → List ℕ
spelling d = by_place (spelt_anew d) d d

-- its number is padded with noughts
unfoldable pub padded : List ℕ → Bool
padded d = by_place (λ place. leading_zero (field place 20 d)) false d
