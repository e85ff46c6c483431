-- A number on the wire: twenty characters, spaces and then digits.
-- Assumes nothing.
use Rattle.std.specs.Prelude.{ℕ, zero, suc, ◌+◌, ◌-◌, ◌*◌, ◌/◌, ◌%◌, ◌^◌, Bool, true, not, ◌&&◌, ◌||◌, List, [], ◌∷◌, length, if◌then◌else◌}
use Rattle.std.specs.Prelude.{slice_index_or, Result, Ok, Err}
use Rattle.wire.specs.Checks.{◌is◌, ◌at_most◌}
use Rattle.text.specs.Text.{blank}
use Rattle.decimal.specs.declared.Fault.{Fault}
use Rattle.decimal.specs.declared.Fault.TheVariants.{Misshapen, Blank, Over}

-- 0 to 9
unfoldable pub digit : ℕ → Bool
digit b = 48 at_most b && b at_most 57

-- nothing but digits
unfoldable pub digits : List ℕ → Bool
digits [] = true
digits (b ∷ s) = digit b && digits s

-- what follows the spaces in front
unfoldable pub trimmed : List ℕ → List ℕ
trimmed [] = []
trimmed (b ∷ s) = if b is 32 then trimmed s else b ∷ s

-- spaces, then digits
unfoldable pub well_formed : List ℕ → Bool
well_formed s = digits (trimmed s)

-- each digit times ten to the power of how many follow it
unfoldable pub spelt : List ℕ → ℕ
spelt [] = 0
spelt (b ∷ s) = (b - 48) * 10 ^ length s + spelt s

-- the number that stands after the spaces; Noughts shows that noughts in front of it count for nothing
unfoldable pub value_of : List ℕ → ℕ
value_of s = spelt (trimmed s)

-- the character at the place of 10 ^ k: the digit of n there, or a space where n doesn't reach so far;
-- the last place always has its digit
unfoldable pub character : ℕ → ℕ → ℕ
character n k = if k is 0 || 10 ^ k at_most n then 48 + n / 10 ^ k % 10 else 32

-- the last k places, from the left
unfoldable pub places : ℕ → ℕ → List ℕ
places zero n = []
places (suc k) n = character n k ∷ places k n

-- the twenty characters that spell n; Written shows that reading and writing agree
unfoldable pub written : ℕ → List ℕ
written n = places 20 n

-- padded with noughts: a 0 after the spaces, and more behind it; read, but never written
unfoldable pub leading_zero : List ℕ → Bool
leading_zero s = 2 at_most length (trimmed s) && slice_index_or (trimmed s) 0 0 is 48

-- a value, unless it is over the bound
abbrev pub fitted : ℕ → Result ℕ Fault
fitted n = if n at_most 2 ^ 64 - 1 then Ok n else Err Over

-- what any characters come to; ReadAs shows that twenty spaces are no number, and never 0
unfoldable pub number_of : List ℕ → Result ℕ Fault
number_of s =
    if not (length s is 20 && well_formed s) then Err Misshapen
    else if blank s then Err Blank
    else fitted (value_of s)
