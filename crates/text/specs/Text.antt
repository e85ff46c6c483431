-- Text fields: ASCII letters and digits, padded with spaces on one side.
-- Assumes nothing.
use Rattle.std.specs.Prelude.{ℕ, List, [], ◌∷◌, Bool, true, ◌&&◌, ◌||◌, if◌then◌else◌}
use Rattle.wire.specs.Checks.{◌is◌, ◌at_most◌}

-- 0 to 9, A to Z, a to z; Alphabet shows that they are the sixty-two
unfoldable pub letter_or_digit : ℕ → Bool
letter_or_digit b =
    48 at_most b && b at_most 57
    || 65 at_most b && b at_most 90
    || 97 at_most b && b at_most 122

-- nothing but spaces
unfoldable pub blank : List ℕ → Bool
blank [] = true
blank (b ∷ s) = b is 32 && blank s

-- nothing but letters and digits
unfoldable pub text : List ℕ → Bool
text [] = true
text (b ∷ s) = letter_or_digit b && text s

-- padded on the right
unfoldable pub text_then_spaces : List ℕ → Bool
text_then_spaces [] = true
text_then_spaces (b ∷ s) = if letter_or_digit b then text_then_spaces s else blank (b ∷ s)

-- padded on the left
unfoldable pub spaces_then_text : List ℕ → Bool
spaces_then_text [] = true
spaces_then_text (b ∷ s) = if b is 32 then spaces_then_text s else text (b ∷ s)
