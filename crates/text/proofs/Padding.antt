-- A text in the library's words: each byte passes a test, or each from the first one on that fails another.
-- Assumes nothing.
use Rattle.std.specs.List.{list_all, position_or_len}
use Prim.Native.Nat.{ℕ, ◌-◌}
use Rattle.std.specs.Prelude.{Option, Some, None}
use Rattle.std.specs.Option.{unwrap_or}
use mathlib.Core.Bool.{not, cond, Bool}
use mathlib.Core.List.{List, [], ◌∷◌}
use mathlib.Core.Path.{◌≡◌, refl, ap, sym, ◌∙◌}
use native.Mathlib.Numerals.{one-add}
use lib.ListN.{length, take, drop, length-drop, drop_of_length-le}
use lib.Seq.{take_all}
use native.Mathlib.Omega.{arith}
use borrow.Author.Tests.{ltb-false}
use lib.Dec.{ltb}
use Rattle.wire.specs.Checks.{◌is◌}
use Rattle.wire.proofs.Tests.{by-test}
use Rattle.text.specs.Text.{letter_or_digit, blank, text, text_then_spaces, spaces_then_text}

abbrev pub space : ℕ → Bool
space b = b is 32

pub all-spaces : (s : List ℕ) → list_all space s ≡ blank s
unfolding blank
all-spaces [] = refl
all-spaces (b ∷ s) = rw (all-spaces s)

pub all-text : (s : List ℕ) → list_all letter_or_digit s ≡ text s
unfolding text
all-text [] = refl
all-text (b ∷ s) = rw (all-text s)

-- where the first byte stands that passes a test, as the library answers it, or the end; and what begins there
module _ (p : ℕ → Bool) (s : List ℕ) where
  abbrev pub Found : Option ℕ → Type 0
  Found r = r ≡ cond (ltb (position_or_len p s) (length s)) (Some (position_or_len p s)) None

  from : (n : ℕ) → take (length s - n) (drop n s) ≡ drop n s
  from n = take_all (length s - n) (drop n s) (rw length-drop (omega arith))

  pub from-first : (r : Option ℕ) (n : ℕ) → Found r → n ≡ unwrap_or r (length s)
      → take (length s - n) (drop n s) ≡ drop (position_or_len p s) s
  from-first r n e f =
      from n ∙ by-test (ltb (position_or_len p s) (length s))
      (λ q. let g = rw q at e in let h : n ≡ position_or_len p s = rw g at f in ap (λ (i : ℕ). drop i s) h)
      (λ q.
      let g = rw q at e in
      let h : n ≡ length s = rw g at f in
      let past = ltb-false (position_or_len p s) (length s) q in
      drop_of_length-le s {i = n} (omega arith) ∙ sym (drop_of_length-le s {i = position_or_len p s} past))

-- padded on the right: spaces from the first byte on that is no letter or digit
pub behind-text : (s : List ℕ) → blank (drop (position_or_len (λ b. not (letter_or_digit b)) s) s) ≡ text_then_spaces s
unfolding text_then_spaces blank
behind-text [] = refl
behind-text (b ∷ s) =
    by-test (letter_or_digit b)
    (λ e. rw (e, one-add) (behind-text s))
    (λ e. rw e)

-- padded on the left: letters and digits from the first byte on that is no space
pub behind-spaces : (s : List ℕ) → text (drop (position_or_len (λ b. not (space b)) s) s) ≡ spaces_then_text s
unfolding spaces_then_text text
behind-spaces [] = refl
behind-spaces (b ∷ s) =
    by-test (space b)
    (λ e. rw (e, one-add) (behind-spaces s))
    (λ e. rw e)
