-- Text padded on either side is characters from 32 to 122: what holds of none and of one more holds of it, as that it is bytes.
-- Assumes nothing.
use Prim.Native.Nat.{ℕ, ◌≤◌}
use mathlib.Core.Path.{◌≡◌, sym, ◌∙◌}
use mathlib.Core.List.{List, [], ◌∷◌}
use mathlib.Core.Bool.{true, false, true≢false}
use native.Mathlib.Omega.{arith}
use borrow.Author.Tests.{le-leb, lt-leb, leb-true, leb-false, eqb-true}
use lib.Dec.{leb, eqb}
use Rattle.wire.specs.Fields.{Bytes}
use Rattle.text.specs.Text.{letter_or_digit, blank, text, text_then_spaces, spaces_then_text}
use Rattle.wire.proofs.Tests.{by-test, and_left, and_right}
use Rattle.wire.proofs.Width.{bytes-cons}

letter-low : (b : ℕ) → letter_or_digit b ≡ true → 32 ≤ b
unfolding letter_or_digit
letter-low b e =
    by-test (leb 32 b) (leb-true 32 b)
    (λ q.
    let h = leb-false 32 b q in
    let none : letter_or_digit b ≡ false = rw (lt-leb 48 b (omega arith), lt-leb 65 b (omega arith), lt-leb 97 b (omega arith)) in
    absurd (true≢false (sym e ∙ none)))

letter-high : (b : ℕ) → letter_or_digit b ≡ true → b ≤ 122
unfolding letter_or_digit
letter-high b e =
    by-test (leb b 122) (leb-true b 122)
    (λ q.
    let h = leb-false b 122 q in
    let none : letter_or_digit b ≡ false =
    rw (
      le-leb 48 b (omega arith),
      lt-leb b 57 (omega arith),
      le-leb 65 b (omega arith),
      lt-leb b 90 (omega arith),
      le-leb 97 b (omega arith),
      lt-leb b 122 (omega arith),
    ) in
    absurd (true≢false (sym e ∙ none)))

module _ (P : List ℕ → Type 0) (none : P []) (more : (b : ℕ) (s : List ℕ) → 32 ≤ b → b ≤ 122 → P s → P (b ∷ s)) where
  letter-more : (b : ℕ) (s : List ℕ) → letter_or_digit b ≡ true → P s → P (b ∷ s)
  letter-more b s e = more b s (letter-low b e) (letter-high b e)

  space-more : (b : ℕ) (s : List ℕ) → eqb b 32 ≡ true → P s → P (b ∷ s)
  space-more b s e = let q = eqb-true b 32 e in more b s (omega arith) (omega arith)

  of-blank : (s : List ℕ) → blank s ≡ true → P s
  unfolding blank
  of-blank [] e = none
  of-blank (b ∷ s) e =
      space-more b s (and_left (eqb b 32) (blank s) e) (of-blank s (and_right (eqb b 32) (blank s) e))

  of-text : (s : List ℕ) → text s ≡ true → P s
  unfolding text
  of-text [] e = none
  of-text (b ∷ s) e =
      letter-more b s (and_left (letter_or_digit b) (text s) e) (of-text s (and_right (letter_or_digit b) (text s) e))

  pub padded-right : (s : List ℕ) → text_then_spaces s ≡ true → P s
  unfolding text_then_spaces
  padded-right [] e = none
  padded-right (b ∷ s) e =
      by-test (letter_or_digit b)
      (λ t. letter-more b s t (padded-right s (rw t at e)))
      (λ t. of-blank (b ∷ s) (rw t at e))

  pub padded-left : (s : List ℕ) → spaces_then_text s ≡ true → P s
  unfolding spaces_then_text
  padded-left [] e = none
  padded-left (b ∷ s) e =
      by-test (eqb b 32)
      (λ t. space-more b s t (padded-left s (rw t at e)))
      (λ t. of-text (b ∷ s) (rw t at e))

-- so text is bytes
pub text-bytes : (s : List ℕ) → text_then_spaces s ≡ true → Bytes s
text-bytes = padded-right Bytes (λ i. omega arith) (λ b s low high. bytes-cons b s (omega arith))
