-- Where no linefeed is: in opaque bytes by the definition, in texts and numbers by their alphabet.
-- Assumes nothing.
use Prim.Native.Nat.{ℕ, zero, suc, ◌+◌, ◌≤◌, ◌<◌}
use mathlib.Core.Path.{◌≡◌, refl, sym}
use mathlib.Core.List.{List, [], ◌∷◌, ◌++◌}
use mathlib.Core.Bool.{Bool, true, not, ◌&&◌, and-true, and_assoc}
use native.Mathlib.Numerals.{add-one}
use native.Mathlib.Omega.{arith}
use lib.Dec.{eqb}
use lib.ListN.{length, get_or, drop, drop_of_length-le}
use lib.Seq.{drop-cons}
use borrow.Author.Tests.{ne_eqb, eqb-true, eqb-false, not-true}
use Rattle.text.specs.Text.{text_then_spaces, spaces_then_text}
use Rattle.decimal.specs.Decimal.{digit, digits, trimmed, well_formed}
use Rattle.soup.specs.Read.{unbroken}
use Rattle.wire.proofs.Tests.{by-test, and_left, and_right}
use Rattle.text.proofs.Textual.{padded-right, padded-left}
use Rattle.decimal.proofs.Digits.{digit_low}

-- no byte is a linefeed
abbrev pub No-linefeed : List ℕ → Type 0
No-linefeed s = (i : ℕ) → get_or s i 0 ≡ 10 → ⊥

pub unbroken-none : (s : List ℕ) → unbroken s ≡ true → No-linefeed s
unfolding unbroken
unbroken-none [] u i e = omega arith
unbroken-none (b ∷ s) u zero e = eqb-false b 10 (not-true (eqb b 10) (and_left (not (eqb b 10)) (unbroken s) u)) e
unbroken-none (b ∷ s) u (suc i) e = unbroken-none s (and_right (not (eqb b 10)) (unbroken s) u) i e

-- one more byte
pub more : (b : ℕ) (s : List ℕ) → (b ≡ 10 → ⊥) → unbroken s ≡ true → unbroken (b ∷ s) ≡ true
unfolding unbroken
more b s n u = rw (ne_eqb b 10 n, u)

pub none-unbroken : (s : List ℕ) → No-linefeed s → unbroken s ≡ true
unfolding unbroken
none-unbroken [] n = refl
none-unbroken (b ∷ s) n = more b s (n 0) (none-unbroken s (λ i. n (suc i)))

pub append-unbroken : (s t : List ℕ) → unbroken s ≡ true → unbroken t ≡ true → unbroken (s ++ t) ≡ true
unfolding unbroken
append-unbroken [] t u v = v
append-unbroken (b ∷ s) t u v =
    rw (and_left (not (eqb b 10)) (unbroken s) u, append-unbroken s t (and_right (not (eqb b 10)) (unbroken s) u) v)

-- ---- texts

-- no character of a text is one
module _ (s : List ℕ) where
  pub right-unbroken : text_then_spaces s ≡ true → unbroken s ≡ true
  unfolding unbroken
  right-unbroken = padded-right (λ t. unbroken t ≡ true) refl (λ b t low _. more b t (λ e. omega arith)) s

  pub left-unbroken : spaces_then_text s ≡ true → unbroken s ≡ true
  unfolding unbroken
  left-unbroken = padded-left (λ t. unbroken t ≡ true) refl (λ b t low _. more b t (λ e. omega arith)) s

-- ---- numbers

digits-unbroken : (s : List ℕ) → digits s ≡ true → unbroken s ≡ true
unfolding digits unbroken
digits-unbroken [] d = refl
digits-unbroken (b ∷ s) d =
    more b s (λ e. omega (arith, digit_low b (and_left (digit b) (digits s) d))) (digits-unbroken s (and_right (digit b) (digits s) d))

-- however a number is spelt
pub formed-unbroken : (s : List ℕ) → well_formed s ≡ true → unbroken s ≡ true
unfolding well_formed trimmed unbroken
formed-unbroken [] f = refl
formed-unbroken (b ∷ s) f =
    by-test (eqb b 32)
    (λ t. let q = eqb-true b 32 t in more b s (λ e. omega arith) (formed-unbroken s (rw t at f)))
    (λ t. digits-unbroken (b ∷ s) (rw t at f))

-- ---- the search for one, over every byte: w says whether none was seen before place i

module _ (s : List ℕ) (i : ℕ) (w : Bool) where
  pub unbroken-step : i < length s → w && not (eqb (get_or s i 0) 10) && unbroken (drop (i + 1) s) ≡ w && unbroken (drop i s)
  unfolding unbroken
  unbroken-step h = rw (drop-cons s i 0 h, add-one) (and_assoc w (not (eqb (get_or s i 0) 10)) (unbroken (drop (suc i) s)))

  pub unbroken-end : length s ≤ i → w ≡ w && unbroken (drop i s)
  unfolding unbroken
  unbroken-end h = rw (drop_of_length-le s h) (sym (and-true w))
