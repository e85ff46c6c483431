-- One character more: what the definitions say of the characters from place i on, in terms of the one at i and those after it.
-- Assumes nothing.
use Rattle.std.proofs.Common.{◌≡◌, ℕ, ◌+◌, ◌-◌, ◌*◌, ◌%◌, ◌^◌, ◌<◌, ◌≤◌, true, leb, List, ◌∷◌, length, get_or, drop, ◌∙◌, add-one, arith}
use Rattle.std.proofs.Common.{length-drop, drop-cons, le-leb, leb-false, leb-true}
use native.Mathlib.Nat.{one-le-pow}
use borrow.Author.Tests.{lt-leb}
use Rattle.wire.proofs.Tests.{by-test, and_left, and_right}
use Rattle.decimal.specs.Decimal.{digit, digits, spelt}

-- the character at place i, which is there
module _ (s : List ℕ) (i : ℕ) (h : i < length s) where
  next : drop i s ≡ get_or s i 0 ∷ drop (i + 1) s
  next = rw (add-one, drop-cons s i 0)

  pub digit-step : digit (get_or s i 0) ≡ true → digits (drop i s) ≡ digits (drop (i + 1) s)
  unfolding digits
  digit-step e = rw (next, e)

  pub spelt-step : spelt (drop i s) ≡ (get_or s i 0 - 48) * 10 ^ (length s - 1 - i) + spelt (drop (i + 1) s)
  unfolding spelt
  spelt-step =
      let e : length (drop (i + 1) s) ≡ length s - 1 - i = length-drop (i + 1) s ∙ omega arith in
      rw (next, e)

pub digit_low : (b : ℕ) → digit b ≡ true → 48 ≤ b
unfolding digit
digit_low b e = leb-true 48 b (and_left (leb 48 b) (leb b 57) e)

pub digit-high : (b : ℕ) → digit b ≡ true → b ≤ 57
unfolding digit
digit-high b e = leb-true b 57 (and_right (leb 48 b) (leb b 57) e)

pub ten-pos : (k : ℕ) → 0 < 10 ^ k
ten-pos k = one-le-pow k 10 (omega arith)

-- a character less 48, modulo 2 ^ 64, is 9 at most if it is a digit, and only then
pub less-48 : (b r : ℕ) → b < 256 → r < 2 ^ 64 → (r + 48) % 2 ^ 64 ≡ b → (digit b ≡ leb r 9) × (r ≤ 9 → r ≡ b - 48)
unfolding digit
less-48 b r k l e =
    by-test (leb r 9)
    (λ t. let h = leb-true r 9 t in (rw (t, le-leb 48 b (omega arith), le-leb b 57 (omega arith)), λ q. omega arith))
    (λ t.
    let h = leb-false r 9 t in
    (by-test (leb 48 b) (λ u. let low = leb-true 48 b u in rw (t, u, lt-leb b 57 (omega arith))) (λ u. rw (t, u)), λ q. omega arith))
