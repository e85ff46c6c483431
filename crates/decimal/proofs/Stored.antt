-- The characters of a number stored from the last one to the left, over spaces: each is the last digit of what is left of the number.
-- Assumes nothing.
use Rattle.std.proofs.Common.{◌≡◌, ℕ, zero, suc, ◌+◌, ◌-◌, ◌/◌, ◌%◌, ◌^◌, ◌<◌, ◌≤◌, leb, List, ◌∷◌, ◌++◌, set, replicate, sym, ap, ◌∙◌}
use Rattle.std.proofs.Common.{mul_comm, div-lt_iff_lt-mul, pos_of_ne-zero, suc-add, one-mul, le-div_iff_mul-le, zero-add, div-one, arith}
use Rattle.std.proofs.Common.{leb-false, leb-true}
use native.Mathlib.Nat.{pow-succ', pow-le-pow_right, div-div-eq-div-mul}
use Rattle.wire.proofs.Tests.{by-test}
use Rattle.decimal.specs.Decimal.{character, places, written}
use Rattle.decimal.proofs.Digits.{ten-pos}
use Rattle.decimal.proofs.Written.{reached, unreached}

one_more : (j k n v : ℕ) → v ≡ character n k → set (replicate (suc j) 32 ++ places k n) j v ≡ replicate j 32 ++ places (suc k) n
unfolding places
one_more zero k n v e = ap (λ (c : ℕ). c ∷ places k n) e
one_more (suc j) k n v e = ap (λ (t : List ℕ). 32 ∷ t) (one_more j k n v e)

-- the last place always has its digit
pub last_stored : (n v : ℕ) → v ≡ 48 + n % 10 → set (replicate 20 32) 19 v ≡ replicate 19 32 ++ places 1 n
unfolding places character
last_stored n v e = one_more 19 0 n v (rw div-one e)

-- what n doesn't reach is spaces
spaces-before : (j k n : ℕ) → 0 < k → n < 10 ^ k → places (j + k) n ≡ replicate j 32 ++ places k n
unfolding places
spaces-before zero k n p l = rw zero-add
spaces-before (suc j) k n p l =
    let more : 10 ^ k ≤ 10 ^ (j + k) = pow-le-pow_right (omega arith) (omega arith) in
    rw (suc-add, unreached (j + k) n (omega arith) (omega arith), spaces-before j k n p l)

-- i spaces stand before the characters that are stored, and rest is n without the digits of those.
module _ (n i rest : ℕ) (h : i ≤ 19) (r : rest ≡ n / 10 ^ (20 - i)) where
  -- nothing is left of n: it reaches no further
  pub all-stored : rest ≡ 0 → replicate i 32 ++ places (20 - i) n ≡ written n
  unfolding written
  all-stored z =
      let none : n / 10 ^ (20 - i) < 1 = omega arith in
      let most : n < 10 ^ (20 - i) = rw one-mul at ((div-lt_iff_lt-mul (ten-pos (20 - i))).0 none) in
      let twenty : i + (20 - i) ≡ 20 = omega arith in
      sym (rw twenty at (spaces-before i (20 - i) n (omega arith) most))

  -- something is: its last digit is the next character, and there is a place for it
  module _ (p : rest ≡ 0 → ⊥) where
    reaches : 10 ^ (20 - i) ≤ n
    reaches = rw one-mul at ((le-div_iff_mul-le (ten-pos (20 - i))).0 (rw r at (pos_of_ne-zero p)))

    pub next-stored : (j v : ℕ) → i ≡ suc j → v ≡ 48 + rest % 10
        → set (replicate i 32 ++ places (20 - i) n) j v ≡ replicate j 32 ++ places (20 - j) n
    next-stored j v e w =
        let place : 20 - j ≡ suc (20 - i) = omega arith in
        let here : v ≡ character n (20 - i) = w ∙ rw r (sym (reached (20 - i) n reaches)) in
        rw (place, e) (one_more j (20 - suc j) n v (rw e at here))

    pub next-rest : (j : ℕ) → i ≡ suc j → rest / 10 ≡ n / 10 ^ (20 - j)
    next-rest j e =
        let place : 20 - j ≡ suc (20 - i) = omega arith in
        rw (r, place, pow-succ', mul_comm 10) (div-div-eq-div-mul n (10 ^ (20 - i)) 10)

    pub room : n < 2 ^ 64 → 0 < i
    room b =
        by-test (leb 1 i) (leb-true 1 i)
        (λ t.
        let none = leb-false 1 i t in
        let z : i ≡ 0 = omega arith in
        let most : 10 ^ 20 ≤ n = rw z at reaches in
        absurd (omega arith))
