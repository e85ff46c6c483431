-- Noughts in front of a number's digits count for nothing: a field that is padded with them is the same number as one that is padded with
-- spaces.
-- Assumes nothing.
use Rattle.std.proofs.Common.{◌≡◌, ℕ, zero, suc, ◌+◌, ◌-◌, ◌^◌, ◌<◌, ◌≤◌, true, Ok, List, [], ◌++◌, length, replicate, sym, refl, ◌∙◌}
use Rattle.std.proofs.Common.{append-nil, zero-add, zero-mul, arith, length-append, le-leb}
use native.Mathlib.Nat.{pow-le-pow_right}
use lib.ListN.{length-replicate}
use Rattle.text.specs.Text.{blank}
use Rattle.decimal.specs.Decimal.{digit, digits, spelt, fitted, number_of}
use Rattle.decimal.proofs.Written.{spelt-lt}
use Rattle.decimal.proofs.Ends.{spaces-then-digits}

all-spaces : (j : ℕ) → blank (replicate j 32) ≡ true
unfolding blank
all-spaces zero = refl
all-spaces (suc j) = all-spaces j

all_digits : (k : ℕ) (t : List ℕ) → digits t ≡ true → digits (replicate k 48 ++ t) ≡ true
unfolding digits digit
all_digits zero t d = d
all_digits (suc k) t d = all_digits k t d

no_more : (k : ℕ) (t : List ℕ) → spelt (replicate k 48 ++ t) ≡ spelt t
unfolding spelt
no_more zero t = refl
no_more (suc k) t = rw (zero-mul, zero-add) (no_more k t)

-- j spaces, k noughts and then digits
module _ (j k : ℕ) (t : List ℕ) (l : j + k + length t ≡ 20) (d : digits t ≡ true) where
  noughts-count-for-nothing : 0 < k + length t → number_of (replicate j 32 ++ (replicate k 48 ++ t)) ≡ fitted (spelt t)
  noughts-count-for-nothing h =
      let all : length (replicate j 32 ++ (replicate k 48 ++ t)) ≡ 20 = simp (length-append, length-replicate) (omega arith) in
      let some : 0 < length (replicate k 48 ++ t) = simp (length-append, length-replicate) (omega arith) in
      spaces-then-digits (replicate j 32) (replicate k 48 ++ t) all (all-spaces j) (all_digits k t d) some ∙ rw (no_more k t)

  -- behind a nought stand too few digits for a number over the bound
  pub never-over : 0 < k → number_of (replicate j 32 ++ (replicate k 48 ++ t)) ≡ Ok (spelt t)
  never-over h =
      let few : length t ≤ 19 = omega arith in
      let most : 10 ^ length t ≤ 10 ^ 19 = pow-le-pow_right (omega arith) few in
      noughts-count-for-nothing (omega arith) ∙ rw (le-leb (spelt t) (2 ^ 64 - 1) (omega (arith, spelt-lt t d)))

  pub noughts-for-spaces : 0 < length t → number_of (replicate j 32 ++ (replicate k 48 ++ t)) ≡ number_of (replicate (j + k) 32 ++ t)
  noughts-for-spaces h =
      let all : length (replicate (j + k) 32 ++ t) ≡ 20 = simp (length-append, length-replicate) (omega arith) in
      noughts-count-for-nothing (omega arith) ∙ sym (spaces-then-digits (replicate (j + k) 32) t all (all-spaces (j + k)) d h)

-- Nothing but noughts after the spaces is 0.
pub all-noughts : (j k : ℕ) → j + k ≡ 20 → 0 < k → number_of (replicate j 32 ++ replicate k 48) ≡ Ok 0
unfolding digits spelt
all-noughts j k l h = rw append-nil at (never-over j k [] (omega arith) refl h)
