-- What is written is read as the number, and what was read without a leading zero is written with the same characters.
-- Assumes nothing.
use Rattle.std.proofs.Common.{◌≡◌, ℕ, zero, suc, ◌+◌, ◌-◌, ◌*◌, ◌/◌, ◌%◌, ◌^◌, ◌<◌, ◌≤◌, true, false, ◌&&◌, eqb, leb, List, [], ◌∷◌, length}
use Rattle.std.proofs.Common.{sym, refl, ap, ◌∙◌, le_trans, mul-le-mul_right, mod-lt, mod-eq_of_lt, mul_assoc, div-lt_iff_lt-mul, one-mul}
use Rattle.std.proofs.Common.{le-div_iff_mul-le, arith, ne_eqb, eqb-true, le-leb, leb-false, leb-true}
use mathlib.Core.Bool.{and-false}
use native.Mathlib.Nat.{mod-one, pow-succ', pow-le-pow_right, mul-add-div_right}
use native.Mathlib.Nat.{mul-add-mod_self_right}
use lib.Arith.{mod-mul, digits_div, digits_lt}
use borrow.Author.Tests.{lt-leb, eqb-false}
use Rattle.wire.specs.Checks.{◌is◌, ◌at_most◌}
use Rattle.text.specs.Text.{blank}
use Rattle.decimal.specs.Decimal.{digit, digits, trimmed, leading_zero, well_formed, spelt, value_of, character, places, written}
use Rattle.wire.proofs.Tests.{by-test, and_left, and_right}
use Rattle.decimal.proofs.Digits.{digit_low, digit-high, ten-pos}

length-places : (k n : ℕ) → length (places k n) ≡ k
unfolding places
length-places zero n = refl
length-places (suc k) n = ap suc (length-places k n)

pub length-written : (n : ℕ) → length (written n) ≡ 20
unfolding written
length-written n = length-places 20 n

-- ---- the digits of a number

-- the last k places, each with its digit
abbrev plain : ℕ → ℕ → List ℕ
plain zero n = []
plain (suc k) n = (48 + n / 10 ^ k % 10) ∷ plain k n

length-plain : (k n : ℕ) → length (plain k n) ≡ k
length-plain zero n = refl
length-plain (suc k) n = ap suc (length-plain k n)

ten : (q : ℕ) → q % 10 < 10
ten q = mod-lt q (omega arith)

is_digit : (q : ℕ) → digit (48 + q % 10) ≡ true
unfolding digit
is_digit q = rw (le-leb 48 (48 + q % 10) (omega arith), le-leb (48 + q % 10) 57 (omega (arith, ten q)))

digits-plain : (k n : ℕ) → digits (plain k n) ≡ true
unfolding digits
digits-plain zero n = refl
digits-plain (suc k) n = rw (is_digit (n / 10 ^ k), digits-plain k n)

spelt-plain : (k n : ℕ) → spelt (plain k n) ≡ n % 10 ^ k
unfolding spelt
spelt-plain zero n = sym (mod-one n)
spelt-plain (suc k) n =
    let a : 48 + n / 10 ^ k % 10 - 48 ≡ n / 10 ^ k % 10 = omega arith in
    rw (length-plain k n, a, spelt-plain k n, pow-succ' 10 k, mod-mul n {m = 10} (omega arith) (ten-pos k))

-- ---- reading what was written

-- a place that the number reaches, and one that it doesn't
pub reached : (k n : ℕ) → 10 ^ k ≤ n → character n k ≡ 48 + n / 10 ^ k % 10
unfolding character
reached k n h = by-test (eqb k 0) (λ t. rw t) (λ t. rw (t, le-leb _ _ h))

pub unreached : (k n : ℕ) → 0 < k → n < 10 ^ k → character n k ≡ 32
unfolding character
unreached k n p l = rw (ne_eqb k 0 (λ e. omega arith), lt-leb (10 ^ k) n l)

-- a number of k + 1 digits has no space among its last k + 1 places
full : (k n : ℕ) → 10 ^ k ≤ n → places (suc k) n ≡ plain (suc k) n
unfolding places
full zero n h = rw (reached zero n h)
full (suc k) n h =
    let below : 10 ^ k ≤ n = le_trans (pow-le-pow_right (omega arith) (omega arith)) h in
    rw (reached (suc k) n h, full k n below)

-- its leading digit is no 0
lead : (k n : ℕ) → 10 ^ k ≤ n → n < 10 ^ suc k → 0 < n / 10 ^ k % 10
lead k n h l =
    let one : 1 ≤ n / 10 ^ k = (le-div_iff_mul-le (ten-pos k)).1 (rw one-mul h) in
    let nine : n / 10 ^ k < 10 = (div-lt_iff_lt-mul (ten-pos k)).1 (rw (← pow-succ' 10 k) l) in
    rw (mod-eq_of_lt nine) one

-- a field that holds the number n
pub record Spells (s : List ℕ) (n : ℕ) : Type 0 where
  pub formed : well_formed s ≡ true
  pub filled : blank s ≡ false
  pub value : value_of s ≡ n
  pub unpadded : leading_zero s ≡ false

spells-plain : (k n : ℕ) → 10 ^ k ≤ n → n < 10 ^ suc k → Spells (plain (suc k) n) n
unfolding well_formed value_of trimmed leading_zero blank
spells-plain k n h l =
    let d = n / 10 ^ k % 10 in
    let space : eqb (48 + d) 32 ≡ false = ne_eqb (48 + d) 32 (λ e. omega arith) in
    let nought : eqb (48 + d) 48 ≡ false = ne_eqb (48 + d) 48 (λ e. omega (arith, lead k n h l)) in
    record {
      formed = rw (space, digits-plain (suc k) n);
      filled = rw space;
      value = rw space (spelt-plain (suc k) n ∙ mod-eq_of_lt l);
      unpadded = rw (space, nought, and-false);
    }

-- one more space in front
spells-space : (s : List ℕ) (n : ℕ) → Spells s n → Spells (32 ∷ s) n
unfolding well_formed value_of trimmed leading_zero blank
spells-space s n p = record { formed = p.formed; filled = p.filled; value = p.value; unpadded = p.unpadded }

spells-zero : (n : ℕ) → n < 1 → Spells (places 1 n) n
unfolding places character well_formed value_of trimmed leading_zero blank digits digit spelt
spells-zero n h = let z : n ≡ 0 = omega arith in rw z (record { formed = refl; filled = refl; value = refl; unpadded = refl })

spells-full : (k n : ℕ) → n < 10 ^ suc k → 10 ^ k ≤ n → Spells (places (suc k) n) n
spells-full k n l h = rw (full k n h) (spells-plain k n h l)

spells-places : (k n : ℕ) → n < 10 ^ suc k → Spells (places (suc k) n) n
unfolding places
spells-places zero n l = by-test (leb 1 n) (λ t. spells-full 0 n l (leb-true 1 n t)) (λ t. spells-zero n (leb-false 1 n t))
spells-places (suc k) n l =
    by-test (leb (10 ^ suc k) n)
    (λ t. spells-full (suc k) n l (leb-true (10 ^ suc k) n t))
    (λ t.
    let s : n < 10 ^ suc k = leb-false (10 ^ suc k) n t in
    rw (unreached (suc k) n (omega arith) s) (spells-space (places (suc k) n) n (spells-places k n s)))

-- What is written is well formed, reading it gives the number, and it has no leading zero.
pub read-written : (n : ℕ) → n < 2 ^ 64 → Spells (written n) n
unfolding written
read-written n b = spells-places 19 n (omega arith)

-- ---- writing what was read

plain-shift : (k q v : ℕ) → plain k (q * 10 ^ k + v) ≡ plain k v
plain-shift zero q v = refl
plain-shift (suc k) q v =
    let e : q * 10 ^ suc k ≡ q * 10 * 10 ^ k = rw (pow-succ', mul_assoc) in
    rw (e, mul-add-div_right (ten-pos k) (q * 10) v, mul-add-mod_self_right q 10 (v / 10 ^ k), plain-shift k (q * 10) v)

-- k digits spell less than 10 ^ k, and are the digits of what they spell
module _ (b : ℕ) (s : List ℕ) (e : digits (b ∷ s) ≡ true) where
  first : digit b ≡ true
  unfolding digits
  first = and_left (digit b) (digits s) e

  rest : digits s ≡ true
  unfolding digits
  rest = and_right (digit b) (digits s) e

  small : b - 48 < 10
  small = omega (arith, digit-high b first)

pub spelt-lt : (s : List ℕ) → digits s ≡ true → spelt s < 10 ^ length s
unfolding spelt
spelt-lt [] e = omega arith
spelt-lt (b ∷ s) e = rw pow-succ' (digits_lt {m = 10} (small b s e) (spelt-lt s (rest b s e)))

plain-spelt : (s : List ℕ) → digits s ≡ true → plain (length s) (spelt s) ≡ s
unfolding spelt
plain-spelt [] e = refl
plain-spelt (b ∷ s) e =
    let w : 48 + (b - 48) ≡ b = omega (arith, digit_low b (first b s e)) in
    let r = rest b s e in
    rw (digits_div (b - 48) (spelt-lt s r), mod-eq_of_lt (small b s e), w, plain-shift (length s) (b - 48) (spelt s), plain-spelt s r)

-- digits that don't begin with a 0, or a digit alone, are as many as their number has
no_gap : (b : ℕ) (s : List ℕ) → 2 at_most length (b ∷ s) && b is 48 ≡ false → digits (b ∷ s) ≡ true
    → places (length (b ∷ s)) (spelt (b ∷ s)) ≡ b ∷ s
unfolding places character spelt
no_gap b [] z e = plain-spelt (b ∷ []) e
no_gap b (x ∷ s) z e =
    let k = length (x ∷ s) in
    let q : eqb b 48 ≡ false = rw (le-leb 2 (suc k) (omega arith)) at z in
    let ne : b ≡ 48 → ⊥ = eqb-false b 48 q in
    let low : 48 ≤ b = digit_low b (first b (x ∷ s) e) in
    let p : 10 ^ k ≤ (b - 48) * 10 ^ k = rw one-mul at (mul-le-mul_right {m = 1} {n = b - 48} (10 ^ k) (omega arith)) in
    full k (spelt (b ∷ x ∷ s)) (omega arith) ∙ plain-spelt (b ∷ x ∷ s) e

shorter : (s : List ℕ) → length (trimmed s) ≤ length s
unfolding trimmed
shorter [] = omega arith
shorter (b ∷ s) = by-test (eqb b 32) (λ t. rw t (omega (arith, shorter s))) (λ t. rw t (omega arith))

-- a field that isn't blank has digits after its spaces
some : (s : List ℕ) → blank s ≡ false → 0 < length (trimmed s)
unfolding trimmed blank
some [] e = let z : ◌≡◌ {A = ℕ} 0 1 = cc in omega arith
some (b ∷ s) e = by-test (eqb b 32) (λ t. rw t (some s (rw t at e))) (λ t. rw t (omega arith))

-- a well-formed field with a space more in front
one-more-space : (s : List ℕ) → well_formed s ≡ true → blank s ≡ false
    → places (suc (length s)) (value_of s) ≡ 32 ∷ places (length s) (value_of s)
unfolding places well_formed value_of
one-more-space s f e =
    let l : spelt (trimmed s) < 10 ^ length (trimmed s) = spelt-lt (trimmed s) f in
    let g : 10 ^ length (trimmed s) ≤ 10 ^ length s = pow-le-pow_right (omega arith) (shorter s) in
    rw (unreached (length s) (spelt (trimmed s)) (omega (arith, shorter s, some s e)) (omega arith))

back : (s : List ℕ) → well_formed s ≡ true → blank s ≡ false → leading_zero s ≡ false → places (length s) (value_of s) ≡ s
unfolding well_formed value_of trimmed leading_zero blank
back [] f e z = let n : ◌≡◌ {A = ℕ} 0 1 = cc in absurd (omega arith)
back (b ∷ s) f e z =
    by-test (eqb b 32)
    (λ t.
    let g : well_formed s ≡ true = rw t at f in
    let h : blank s ≡ false = rw t at e in
    let u : leading_zero s ≡ false = rw t at z in
    rw (t, one-more-space s g h, back s g h u, eqb-true b 32 t))
    (λ t.
    let a : digits (b ∷ s) ≡ true = rw t at f in
    let u : 2 at_most length (b ∷ s) && b is 48 ≡ false = rw t at z in
    rw t (no_gap b s u a))

-- Writing what was read without a leading zero gives the same twenty characters.
pub written_read : (s : List ℕ) → length s ≡ 20 → well_formed s ≡ true → blank s ≡ false → leading_zero s ≡ false → written (value_of s) ≡ s
unfolding written
written_read s l f e z = rw (← l) (back s f e z)
