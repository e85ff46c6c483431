-- The digits that end a field, and what stands before them: spaces there, or nothing, and the digits are the number; anything else,
-- and the field is misshapen.
-- Assumes nothing.
use Rattle.std.proofs.Common.{◌≡◌, ℕ, zero, suc, ◌+◌, ◌-◌, ◌*◌, ◌^◌, ◌<◌, ◌≤◌}
use Rattle.std.proofs.Common.{true, false, Ok, Err, ◌&&◌, eqb, leb, List, [], ◌∷◌, ◌++◌, length}
use Rattle.std.proofs.Common.{get_or, take, drop, refl, ◌∙◌, true≢false, le_of_suc-le-suc, not-suc-le-zero, add_comm, arith, length-drop}
use Rattle.std.proofs.Common.{take-append-drop, drop_of_length-le, ne_eqb, eqb-true, le-leb, leb-false}
use mathlib.Core.Bool.{and-false}
use native.Mathlib.Nat.{pow-le-pow_right, pow-succ'}
use lib.Arith.{digits_lt, lt_of_le-ne}
use borrow.Author.Tests.{eqb-false}
use Rattle.wire.specs.Checks.{◌is◌, ◌at_most◌}
use Rattle.wire.proofs.Tests.{by-test, and_left, and_right}
use Rattle.text.specs.Text.{blank}
use Rattle.decimal.specs.Decimal.{digit, digits, trimmed, well_formed, spelt, value_of, fitted, number_of}
use Rattle.decimal.specs.declared.Fault.TheVariants.{Misshapen, Blank}
use Rattle.decimal.proofs.Digits.{digit_low, digit-step, spelt-step}
use Rattle.decimal.proofs.Written.{spelt-lt}
use Rattle.decimal.proofs.Spaces.{blank-append}

-- ---- spaces in front, and digits

trimmed-spaces : (a t : List ℕ) → blank a ≡ true → trimmed (a ++ t) ≡ trimmed t
unfolding trimmed blank
trimmed-spaces [] t e = refl
trimmed-spaces (b ∷ a) t e =
    rw (and_left (eqb b 32) (blank a) e) (trimmed-spaces a t (and_right (eqb b 32) (blank a) e))

-- a digit is no space
no-space : (b : ℕ) (t : List ℕ) → digits (b ∷ t) ≡ true → eqb b 32 ≡ false
unfolding digits
no-space b t e = ne_eqb b 32 (λ q. omega (arith, digit_low b (and_left (digit b) (digits t) e)))

trimmed-digits : (t : List ℕ) → digits t ≡ true → trimmed t ≡ t
unfolding trimmed
trimmed-digits [] e = refl
trimmed-digits (b ∷ t) e = rw (no-space b t e)

filled : (t : List ℕ) → 0 < length t → digits t ≡ true → blank t ≡ false
unfolding blank
filled [] h e = absurd (not-suc-le-zero h)
filled (b ∷ t) h e = rw (no-space b t e)

-- Spaces or none, and then digits, whatever the first of them: the field is the number that they spell.
pub spaces-then-digits : (a t : List ℕ) → length (a ++ t) ≡ 20 → blank a ≡ true → digits t ≡ true → 0 < length t
    → number_of (a ++ t) ≡ fitted (spelt t)
unfolding number_of well_formed value_of
spaces-then-digits a t l f d h =
    rw (l, trimmed-spaces a t f, trimmed-digits t d, d, blank-append a t, f, filled t h d)

-- ---- a character that is no digit

no-digits : (s : List ℕ) (i : ℕ) → i < length s → digit (get_or s i 0) ≡ false → digits s ≡ false
unfolding digits
no-digits [] i h e = absurd (not-suc-le-zero h)
no-digits (b ∷ s) zero h e = rw e
no-digits (b ∷ s) (suc i) h e = rw (no-digits s i (le_of_suc-le-suc h) e, and-false)

-- and anything but a space at its place or before
mixed : (s : List ℕ) (i : ℕ) → i < length s → digit (get_or s i 0) ≡ false → blank (take (suc i) s) ≡ false → digits (trimmed s) ≡ false
unfolding trimmed blank
mixed [] i h e f = absurd (not-suc-le-zero h)
mixed (b ∷ s) zero h e f =
    by-test (eqb b 32)
    (λ t. absurd (true≢false (rw t at f)))
    (λ t. rw t (no-digits (b ∷ s) zero h e))
mixed (b ∷ s) (suc i) h e f =
    by-test (eqb b 32)
    (λ t. rw t (mixed s i (le_of_suc-le-suc h) e (rw t at f)))
    (λ t. rw t (no-digits (b ∷ s) (suc i) h e))

-- ---- a field that ends in k digits

-- no digit looked at yet
pub none_yet : (s : List ℕ) → length s ≡ 20 → (digits (drop 20 s) ≡ true) × (0 ≡ spelt (drop 20 s))
unfolding digits spelt
none_yet s l =
    let past : length s ≤ 20 = omega arith in
    rw (drop_of_length-le s past) (refl, refl)

module _ (s : List ℕ) (k : ℕ) (l : length s ≡ 20) (h : k ≤ 19) (d : digits (drop (20 - k) s) ≡ true) where
  count : length (drop (20 - k) s) ≡ k
  count = length-drop (20 - k) s ∙ omega arith

  within : spelt (drop (20 - k) s) < 10 ^ k
  within = rw count at (spelt-lt (drop (20 - k) s) d)

  -- what nineteen digits come to at most, which is not over the bound
  pub below : spelt (drop (20 - k) s) < 10 ^ 19
  below = let most : 10 ^ k ≤ 10 ^ 19 = pow-le-pow_right (omega arith) h in omega (arith, within)

  -- something else before them
  pub misshapen : digit (get_or s (19 - k) 0) ≡ false → blank (take (20 - k) s) ≡ false → number_of s ≡ Err Misshapen
  unfolding number_of well_formed
  misshapen e f =
      let up : 20 - k ≡ suc (19 - k) = omega arith in
      rw (mixed s (19 - k) (omega arith) e (rw up at f), and-false)

  -- spaces before them
  module _ (f : blank (take (20 - k) s) ≡ true) where
    trims : trimmed s ≡ drop (20 - k) s
    trims = rw take-append-drop at (trimmed-spaces (take (20 - k) s) (drop (20 - k) s) f) ∙ trimmed-digits (drop (20 - k) s) d

    blanks : blank s ≡ blank (drop (20 - k) s)
    blanks = rw (take-append-drop, f) at (blank-append (take (20 - k) s) (drop (20 - k) s))

    pub none : k ≡ 0 → number_of s ≡ Err Blank
    unfolding number_of well_formed digits blank
    none z =
        let past : length s ≤ 20 - k = omega arith in
        let empty : drop (20 - k) s ≡ [] = drop_of_length-le s past in
        rw (l, trims, blanks, empty)

    pub number : 0 < k → number_of s ≡ Ok (spelt (drop (20 - k) s))
    number p =
        let all : length (take (20 - k) s ++ drop (20 - k) s) ≡ 20 = rw take-append-drop l in
        rw take-append-drop at (spaces-then-digits (take (20 - k) s) (drop (20 - k) s) all f d (rw count p))
        ∙ rw (le-leb (spelt (drop (20 - k) s)) (2 ^ 64 - 1) (omega (arith, below)))

-- Where the digits stop: the character before them is none, also where all nineteen are digits and the first of the twenty isn't.
pub stops : (s : List ℕ) (k d : ℕ) → k ≤ 19 → (k < 19 → digit (get_or s (19 - k) 0) ≡ false) → digit (get_or s 0 0) ≡ leb d 9
    → (k is 19) && (d at_most 9) ≡ false → digit (get_or s (19 - k) 0) ≡ false
stops s k d h f g e =
    by-test (k is 19)
    (λ t.
    let first : 19 - k ≡ 0 = (let q = eqb-true k 19 t in omega arith) in
    let none : leb d 9 ≡ false = rw t at e in
    rw (first, g, none))
    (λ t. f (lt_of_le-ne h (eqb-false k 19 t)))

-- One digit more to the left: d, the figure at place k, is counted in, p times. Nineteen places are too few for a sum over the bound.
pub record Turn (s : List ℕ) (k d n p : ℕ) : Type 0 where
  pub more : digits (drop (20 - (k + 1)) s) ≡ true
  pub sum : n + d * p ≡ spelt (drop (20 - (k + 1)) s)
  pub fits : n + d * p < 2 ^ 64

pub turn : (s : List ℕ) (k d n p : ℕ) → length s ≡ 20 → k < 19 → digits (drop (20 - k) s) ≡ true → n ≡ spelt (drop (20 - k) s)
    → digit (get_or s (19 - k) 0) ≡ leb d 9 → (d ≤ 9 → d ≡ get_or s (19 - k) 0 - 48) → d ≤ 9 → p ≡ 10 ^ k → Turn s k d n p
turn s k d n p l h a e f g u q =
    let here : 19 - k < length s = omega arith in
    let after : 19 - k + 1 ≡ 20 - k = omega arith in
    let left : 20 - (k + 1) ≡ 19 - k = omega arith in
    let place : length s - 1 - (19 - k) ≡ k = omega arith in
    let low : n < p = rw (e, q) (within s k l (omega arith) a) in
    let less : d * p + n < 10 * p = digits_lt {m = 10} (omega arith) low in
    let most : 10 * p ≤ 10 ^ 19 = rw (q, ← pow-succ' 10 k) (pow-le-pow_right (omega arith) h) in
    let first : digit (get_or s (19 - k) 0) ≡ true = f ∙ le-leb d 9 u in
    record {
      more = rw left (digit-step s (19 - k) here first ∙ rw after a);
      sum = rw (left, spelt-step s (19 - k) here, ← g u, place, after, ← e, ← q) (add_comm n (d * p));
      fits = omega arith;
    }

-- ---- a field of twenty digits

pub of-twenty : (s : List ℕ) (d n : ℕ) → length s ≡ 20 → digit (get_or s 0 0) ≡ true → d ≡ get_or s 0 0 - 48 → digits (drop 1 s) ≡ true
    → n ≡ spelt (drop 1 s) → number_of s ≡ fitted (d * 10 ^ 19 + n)
unfolding blank
of-twenty s d n l e f g v =
    let all : digits s ≡ true = digit-step s 0 (omega arith) e ∙ g in
    let value : spelt s ≡ d * 10 ^ 19 + n = rw (l, ← f, ← v) at (spelt-step s 0 (omega arith)) in
    spaces-then-digits [] s l refl all (omega arith) ∙ rw value

-- where it is over the bound: from two times the last power on, or from what that power leaves on
pub over : (d n : ℕ) → (d ≡ 0 → ⊥) → (d is 1) && (n at_most 2 ^ 64 - 1 - 10 ^ 19) ≡ false → 2 ^ 64 - 1 < d * 10 ^ 19 + n
over d n p e =
    by-test (d is 1)
    (λ t.
    let one = eqb-true d 1 t in
    let rest : n at_most 2 ^ 64 - 1 - 10 ^ 19 ≡ false = rw t at e in
    let more = leb-false n (2 ^ 64 - 1 - 10 ^ 19) rest in
    omega arith)
    (λ t. let two = eqb-false d 1 t in omega arith)
