-- What a test's value says: of the numbers that it compares, of its parts, and of the branch that it decided.
-- Assumes nothing.
use Prim.Native.Nat.{ℕ, ◌≤◌, ◌<◌}
use mathlib.Core.Path.{◌≡◌, refl, sym, ◌∙◌}
use mathlib.Core.Logic.{◌⊎◌, inl, inr, ⊎_map}
use mathlib.Core.Bool.{Bool, true, false, not, ◌&&◌, ◌||◌, or-true, true≢false}
use native.Mathlib.Nat.{pos_of_ne-zero}
use native.Mathlib.Omega.{arith}
use borrow.Author.Tests.{lt-ltb, le-ltb, le-leb, lt-leb, eq-eqb, ne_eqb, leb-true, leb-false, eqb-true, eqb-false, not-true, not-false}
use lib.Dec.{leb, ltb, eqb}
use Rattle.wire.specs.Checks.{◌is◌}

-- a comparison's value from the fact, for a chain of checks: `search tests` finds the facts
pub ruleset tests = (lt-ltb, le-ltb, le-leb, lt-leb, eq-eqb, ne_eqb)

-- one way or the other
pub by-test : {A : Type 0} (b : Bool) → (b ≡ true → A) → (b ≡ false → A) → A
by-test true y n = y refl
by-test false y n = n refl

-- two constructors are never equal, which `cc` proves as 0 ≡ 1
pub impossible : {C : Type 0} → ◌≡◌ {A = ℕ} 0 1 → C
impossible z = absurd (differ z) where
  differ : ◌≡◌ {A = ℕ} 0 1 → ⊥
  differ z = omega arith

-- ---- two tests together

pub and_left : (a b : Bool) → a && b ≡ true → a ≡ true
and_left true b e = refl
and_left false b e = e

pub and_right : (a b : Bool) → a && b ≡ true → b ≡ true
and_right true b e = e
and_right false b e = absurd (true≢false (sym e))

pub both : (a b : Bool) → a && b ≡ true → (a ≡ true) × (b ≡ true)
both a b e = (and_left a b e, and_right a b e)

pub either : (a b : Bool) → a || b ≡ true → (a ≡ true) ⊎ (b ≡ true)
either true b e = inl refl
either false b e = inr e

pub or_right : (a b : Bool) → a || b ≡ false → b ≡ false
or_right true b e = absurd (true≢false e)
or_right false b e = e

-- ---- a test that a call answered, and how the branch went, told of the definition that the call equals

pub held : {a b : Bool} → a ≡ b → not a ≡ false → b ≡ true
held {a} p q = sym p ∙ not-false a q

pub failed : {a b : Bool} → a ≡ b → not a ≡ true → b ≡ false
failed {a} p q = sym p ∙ not-true a q

-- ---- comparisons

-- two that say the same
pub leb-same : (a b c d : ℕ) → (a ≤ b → c ≤ d) → (c ≤ d → a ≤ b) → leb a b ≡ leb c d
leb-same a b c d f g =
    by-test (leb a b)
    (λ e. e ∙ sym (le-leb c d (f (leb-true a b e))))
    (λ e. let h = leb-false a b e in e ∙ sym (by-test (leb c d) (λ t. let k = g (leb-true c d t) in absurd (omega arith)) (λ t. t)))

-- not at most is more than
pub more-than : (m n : ℕ) → ltb n m ≡ not (leb m n)
more-than m n =
    by-test (leb m n)
    (λ e. rw e (le-ltb n m (leb-true m n e)))
    (λ e. rw e (lt-ltb n m (leb-false m n e)))

-- a number that is not 0
pub nonzero : (n : ℕ) → not (n is 0) ≡ true → 0 < n
nonzero n e = pos_of_ne-zero (eqb-false n 0 (not-true (n is 0) e))

pub not-zero : (n : ℕ) → 0 < n → not (n is 0) ≡ true
not-zero n h = rw (ne_eqb n 0 (λ e. omega arith))

-- one of two numbers, as a fact and as a test
module _ (n a b : ℕ) where
  pub one-of-test : (n ≡ a) ⊎ (n ≡ b) → (n is a || n is b) ≡ true
  one-of-test (inl e) = rw (eq-eqb n a e)
  one-of-test (inr e) = rw (eq-eqb n b e) (or-true (eqb n a))

  pub one-of-fails : ((n ≡ a) ⊎ (n ≡ b) → ⊥) → (n is a || n is b) ≡ false
  one-of-fails e = rw (ne_eqb n a (λ p. e (inl p)), ne_eqb n b (λ p. e (inr p)))

  pub one-of-fact : (n is a || n is b) ≡ true → (n ≡ a) ⊎ (n ≡ b)
  one-of-fact e = ⊎_map (eqb-true n a) (eqb-true n b) (either (eqb n a) (eqb n b) e)
