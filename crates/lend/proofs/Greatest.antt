-- The greatest number that passes a test: it passes, none above it does, and how it moves with the test.
-- Assumes nothing.
use Prim.Native.Nat.{ℕ, zero, suc, ◌≤◌}
use mathlib.Core.Path.{◌≡◌, refl, ap, sym, ◌∙◌}
use mathlib.Core.Bool.{Bool, true, false, true≢false}
use native.Mathlib.Omega.{arith}
use borrow.Author.Tests.{leb-true, leb-false}
use lib.Dec.{leb}
use Rattle.wire.proofs.Tests.{by-test}
use Rattle.lend.specs.Answer.{greatest}

-- it is at most c, it passes unless it is 0, and what passes is not greater
pub greatest-bound : (p : ℕ → Bool) (c : ℕ) → greatest p c ≤ c
unfolding greatest
greatest-bound p zero = omega arith
greatest-bound p (suc c) =
    let h = greatest-bound p c in
    by-test (p (suc c)) (λ e. rw e (omega arith)) (λ e. rw e (omega arith))

pub greatest-passes : (p : ℕ → Bool) (c : ℕ) → p 0 ≡ true → p (greatest p c) ≡ true
unfolding greatest
greatest-passes p zero z = z
greatest-passes p (suc c) z = by-test (p (suc c)) (λ e. rw (e, e)) (λ e. rw e (greatest-passes p c z))

pub greatest-above : (p : ℕ → Bool) (c k : ℕ) → k ≤ c → p k ≡ true → k ≤ greatest p c
unfolding greatest
greatest-above p zero k h t = h
greatest-above p (suc c) k h t = by-test (p (suc c)) (λ e. rw e h) (λ e. rw e (greatest-above p c k (below e) t)) where
  below : p (suc c) ≡ false → k ≤ c
  below e =
      by-test (leb k c) (leb-true k c)
      (λ l.
      let g = leb-false k c l in
      let top : k ≡ suc c = omega arith in
      absurd (true≢false (sym t ∙ ap p top ∙ e)))

-- none passes
pub greatest-zero : (p : ℕ → Bool) → greatest p 0 ≡ 0
unfolding greatest
greatest-zero p = refl

pub greatest-none : (p : ℕ → Bool) (c : ℕ) → ((j : ℕ) → p (suc j) ≡ false) → greatest p c ≡ 0
unfolding greatest
greatest-none p zero none = refl
greatest-none p (suc c) none = rw (none c) (greatest-none p c none)

-- the same test
pub greatest-same : (p q : ℕ → Bool) (c : ℕ) → ((j : ℕ) → p j ≡ q j) → greatest p c ≡ greatest q c
unfolding greatest
greatest-same p q zero same = refl
greatest-same p q (suc c) same = rw (same (suc c), greatest-same p q c same)

-- a test moved by one
pub greatest-moved : (p q : ℕ → Bool) (c : ℕ) → ((j : ℕ) → p (suc j) ≡ q j) → q 0 ≡ true → greatest p (suc c) ≡ suc (greatest q c)
unfolding greatest
greatest-moved p q zero same z = rw (same 0, z)
greatest-moved p q (suc c) same z =
    by-test (q (suc c))
    (λ e. rw (same (suc c), e))
    (λ e. rw (same (suc c), e) (greatest-moved p q c same z))
