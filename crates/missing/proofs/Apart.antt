-- The ranges ascend and lie apart, and a number lies in one of them exactly if it is one of those counted and is not so.
-- Assumes nothing.
use Prim.Native.Nat.{ℕ, zero, suc, ◌+◌, ◌≤◌, ◌<◌}
use mathlib.Core.Path.{◌≡◌}
use mathlib.Core.Logic.{◌⊎◌, inl, inr, ⊎_elim}
use mathlib.Core.List.{List, [], ◌∷◌}
use mathlib.Core.Bool.{Bool, false}
use native.Mathlib.Omega.{arith}
use borrow.Author.Tests.{eqb-true, eqb-false}
use lib.Dec.{eqb}
use Rattle.wire.proofs.Tests.{by-test}
use Rattle.missing.specs.Missing.{◌before◌, ranges}
use Rattle.missing.specs.declared.Range.{Range}

-- the ranges ascend from number m on, and none begins next to the one before it
abbrev pub Apart : ℕ → List Range → Type 0
Apart m [] = Unit
Apart m (r ∷ rs) = (m ≤ r.first.0) × (r.first.0 ≤ r.last.0) × Apart (r.last.0 + 2) rs

-- number k lies in one of the ranges
abbrev pub Within : ℕ → List Range → Type 0
Within k [] = ⊥
Within k (r ∷ rs) = ((r.first.0 ≤ k) × (k ≤ r.last.0)) ⊎ Within k rs

lower : (m : ℕ) (rs : List Range) → Apart (suc m) rs → Apart m rs
lower m [] a = tt
lower m (r ∷ rs) a = (omega arith, a.1, a.2)

before-apart : (m : ℕ) (rs : List Range) → Apart (suc m) rs → Apart m (m before rs)
before-apart m [] a = (omega arith, omega arith, tt)
before-apart m (r ∷ rs) a =
    by-test (eqb r.first.0 (suc m))
    (λ e. let q = eqb-true r.first.0 (suc m) e in rw e (omega arith, omega arith, a.2))
    (λ e. let q = eqb-false r.first.0 (suc m) e in rw e (omega arith, omega arith, (omega arith, a.1, a.2)))

-- nothing lies below them
pub none_below : (k m : ℕ) (rs : List Range) → Apart m rs → k < m → Within k rs → ⊥
none_below k m [] a h w = w
none_below k m (r ∷ rs) a h w = ⊎_elim (λ i. omega arith) (none_below k (r.last.0 + 2) rs a.2 (omega arith)) w

in-before : (k m : ℕ) (rs : List Range) → Within k (m before rs) → (k ≡ m) ⊎ Within k rs
in-before k m [] w = ⊎_elim (λ i. inl (omega arith)) absurd w
in-before k m (r ∷ rs) w =
    by-test (eqb r.first.0 (suc m))
    (λ e.
    let q = eqb-true r.first.0 (suc m) e in
    let v : ((m ≤ k) × (k ≤ r.last.0)) ⊎ Within k rs = rw e at w in
    ⊎_elim (λ i. by-test (eqb k m) (λ s. inl (eqb-true k m s)) (λ s. let t = eqb-false k m s in inr (inl (omega arith, i.1))))
    (λ j. inr (inr j)) v)
    (λ e.
    let v : ((m ≤ k) × (k ≤ m)) ⊎ Within k (r ∷ rs) = rw e at w in
    ⊎_elim (λ i. inl (omega arith)) inr v)

before-in : (k m : ℕ) (rs : List Range) → Apart (suc m) rs → (k ≡ m) ⊎ Within k rs → Within k (m before rs)
before-in k m [] a w = ⊎_elim (λ i. inl (omega arith, omega arith)) absurd w
before-in k m (r ∷ rs) a w =
    by-test (eqb r.first.0 (suc m))
    (λ e.
    let q = eqb-true r.first.0 (suc m) e in
    rw e (⊎_elim (λ i. inl (omega arith, omega arith)) (⊎_elim (λ i. inl (omega arith, i.1)) inr) w))
    (λ e. rw e (⊎_elim (λ i. inl (omega arith, omega arith)) inr w))

module _ (so : ℕ → Bool) where
  pub ranges_apart : (m n : ℕ) → Apart m (ranges so m n)
  unfolding ranges
  ranges_apart m zero = tt
  ranges_apart m (suc n) =
      by-test (so m)
      (λ e. rw e (lower m (ranges so (suc m) n) (ranges_apart (suc m) n)))
      (λ e. rw e (before-apart m (ranges so (suc m) n) (ranges_apart (suc m) n)))

  pub only-those : (k m n : ℕ) → Within k (ranges so m n) → (m ≤ k) × (k < m + n) × (so k ≡ false)
  unfolding ranges
  only-those k m zero w = absurd w
  only-those k m (suc n) w =
      by-test (so m)
      (λ e. let i = only-those k (suc m) n (rw e at w) in (omega arith, omega arith, i.2))
      (λ e.
      ⊎_elim
      (λ q. (omega arith, omega arith, rw q e))
      (λ v. let i = only-those k (suc m) n v in (omega arith, omega arith, i.2))
      (in-before k m (ranges so (suc m) n) (rw e at w)))

  pub all-those : (k m n : ℕ) → m ≤ k → k < m + n → so k ≡ false → Within k (ranges so m n)
  unfolding ranges
  all-those k m zero a b f = absurd (omega arith)
  all-those k m (suc n) a b f =
      by-test (eqb k m)
      (λ s.
      let q = eqb-true k m s in
      let e : so m ≡ false = rw q at f in
      rw e (before-in k m (ranges so (suc m) n) (ranges_apart (suc m) n) (inl q)))
      (λ s.
      let q = eqb-false k m s in
      let i = all-those k (suc m) n (omega arith) (omega arith) f in
      by-test (so m)
      (λ e. rw e i)
      (λ e. rw e (before-in k m (ranges so (suc m) n) (ranges_apart (suc m) n) (inr i))))
