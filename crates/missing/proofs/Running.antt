-- The ranges of a run: held numbers are skipped, and missing ones up to a held one, or up to the end, are one range before the rest.
-- Assumes nothing.
use Prim.Native.Nat.{ℕ, zero, suc, ◌+◌, ◌-◌, ◌<◌}
use mathlib.Core.Path.{◌≡◌, refl}
use mathlib.Core.List.{List, [], ◌∷◌}
use mathlib.Core.Bool.{Bool, true, false}
use native.Mathlib.Nat.{zero-sub, suc-sub-suc, sub-zero, add-zero, add-suc, suc-add}
use native.Mathlib.Omega.{arith}
use borrow.Author.Tests.{eq-eqb, ne_eqb}
use Rattle.missing.specs.Missing.{◌to◌, ◌before◌, ranges}
use Rattle.missing.specs.Runs.{Runs}
use Rattle.missing.specs.declared.Range.{Range}
use Rattle.missing.proofs.Apart.{Apart, ranges_apart}

before-rest : (m : ℕ) (rs : List Range) → Apart (m + 2) rs → m before rs ≡ (m to m) ∷ rs
before-rest m [] a = refl
before-rest m (r ∷ rs) a = rw (ne_eqb r.first.0 (suc m) (λ e. omega arith))

module _ (so : ℕ → Bool) where
  pub same-ranges : (m k n l : ℕ) → m ≡ k → n ≡ l → ranges so m n ≡ ranges so k l
  same-ranges m k n l p q = cc

  one-missing : (m n : ℕ) → so m ≡ false → ranges so m (suc n) ≡ m before ranges so (suc m) n
  unfolding ranges
  one-missing m n e = rw e

  -- held numbers are skipped
  pub skip-held : (d m n : ℕ) → Runs so true m (m + d) → ranges so m n ≡ ranges so (m + d) (n - d)
  unfolding ranges
  skip-held zero m n h = rw (add-zero m, sub-zero n)
  skip-held (suc d) m zero h = rw (zero-sub (suc d))
  skip-held (suc d) m (suc n) h =
      rw (h m (omega arith) (omega arith), suc-sub-suc n d, add-suc m d, ← suc-add m d)
      (skip-held d (suc m) n (λ k a b. h k (omega arith) (omega arith)))

  rest-apart : (m n : ℕ) → (0 < n → so m ≡ true) → Apart (suc m) (ranges so m n)
  unfolding ranges
  rest-apart m zero h = tt
  rest-apart m (suc n) h = rw (h (omega arith)) (ranges_apart so (suc m) n)

  -- missing numbers, and then a held one or the end, are one range before the rest
  pub one-range : (d m n : ℕ) → Runs so false m (m + suc d) → (0 < n → so (m + suc d) ≡ true)
      → ranges so m (suc d + n) ≡ (m to (m + d)) ∷ ranges so (m + suc d) n
  one-range zero m n h e =
      let a : m + 1 ≡ suc m = omega arith in
      let b : 1 + n ≡ suc n = omega arith in
      let c : suc (suc m) ≡ m + 2 = omega arith in
      rw (add-zero m, a, b, one-missing m n (h m (omega arith) (omega arith)))
      (before-rest m (ranges so (suc m) n) (rw c at (rest-apart (suc m) n (rw a at e))))
  one-range (suc d) m n h e =
      let a : suc m + d ≡ m + suc d = omega arith in
      let b : suc m + suc d ≡ m + suc (suc d) = omega arith in
      let c : suc (suc d) + n ≡ suc (suc d + n) = omega arith in
      let i : ranges so (suc m) (suc d + n) ≡ ((suc m) to (suc m + d)) ∷ ranges so (suc m + suc d) n =
      one-range d (suc m) n (λ k f g. h k (omega arith) (omega arith)) (rw (← b) at e) in
      rw (c, one-missing m (suc d + n) (h m (omega arith) (omega arith)), i, eq-eqb (suc m) (suc m) refl, a, b)
