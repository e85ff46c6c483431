-- What is missing is exactly what of N to T is not held, in ranges that lie apart; the first begins at N.
-- Assumes nothing.
use Prim.Native.Nat.{ℕ, suc, ◌+◌, ◌-◌, ◌≤◌, ◌<◌}
use mathlib.Core.Path.{◌≡◌, refl}
use mathlib.Core.Logic.{inl, ⊎_elim, ◌↔◌}
use mathlib.Core.List.{List, [], ◌∷◌}
use mathlib.Core.Bool.{true, false}
use native.Mathlib.Omega.{arith}
use lib.Dec.{eqb}
use Rattle.wire.proofs.Tests.{by-test}
use Rattle.missing.specs.Missing.{is_held, ◌before◌, ranges, missing, ◌at◌}
use Rattle.missing.specs.declared.Range.{Range}
use Rattle.missing.proofs.Single.{none_before}
use Rattle.missing.proofs.Apart.{Apart, Within, none_below, ranges_apart, only-those, all-those}

begins-there : (m : ℕ) (rs : List Range) → ((m before rs) at 0).first.0 ≡ m
begins-there m [] = refl
begins-there m (r ∷ rs) = by-test (eqb r.first.0 (suc m)) (λ e. rw e) (λ e. rw e)

-- the first of some ranges
module _ (k : ℕ) where
  first-in : (n : ℕ) (rs : List Range) → Within k rs → (rs at 0).first.0 ≤ n → n ≤ (rs at 0).last.0 → Within n rs
  first-in n [] w f l = absurd w
  first-in n (r ∷ rs) w f l = inl (f, l)

  first-ordered : (m : ℕ) (rs : List Range) → Apart m rs → Within k rs → (rs at 0).first.0 ≤ (rs at 0).last.0
  first-ordered m [] a w = absurd w
  first-ordered m (r ∷ rs) a w = a.1

first-over : (m : ℕ) (rs : List Range) → Apart m rs → Within ((rs at 0).last.0 + 1) rs → ⊥
first-over m [] a v = v
first-over m (r ∷ rs) a v = ⊎_elim (λ i. omega arith) (none_below (r.last.0 + 1) (r.last.0 + 2) rs a.2 (omega arith)) v

module _ (held next top : ℕ) where
  -- A number lies in one of the ranges exactly if it is one of N to T and is not held.
  pub missing-exactly : (k : ℕ) → Within k (missing held next top) ↔ ((next ≤ k) × (k ≤ top) × (is_held held next k ≡ false))
  unfolding missing
  missing-exactly k = (
    λ w. let o = only-those (is_held held next) k next (top + 1 - next) w in (o.0, omega arith, o.2),
    λ f. all-those (is_held held next) k next (top + 1 - next) f.0 (omega arith) f.2,
  )

  -- The ranges ascend, and between two of them something is held.
  pub missing-apart : Apart next (missing held next top)
  unfolding missing
  missing-apart = ranges_apart (is_held held next) next (top + 1 - next)

  module _ (h : next ≤ top) where
    -- N itself is missing.
    pub next-missing : Within next (missing held next top)
    next-missing = (missing-exactly next).1 (omega arith, h, none_before held next next (omega arith))

    pub first-from-next : (missing held next top at 0).first.0 ≡ next
    unfolding missing ranges
    first-from-next =
        let e : top + 1 - next ≡ suc (top - next) = omega arith in
        rw (e, none_before held next next (omega arith)) (begins-there next (ranges (is_held held next) (suc next) (top - next)))

    -- All of the first range is missing ..
    pub first-missing : (k : ℕ) → next ≤ k → k ≤ (missing held next top at 0).last.0 → (k ≤ top) × (is_held held next k ≡ false)
    first-missing k f l =
        let rs = missing held next top in
        let n = first-from-next in
        let o = (missing-exactly k).0 (first-in next k rs next-missing (omega arith) l) in
        (o.1, o.2)

    pub first-within : (next ≤ (missing held next top at 0).last.0) × ((missing held next top at 0).last.0 ≤ top)
    first-within =
        let n = first-from-next in
        let o = first-ordered next next (missing held next top) missing-apart next-missing in
        let f : next ≤ (missing held next top at 0).last.0 = omega arith in
        (f, (first-missing (missing held next top at 0).last.0 f (omega arith)).0)

    -- .. and it ends at the top, or before a message that is held.
    pub first_ends : (missing held next top at 0).last.0 < top → is_held held next ((missing held next top at 0).last.0 + 1) ≡ true
    first_ends l =
        let last = (missing held next top at 0).last.0 in
        let w = first-within in
        by-test (is_held held next (last + 1))
        (λ e. e)
        (λ e. absurd (first-over next (missing held next top) missing-apart ((missing-exactly (last + 1)).1 (omega arith, omega arith, e))))
