-- The walk from range to range, with numbers counted from N: each step sets one range before those that are left.
-- Assumes nothing.
use Prim.Native.Nat.{ℕ, suc, ◌+◌, ◌-◌, ◌≤◌, ◌<◌}
use mathlib.Core.Path.{◌≡◌, refl, ap, ◌∙◌}
use mathlib.Core.List.{List, [], ◌∷◌}
use mathlib.Core.Bool.{Bool, false}
use Rattle.std.specs.Prelude.{length, drop, Some, None, slice_get}
use native.Mathlib.Omega.{arith}
use Rattle.missing.specs.Missing.{is_held, ◌to◌, ◌before◌, ranges, missing}
use Rattle.missing.specs.Runs.{LastOf, PastHeld, Follows, ranges_from}
use Rattle.missing.specs.declared.Range.{Range}
use borrow.Author.Tests.{leb-true, leb-false}
use lib.Dec.{eqb, leb}
use Rattle.std.specs.Bool.{then_some}
use Rattle.wire.proofs.Tests.{by-test}
use Rattle.missing.proofs.Running.{same-ranges, skip-held, one-range}

module _ (so : ℕ → Bool) (next reach : ℕ) where
  pub one_more : (first last : ℕ) → LastOf so next reach first last
      → ranges_from so next reach first ≡ ((next + first) to (next + last)) ∷ ranges_from so next reach (last + 1)
  one_more first last l =
      let d = last - first in
      let a : suc d + (reach - last) ≡ reach + 1 - first = omega arith in
      let b : next + first + d ≡ next + last = omega arith in
      let e : next + first + suc d ≡ next + (last + 1) = omega arith in
      let f : reach - last ≡ reach + 1 - (last + 1) = omega arith in
      rw (a, b, e, f) at
      (one-range so d (next + first) (reach - last) (λ k g h. l.gap k g (omega arith)) (λ h. rw e (l.ends (omega arith))))

  pub past-them : (ahead past : ℕ) → PastHeld so next ahead past → ranges_from so next reach ahead ≡ ranges_from so next reach past
  past-them ahead past p =
      let d = past - ahead in
      let a : next + ahead + d ≡ next + past = omega arith in
      let b : reach + 1 - ahead - d ≡ reach + 1 - past = omega arith in
      rw (a, b) at (skip-held so d (next + ahead) (reach + 1 - ahead) (λ k g h. p.filled k g (omega arith)))

  pub none_left : (first : ℕ) → reach < first → ranges_from so next reach first ≡ []
  unfolding ranges
  none_left first h = let e : reach + 1 - first ≡ 0 = omega arith in rw e

  module _ (first last : ℕ) (l : LastOf so next reach first last) where
    pub the_last : last ≡ reach → ranges_from so next reach first ≡ ((next + first) to (next + last)) ∷ []
    the_last e = rw (one_more first last l, none_left (last + 1) (omega arith))

    module _ (past : ℕ) (p : PastHeld so next (last + 1) past) where
      pub on-to : ranges_from so next reach first ≡ ((next + first) to (next + last)) ∷ ranges_from so next reach past
      on-to = rw (one_more first last l, past-them (last + 1) past p)

    -- the ranges behind it
    pub none-follows : last ≡ reach → Follows so next reach first None
    none-follows e = ap (drop 1) (the_last e)

    pub one-follows : (past : ℕ) → PastHeld so next (last + 1) past → Follows so next reach first (then_some (leb past reach) past)
    one-follows past p =
        by-test (leb past reach)
        (λ e. rw e (record { within = leb-true past reach e; free = p.free; others = ap (drop 1) (on-to past p) }))
        (λ e. rw e (ap (drop 1) (on-to past p) ∙ none_left past (leb-false past reach e)))

module _ (held next top : ℕ) where
  pub from_next : next ≤ top → missing held next top ≡ ranges_from (is_held held next) next (top - next) 0
  unfolding missing
  from_next h =
      same-ranges (is_held held next) next (next + 0) (top + 1 - next) (top - next + 1 - 0) (omega arith) (omega arith)

  pub none-missing : top < next → missing held next top ≡ []
  unfolding missing ranges
  none-missing h = let e : top + 1 - next ≡ 0 = omega arith in rw e

-- a range begins at a number that is not held
pub some-range : (so : ℕ → Bool) (next reach first : ℕ) → first ≤ reach → so (next + first) ≡ false
    → length (ranges_from so next reach first) ≡ 1 + length (drop 1 (ranges_from so next reach first))
unfolding ranges
some-range so next reach first h e =
    let s : reach + 1 - first ≡ suc (reach - first) = omega arith in
    rw (s, e) (by (next + first) (ranges so (suc (next + first)) (reach - first))) where
      by : (m : ℕ) (rs : List Range) → length (m before rs) ≡ 1 + length (drop 1 (m before rs))
      by m [] = refl
      by m (r ∷ rs) = by-test (eqb r.first.0 (suc m)) (λ t. rw t (omega arith)) (λ t. rw t (omega arith))

-- the first of some ranges
pub at-first : (r : Range) (rs qs : List Range) (n : ℕ) → qs ≡ r ∷ rs → n ≡ 0 → slice_get qs n ≡ Some r
at-first r rs qs n e z = rw (e, z)
