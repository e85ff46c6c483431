-- At most 17 ranges are missing: between two of them lies a held message, and those are N+1 to N+31.
-- Assumes nothing.
use Prim.Native.Nat.{ℕ, ◌+◌, ◌*◌, ◌≤◌, ◌<◌}
use mathlib.Core.Path.{◌≡◌, refl}
use mathlib.Core.Logic.{◌⊎◌, inl, inr, ⊎_elim}
use mathlib.Core.List.{List, [], ◌∷◌}
use native.Mathlib.Omega.{arith}
use lib.ListN.{length}
use Rattle.wire.proofs.Tests.{by-test}
use Rattle.missing.specs.Missing.{is_held, missing}
use Rattle.missing.specs.declared.Range.{Range}
use Rattle.missing.proofs.Single.{held-within}
use Rattle.missing.proofs.Apart.{Apart, Within, none_below}
use Rattle.missing.proofs.Exactly.{missing-exactly, missing-apart}

-- what lies from m on and between the ranges is at most b
abbrev Gaps : (b m : ℕ) → List Range → Type 0
Gaps b m rs = (k n : ℕ) → m ≤ k → k < n → Within n rs → (Within k rs → ⊥) → k ≤ b

module _ (b : ℕ) where
  last-or-near : (m : ℕ) (r : Range) (rs : List Range) → Apart m (r ∷ rs) → Gaps b m (r ∷ rs) → (rs ≡ []) ⊎ (r.last.0 + 1 ≤ b)
  last-or-near m r [] a g = inl refl
  last-or-near m r (q ∷ rs) a g =
      let end : ℕ = r.last.0 in
      let over : Within (end + 1) (r ∷ q ∷ rs) → ⊥ =
      ⊎_elim (λ i. omega arith) (none_below (end + 1) (end + 2) (q ∷ rs) a.2 (omega arith)) in
      inr (g (end + 1) q.first.0 (omega arith) (omega arith) (inr (inl (omega arith, a.2.1))) over)

  few : (m : ℕ) (rs : List Range) → Apart m rs → Gaps b m rs → m ≤ b + 1 → 2 * length rs + m ≤ b + 3
  few m [] a g h = omega arith
  few m (r ∷ rs) a g h =
      let more : Gaps b (r.last.0 + 2) rs = λ k n f l w v. g k n (omega arith) l (inr w) (⊎_elim (λ i. omega arith) v) in
      ⊎_elim
      (λ e. rw e (omega arith))
      (λ q. let i = few (r.last.0 + 2) rs a.2 more (omega arith) in omega arith)
      (last-or-near m r rs a g)

pub at-most-17 : (held next top : ℕ) → length (missing held next top) ≤ 17
at-most-17 held next top =
    let i = few (next + 31) next (missing held next top) (missing-apart held next top) between (omega arith) in
    omega arith where
      between : Gaps (next + 31) next (missing held next top)
      between k n f l w v =
          by-test (is_held held next k)
          (λ e. (held-within held next k e).1)
          (λ e.
          let o = (missing-exactly held next top n).0 w in
          absurd (v ((missing-exactly held next top k).1 (f, omega arith, e))))
