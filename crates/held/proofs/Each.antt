-- A test put to each number below n: what `all` over them answers is `every` of it.
-- Assumes nothing.
use Prim.Native.Nat.{ℕ, ◌<◌}
use mathlib.Core.Path.{◌≡◌, sym, ◌∙◌}
use mathlib.Core.List.{List}
use mathlib.Core.Bool.{Bool, true, false, true≢false}
use native.Mathlib.Nat.{zero-add}
use native.Mathlib.Omega.{arith}
use denote.Param.Members.{Mut}
use Rattle.std.specs.Prelude.{length, Option}
use Rattle.std.specs.Bool.{MatchBool}
use Rattle.std.specs.Fn.{Called}
use Rattle.std.specs.Iterator.{YieldsThen}
use Rattle.std.specs.List.{FoldsTo, AllWithin, HoldsAt, range_with_len}
use Rattle.std.specs.Option.{MatchOption}
use Rattle.std.specs.declared.ops.Range.{Range}
use Rattle.std.proofs.iter.Yields.{nat_range_steps}
use Rattle.std.proofs.lemmas.Iterator.{cases_from_all, YieldsList-from_range}
use Rattle.std.proofs.lemmas.List.FromFn.{get_or-range_with_len, length-range_with_len}
use Rattle.wire.proofs.Tests.{by-test}
use Rattle.held.specs.Hanging.{every}
use Rattle.held.proofs.Bitmap.{every-so, every_true}

-- one that fails
fails-at : (n : ℕ) (p : ℕ → Bool) (k : ℕ) → k < n → p k ≡ false → every n p ≡ false
fails-at n p k h e = by-test (every n p) (λ t. absurd (true≢false (sym (every_true n p t k h) ∙ e))) (λ t. t)

module _ (n : ℕ) (p : ℕ → Bool) where
  abbrev all : List ℕ
  all = range_with_len 0 n

  decided : (r : Bool) → MatchBool r (AllWithin (λ i. p i ≡ true) all 0 (length all))
      ((k : ℕ) × (k < length all) × HoldsAt (λ i. p i ≡ false) all k) → r ≡ every n p
  decided true h =
      sym (every-so n p (λ i l. rw (get_or-range_with_len 0 n i 0 l, zero-add) at (h i 0 (omega arith) (rw length-range_with_len l))))
  decided false h =
      let l = rw length-range_with_len at h.1 in
      sym (fails-at n p h.0 l (rw (get_or-range_with_len 0 n h.0 0 l, zero-add) at (h.2 0)))

  pub every-answer : {F : Type 0} {g : Mut F (ℕ × Unit {0}) Bool} (s u : Range ℕ) (f : F) (r : Bool)
      → ((xs : List ℕ) × (o : Option ℕ) × (j : F) × YieldsThen nat_range_steps s xs o u
      × FoldsTo (λ p x q. Called g p (x, tt) true q) f xs j
      × MatchOption o (r ≡ true) (λ x. (r ≡ false) × ((h : F) × Called g j (x, tt) false h)))
      → s ≡ record { start = 0; end = n }
      → ((x : ℕ) (q : F) → Called g f (x, tt) true q → (q ≡ f) × (p x ≡ true))
      → ((x : ℕ) (q : F) → Called g f (x, tt) false q → p x ≡ false)
      → r ≡ every n p
  every-answer s u f r ran e holds fails = decided r
      (cases_from_all u f r (λ i. p i ≡ true) (λ i. p i ≡ false) ran (YieldsList-from_range 0 n n e (omega arith)) holds fails)
