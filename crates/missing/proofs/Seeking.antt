-- What a search from number to number says: the first held one ends a range, and the first that is not ends the held ones.
-- Assumes nothing.
use Prim.Native.Nat.{ℕ, ◌+◌, ◌-◌, ◌≤◌, ◌<◌, min}
use mathlib.Core.Path.{◌≡◌, ap, ◌∙◌}
use mathlib.Core.Bool.{Bool, true, false}
use native.Mathlib.Omega.{arith}
use borrow.Author.Tests.{eqb-true, eqb-false, leb-true, leb-false}
use lib.Dec.{eqb, leb}
use Rattle.std.specs.Prelude.{Option, Some, None}
use Rattle.std.specs.Option.{MatchOption, unwrap_or}
use Rattle.wire.proofs.Tests.{by-test}
use Rattle.missing.specs.Missing.{is_held}
use Rattle.missing.specs.Runs.{Runs, LastOf, PastHeld}
use Rattle.missing.proofs.Single.{none-beyond}

module _ (held next : ℕ) where
  abbrev so : ℕ → Bool
  so = is_held held next

  -- the numbers behind the first one up to the last are missing, and it is too
  gap : (first last : ℕ) → so (next + first) ≡ false → ((j : ℕ) → first ≤ j → j < last → so (next + (j + 1)) ≡ false)
      → Runs so false (next + first) (next + (last + 1))
  gap first last e f k a b =
      by-test (eqb k (next + first))
      (λ t. ap so (eqb-true k (next + first) t) ∙ e)
      (λ t.
      let n = eqb-false k (next + first) t in
      let s : k ≡ next + (k - next - 1 + 1) = omega arith in
      ap so s ∙ f (k - next - 1) (omega arith) (omega arith))

  pub last-found : (reach first near : ℕ) (o : Option ℕ) → near ≡ min reach 31 → first ≤ reach → so (next + first) ≡ false
      → MatchOption o ((k : ℕ) → first ≤ k → k < near → so (next + (k + 1)) ≡ false)
      (λ i. (first ≤ i) × (i < near) × (so (next + (i + 1)) ≡ true) × ((k : ℕ) → first ≤ k → k < i → so (next + (k + 1)) ≡ false))
      → LastOf so next reach first (unwrap_or o reach)
  last-found reach first near None m h e f = record {
    after = h;
    within = omega arith;
    gap = gap first reach e (λ j a b.
        by-test (leb 31 j)
        (λ t. let l = leb-true 31 j t in none-beyond held next (next + (j + 1)) (omega arith))
        (λ t. let l = leb-false 31 j t in f j a (omega arith)));
    ends = λ l. absurd (omega arith);
  }
  last-found reach first near (Some i) m h e f = record {
    after = f.0;
    within = let l = f.1 in omega arith;
    gap = gap first i e f.3;
    ends = λ _. f.2;
  }

  pub past-found : (ahead : ℕ) (o : Option ℕ) → ahead ≤ 32
      → MatchOption o ((k : ℕ) → ahead ≤ k → k < 32 → so (next + k) ≡ true)
      (λ i. (ahead ≤ i) × (i < 32) × (so (next + i) ≡ false) × ((k : ℕ) → ahead ≤ k → k < i → so (next + k) ≡ true))
      → PastHeld so next ahead (unwrap_or o 32)
  past-found ahead None h f = record {
    after = h;
    near = omega arith;
    filled = λ k a b. let s : k ≡ next + (k - next) = omega arith in ap so s ∙ f (k - next) (omega arith) (omega arith);
    free = none-beyond held next (next + 32) (omega arith);
  }
  past-found ahead (Some i) h f = record {
    after = f.0;
    near = let l = f.1 in omega arith;
    filled = λ k a b. let s : k ≡ next + (k - next) = omega arith in ap so s ∙ f.3 (k - next) (omega arith) (omega arith);
    free = f.2;
  }
