-- How a record stands, and what that means.
-- Assumes nothing.
use Prim.Native.Nat.{ℕ, ◌+◌, ◌≤◌, ◌<◌}
use mathlib.Core.List.{List, [], ◌∷◌}
use mathlib.Core.Logic.{◌↔◌}
use mathlib.Core.Path.{◌≡◌, refl}
use mathlib.Core.Bool.{true, false}
use native.Mathlib.Omega.{arith}
use borrow.Author.Tests.{le-leb, lt-leb, leb-true, leb-false, eq-eqb}
use lib.Dec.{leb}
use Rattle.wire.specs.Checks.{taken, ◌else◌}
use Rattle.wire.specs.declared.refusal.Refusal.TheVariants.{Broken}
use Rattle.wire.proofs.Tests.{by-test}
use Rattle.wire.proofs.Checks.{all-passed}
use Rattle.missing.specs.Missing.{is_held}
use Rattle.missing.specs.declared.Range.{Range}
use Rattle.missing.proofs.Apart.{Within}
use Rattle.missing.proofs.Exactly.{missing-exactly}
use Rattle.record.specs.Record.{hangs}
use Rattle.record.specs.Standing.{State, complete, ongoing, missing, missing_of, state, standing}
use Rattle.record.specs.declared.Record.{Record}
use Rattle.record.proofs.Hanging.{hanging}

-- what each state says of the numbers
abbrev Means : Record → State → Type 0
Means r complete = (r.ended ≡ true) × (r.next.0 ≡ r.top.0 + 1)
Means r ongoing = (r.ended ≡ false) × (r.next.0 ≡ r.top.0 + 1)
Means r (missing rs) = (rs ≡ missing_of r) × (r.next.0 ≤ r.top.0)

module _ (r : Record) (h : hangs r ≡ true) where
  pub means : Means r (state r)
  means =
      by-test (leb r.next.0 r.top.0)
      (λ p. rw p (refl, leb-true r.next.0 r.top.0 p))
      (λ p.
      let a = leb-false r.next.0 r.top.0 p in
      let b = (hanging r h).near in
      let n : r.next.0 ≡ r.top.0 + 1 = omega arith in
      by-test r.ended
      (λ q. rw (p, q, eq-eqb r.next.0 (r.top.0 + 1) n) (refl, n))
      (λ q. rw (p, q) (refl, n)))

  stands : standing r ≡ taken (state r)
  unfolding standing
  stands = rw h

  -- Ended and N = T+1 is complete.
  pub complete-if : r.ended ≡ true → r.next.0 ≡ r.top.0 + 1 → standing r ≡ taken complete
  complete-if e n =
      rw (stands, lt-leb r.next.0 r.top.0 (omega arith), e, eq-eqb r.next.0 (r.top.0 + 1) n)

  -- Nothing missing without an end is not complete.
  pub ongoing-if : r.ended ≡ false → r.top.0 < r.next.0 → standing r ≡ taken ongoing
  ongoing-if e n = rw (stands, lt-leb r.next.0 r.top.0 n, e)

  -- What of N to T is not held is missing, an end heard or not.
  pub missing-if : r.next.0 ≤ r.top.0 → standing r ≡ taken (missing (missing_of r))
  missing-if n = rw (stands, le-leb r.next.0 r.top.0 n)

-- What a record stands at is what it means: complete is ended and N = T+1, ongoing is N = T+1 with no end, missing is what of N to T is not
-- held.
pub standing-means : (r : Record) (s : State) → standing r ≡ taken s → Means r s
unfolding standing
standing-means r s e =
    let p = all-passed ((hangs r else Broken) ∷ []) (taken (state r)) s e in
    let same : state r ≡ s = cc p.1 in
    rw same at (means r p.0.0)

-- What a record says is missing is all that it lacks, and nothing else: what of N to T is not held.
pub missing-means : (r : Record) (rs : List Range) → standing r ≡ taken (missing rs) → (k : ℕ) → Within k rs
    ↔ ((r.next.0 ≤ k) × (k ≤ r.top.0) × (is_held r.held r.next.0 k ≡ false))
missing-means r rs e k = rw (standing-means r (missing rs) e).0 (missing-exactly r.held r.next.0 r.top.0 k)
