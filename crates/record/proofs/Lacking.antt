-- Where there is a first missing range something is missing, and that range is its first; where there is none, nothing is.
-- Assumes nothing.
use Prim.Native.Nat.{ℕ, ◌<◌}
use mathlib.Core.Path.{◌≡◌}
use mathlib.Core.List.{List, [], ◌∷◌}
use mathlib.Core.Bool.{true, false}
use native.Mathlib.Omega.{arith}
use borrow.Author.Tests.{leb-true, leb-false}
use lib.ListN.{length}
use Rattle.std.specs.Prelude.{Some, None, slice_get}
use Rattle.wire.specs.Checks.{taken, ◌told_by◌}
use Rattle.wire.proofs.Tests.{by-test, impossible}
use Rattle.missing.specs.Missing.{◌at◌}
use Rattle.missing.specs.declared.Range.{Range}
use Rattle.missing.proofs.Apart.{Within}
use Rattle.missing.proofs.Walking.{none-missing}
use Rattle.missing.proofs.Exactly.{next-missing}
use Rattle.record.specs.Record.{hangs}
use Rattle.record.specs.Standing.{missing_of, lacks, standing, standing_of}
use Rattle.record.specs.declared.Record.{Record}
use Rattle.record.specs.declared.standing.Standing.TheVariants as stands
use Rattle.record.proofs.Hanging.{hanging}
use Rattle.record.proofs.Complete.{complete-if, ongoing-if, missing-if}

first-is : (rs : List Range) (x : Range) → slice_get rs 0 ≡ Some x → x ≡ rs at 0
first-is [] x e = impossible cc
first-is (r ∷ rs) x e = cc

some-in : (rs : List Range) (k : ℕ) → Within k rs → slice_get rs 0 ≡ None → ⊥
some-in [] k w e = w
some-in (r ∷ rs) k w e = impossible cc

module _ (r : Record) (h : hangs r ≡ true) where
  pub some-missing : (x : Range) → slice_get (missing_of r) 0 ≡ Some x
      → standing r told_by standing_of ≡ taken (stands.Missing (length (missing_of r)) x)
  some-missing x e =
      by-test (lacks r)
      (λ q. rw (missing-if r h (leb-true r.next.0 r.top.0 q), first-is (missing_of r) x e))
      (λ q.
      let none : missing_of r ≡ [] = none-missing r.held r.next.0 r.top.0 (leb-false r.next.0 r.top.0 q) in
      let e : slice_get (missing_of r) 0 ≡ Some x = e in
      impossible (cc (rw none at e)))

  module _ (e : slice_get (missing_of r) 0 ≡ None) where
    pub none_lacks : r.top.0 < r.next.0
    none_lacks = by-test (lacks r)
        (λ q. absurd (some-in (missing_of r) r.next.0 (next-missing r.held r.next.0 r.top.0 (leb-true r.next.0 r.top.0 q)) e))
        (leb-false r.next.0 r.top.0)

    pub none-complete : r.ended ≡ true → standing r told_by standing_of ≡ taken stands.Complete
    none-complete q =
        let b = (hanging r h).near in
        let l = none_lacks in
        rw (complete-if r h q (omega arith))

    pub none-ongoing : r.ended ≡ false → standing r told_by standing_of ≡ taken stands.Ongoing
    none-ongoing q = rw (ongoing-if r h q none_lacks)
