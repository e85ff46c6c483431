-- When what is lent is `ready`, test by test as the code makes them; and what that says.
-- Assumes nothing.
use Rattle.std.specs.Prelude.{if◌then◌else◌}
use Prim.Native.Nat.{ℕ, ◌≤◌, ◌<◌}
use mathlib.Core.Path.{◌≡◌, sym}
use mathlib.Core.List.{List}
use mathlib.Core.Bool.{Bool, true, false, ◌&&◌}
use native.Mathlib.Omega.{arith}
use lib.Dec.{leb}
use lib.ListN.{length, take}
use lib.Seq.{length-take-le}
use borrow.Author.Tests.{le-leb, lt-leb, eq-eqb, leb-true, eqb-true}
use Rattle.wire.specs.Checks.{◌is◌}
use Rattle.wire.proofs.Tests.{by-test, and_left, and_right}
use Rattle.soup.specs.Read.{unbroken}
use Rattle.soup_pieces.specs.Eating.{ready}
use Rattle.soup_pieces.specs.declared.Pieces.{Pieces}

module _ (pieces : Pieces) (buffer : List ℕ) where
  -- ---- as the code asks

  pub too_short : length buffer < 4098 → false ≡ ready pieces buffer
  unfolding ready
  too_short h = rw (lt-leb 4098 (length buffer) h)

  pub too_many : 4098 ≤ length buffer → 4098 ≤ pieces.kept → false ≡ ready pieces buffer
  unfolding ready
  too_many h k = rw (le-leb 4098 (length buffer) h, lt-leb pieces.kept 4097 (omega arith))

  pub by-rest : (b : Bool) → 4098 ≤ length buffer → pieces.kept < 4098
      → b ≡ (if pieces.dropping then pieces.kept is 0 else unbroken (take pieces.kept buffer)) → b ≡ ready pieces buffer
  unfolding ready
  by-rest b h k e = rw (le-leb 4098 (length buffer) h, le-leb pieces.kept 4097 (omega arith)) e

  -- ---- what it says

  pub record Readiness : Type 0 where
    pub long : 4098 ≤ length buffer
    pub few : pieces.kept ≤ 4097
    pub none : pieces.dropping ≡ true → pieces.kept ≡ 0
    pub whole : unbroken (take pieces.kept buffer) ≡ true

  pub length-kept : Readiness → length (take pieces.kept buffer) ≡ pieces.kept
  length-kept h = length-take-le pieces.kept buffer (omega (arith, h.few, h.long))

  abbrev rest : Bool
  rest = if pieces.dropping then pieces.kept is 0 else unbroken (take pieces.kept buffer)

  pub ready-says : ready pieces buffer ≡ true → Readiness
  unfolding ready unbroken
  ready-says e =
      let l = leb 4098 (length buffer) in
      let f = leb pieces.kept 4097 in
      let lf = and_left (l && f) rest e in
      let r : rest ≡ true = and_right (l && f) rest e in
      let none : pieces.dropping ≡ true → pieces.kept ≡ 0 = λ t. eqb-true pieces.kept 0 (rw t at r) in
      record {
        long = leb-true 4098 (length buffer) (and_left l f lf);
        few = leb-true pieces.kept 4097 (and_right l f lf);
        none = none;
        whole = by-test pieces.dropping (λ t. rw (none t)) (λ t. rw t at r);
      }

  pub so-ready : Readiness → ready pieces buffer ≡ true
  so-ready h =
      sym (by-rest true h.long (omega (arith, h.few))
      (by-test pieces.dropping (λ t. rw t (sym (eq-eqb pieces.kept 0 (h.none t)))) (λ t. rw t (sym h.whole))))
