-- The missing ranges that the face tells one by one are those that it counts: the one at place 0 is the one that it names with their count,
-- and past the last of them stand noughts.
-- Assumes nothing.
use Prim.Native.Nat.{ℕ, zero, suc, ◌≤◌}
use mathlib.Core.Path.{◌≡◌, refl}
use mathlib.Core.Bool.{true}
use mathlib.Core.List.{List, [], ◌∷◌}
use lib.ListN.{length, get_or-eq_default}
use Rattle.std.specs.Prelude.{slice_get}
use Rattle.wire.specs.Checks.{taken, ◌else◌}
use Rattle.wire.specs.declared.refusal.Refusal.TheVariants.{Broken}
use Rattle.wire.proofs.Checks.{all-passed}
use Rattle.missing.specs.Missing.{◌to◌, ◌at◌}
use Rattle.missing.specs.declared.Range.{Range}
use Rattle.record.specs.Record.{hangs}
use Rattle.record.specs.Standing.{missing, missing_of, state, standing, range_at}
use Rattle.record.specs.declared.Record.{Record}
use Rattle.record.proofs.Complete.{standing-means}
use Rattle.flat_record.specs.Keeping.{known_record, flat_range, standing_answer, range_answer}
use Rattle.flat_record.specs.declared.keeping.FlatRecord.{FlatRecord}

-- a range that is there, or noughts where there is none
pub flat-at : (rs : List Range) (place : ℕ) → flat_range (taken (slice_get rs place)) ≡ record {
  refusal = 0;
  first = (rs at place).first.0;
  last = (rs at place).last.0;
}
flat-at [] place = refl
flat-at (r ∷ rs) zero = refl
flat-at (r ∷ rs) (suc place) = flat-at rs place

module _ (given : FlatRecord) (r : Record) (known : known_record given ≡ taken r) (rs : List Range)
    (lacks : standing r ≡ taken (missing rs)) where
  pub counted : standing_answer given ≡ record {
    refusal = 0;
    complete = 0;
    missing = length rs;
    first = (rs at 0).first.0;
    last = (rs at 0).last.0;
  }
  counted = rw (known, lacks)

  gives : (place : ℕ) → range_at r place ≡ taken (slice_get rs place)
  unfolding standing range_at
  gives place =
      let hung : hangs r ≡ true = (all-passed ((hangs r else Broken) ∷ []) (taken (state r)) (missing rs) lacks).0.0 in
      let same : rs ≡ missing_of r = (standing-means r (missing rs) lacks).0 in
      rw (hung, same)

  pub one_by_one : (place : ℕ) → range_answer given place ≡ record {
    refusal = 0;
    first = (rs at place).first.0;
    last = (rs at place).last.0;
  }
  one_by_one place = rw (known, gives place) (flat-at rs place)

  pub none-past-the-last : (place : ℕ) → length rs ≤ place → range_answer given place ≡ record { refusal = 0; first = 0; last = 0 }
  none-past-the-last place l =
      let noughts : rs at place ≡ 0 to 0 = get_or-eq_default rs (0 to 0) l in
      rw (one_by_one place, noughts)
