-- What a program is told of a record is how it stands: the word, how many ranges are missing, and each of them by its place.
-- Assumes nothing.
use Prim.Native.Nat.{ℕ, suc, ◌+◌}
use mathlib.Core.Path.{◌≡◌, refl, sym, ap, ◌∙◌}
use mathlib.Core.List.{List, [], ◌∷◌}
use mathlib.Core.Bool.{true}
use native.Mathlib.Omega.{arith}
use lib.ListN.{length}
use Rattle.std.specs.Prelude.{Option, Some, slice_get}
use Rattle.wire.specs.Checks.{Verdict, refused, taken, ◌else◌, ◌told_by◌}
use Rattle.wire.specs.declared.kinds.Name.{Name}
use Rattle.wire.specs.declared.refusal.Refusal.TheVariants.{Broken}
use Rattle.wire.proofs.Checks.{all-passed}
use Rattle.missing.specs.Missing.{◌at◌}
use Rattle.missing.specs.declared.Range.{Range}
use Rattle.record.specs.Record.{opening, hangs}
use Rattle.record.specs.Standing.{State, complete, ongoing, missing, missing_of, state, standing, standing_of, range_at}
use Rattle.record.specs.declared.Record.{Record}
use Rattle.record.proofs.Complete.{standing-means}
use Rattle.session.specs.Caller.{LeavesOpened, LeavesRanges, LeavesTold, LeavesStanding}

pub opened-left : (session : Name) (left : Verdict Record → Type 0) → left (opening session) → LeavesOpened session left
opened-left session left l κs a x e g p = rw (p, g) l

module _ (kept : Record) where
  -- a record of which something is missing hangs together, so it is not refused where its ranges are asked for
  hangs-if-told : (told : State) → standing kept ≡ taken told → hangs kept ≡ true
  unfolding standing
  hangs-if-told told e = (all-passed ((hangs kept else Broken) ∷ []) (taken (state kept)) told e).0.0

  range_at_lem : hangs kept ≡ true → (place : ℕ) → range_at kept place ≡ taken (slice_get (missing_of kept) place)
  unfolding range_at
  range_at_lem h place = rw h

  -- from a place on, range by range
  ranges-left : hangs kept ≡ true → (rs : List Range) (place : ℕ)
      → ((i n : ℕ) → n ≡ i + place → slice_get (missing_of kept) n ≡ slice_get rs i)
      → (left : List Range → Type 0) → left rs → LeavesRanges kept (length rs) place left
  ranges-left h [] place f left l = l
  ranges-left h (r ∷ rs) place f left l =
      let here : range_at kept place ≡ taken (Some r) = range_at_lem h place
      ∙ ap (λ (o : Option Range). taken o) (f 0 place (omega arith)) in
      λ κs a x e g p. rw (p, g.0, g.1, here)
      (ranges-left h rs (suc place) (λ i n m. f (suc i) n (omega arith)) (λ others. left (r ∷ others)) l)

  told-left : (v : Verdict State) → standing kept ≡ v → (left : Verdict State → Type 0) → left v
      → LeavesTold kept (v told_by standing_of) left
  told-left (refused n) e left l = l
  told-left (taken complete) e left l = l
  told-left (taken ongoing) e left l = l
  told-left (taken (missing rs)) e left l =
      let same : missing_of kept ≡ rs = sym (standing-means kept (missing rs) e).0 in
      ranges-left (hangs-if-told (missing rs) e) rs 0 (λ i n m. let j : n ≡ i = omega arith in rw (j, same))
      (λ ranges. (ranges at 0 ≡ (rs at 0)) × left (taken (missing ranges))) (refl, l)

  pub standing-left : (left : Verdict State → Type 0) → left (standing kept) → LeavesStanding kept left
  standing-left left l κs a x e g p = rw (p, g) (told-left (standing kept) refl left l)
