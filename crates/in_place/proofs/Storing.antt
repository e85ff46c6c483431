-- What lies there after a step is read off the answer: what was taken is stored, and a refusal leaves the record and every byte.
-- Assumes nothing.
use Prim.Native.Nat.{ℕ}
use mathlib.Core.Path.{◌≡◌}
use mathlib.Core.List.{List}
use Rattle.wire.specs.Checks.{Verdict, refused, taken}
use Rattle.wire.specs.declared.kinds.Sequence.{Sequence}
use Rattle.wire.specs.declared.refusal.Refusal.{Refusal}
use Rattle.wire.proofs.Tests.{impossible}
use Rattle.record.specs.declared.Record.{Record}
use Rattle.taking.specs.Taking.{Taking}
use Rattle.taking.specs.declared.Taken.{Taken}
use Rattle.asking.specs.Asking.{Wish, nothing, wait, request}
use Rattle.asking.specs.declared.Asked.{Asked}
use Rattle.asking.specs.declared.Asked.TheVariants as asks
use Rattle.in_place.specs.Lent.{TakenLent, AskedLent}

module _ {kept lies : Record} {area area_left out left : List ℕ} {r : Verdict Taken} where
  pub taken-is-stored : (v : Verdict Taking) → TakenLent v kept area out r area_left left lies → (t : Taken)
      → r ≡ taken t → lies ≡ t.after
  taken-is-stored (refused n) e b q = let a = e.answered.answer in impossible cc
  taken-is-stored (taken t) e b q = let a = e.answered.answer in let s = e.stored in cc

  pub refusal-leaves-all : (v : Verdict Taking) → TakenLent v kept area out r area_left left lies → (why : Refusal) → r ≡ refused why
      → (lies ≡ kept) × (area_left ≡ area) × (left ≡ out)
  refusal-leaves-all (refused m) e why q = (e.stored, e.answered.slots, e.answered.bytes)
  refusal-leaves-all (taken t) e why q = let a = e.answered.answer in impossible cc

module _ {kept lies : Record} {r : Verdict Asked} where
  pub request-is-stored : (v : Verdict Wish) → AskedLent v kept r lies → (first : Sequence) (count : ℕ) (after : Record)
      → r ≡ taken (asks.Request first count after) → lies ≡ after
  request-is-stored (refused n) e first count after q = let a = e.answer in impossible cc
  request-is-stored (taken nothing) e first count after q = let a = e.answer in impossible cc
  request-is-stored (taken wait) e first count after q = let a = e.answer in impossible cc
  request-is-stored (taken (request f c next)) e first count after q = let a = e.answer in let s = e.stored in cc

  pub else-it-stays : (v : Verdict Wish) → AskedLent v kept r lies
      → ((first : Sequence) (count : ℕ) (after : Record) → r ≡ taken (asks.Request first count after) → ⊥) → lies ≡ kept
  else-it-stays (refused n) e no-request = e.stored
  else-it-stays (taken nothing) e no-request = e.stored
  else-it-stays (taken wait) e no-request = e.stored
  else-it-stays (taken (request f c next)) e no-request = absurd (no-request (record { 0 = f }) c next e.answer)
