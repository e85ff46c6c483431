-- What is refused is refused under a number, never 0, so that a caller tells by that number whether it was refused.
-- Assumes nothing.
use Prim.Native.Nat.{ℕ}
use mathlib.Core.Path.{◌≡◌, refl}
use mathlib.Core.List.{List}
use borrow.Author.Tests.{eqb-false}
use lib.ListN.{length, take, drop}
use lib.Seq.{take-append_seam}
use Rattle.wire.specs.Checks.{Verdict, refused, taken, ◌told_by◌}
use Rattle.wire.specs.Refusals.{number_of}
use Rattle.wire.specs.Reply.{Reply}
use Rattle.wire.specs.declared.refusal.Refusal.{Refusal}
use Rattle.wire.proofs.Numbered.{has-number}
use Rattle.taking.specs.Taking.{Taking, taken_of}
use Rattle.session.specs.Session.{sent}
use Rattle.flat.specs.Wrote.{FlatSettled}
use Rattle.flat.specs.declared.wrote.Wrote.{Wrote}
use Rattle.flat_record.specs.Keeping.{flat_taken}
use Rattle.flat_record.specs.declared.keeping.FlatRecord.{FlatRecord}
use Rattle.flat_record.specs.declared.keeping.FlatTaken.{FlatTaken}
use Rattle.flat_session.specs.Face.{written}

pub never-nought : {C : Type 0} (why : Refusal) → number_of why ≡ 0 → C
never-nought why z = absurd (eqb-false (number_of why) 0 (has-number why) z)

-- what a writer laid down goes out, as the caller reads its answer
pub datagram-left : (v : Reply) (out : List ℕ) (x : Wrote) (left : List ℕ) → FlatSettled v out x left → written x left ≡ sent v
unfolding sent
datagram-left (refused why) out x left e = rw (e.answer, has-number why)
datagram-left (taken d) out x left e = rw (e.answer, e.bytes, take-append_seam d (drop (length d) out))

-- and stands at the output's start, if the answer is no refusal
pub laid-down : (v : Reply) (out : List ℕ) (x : Wrote) (left : List ℕ) → FlatSettled v out x left → x.refusal ≡ 0
    → v ≡ taken (take x.bytes left)
laid-down (refused why) out x left e z = never-nought why (rw e.answer at z)
laid-down (taken d) out x left e z = rw (e.answer, e.bytes, take-append_seam d (drop (length d) out))

-- what was not refused was taken
pub took : (v : Verdict Taking) (given : FlatRecord) (x : FlatTaken) → x ≡ flat_taken given (v told_by taken_of) → x.refusal ≡ 0
    → (t : Taking) × (v ≡ taken t)
took (refused why) given x e z = never-nought why (rw e at z)
took (taken t) given x e z = (t, refl)
