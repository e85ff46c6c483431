-- The outcomes of the room's functions are determined.
-- Assumes nothing.
use Prim.Native.Nat.{ℕ}
use mathlib.Core.Path.{◌≡◌}
use mathlib.Core.List.{List}
use Rattle.wire.proofs.Outcomes.{Answered, Determined, same_answer, same-both}
use Rattle.wire.specs.Checks.{Verdict}
use Rattle.taking.specs.Taking.{Taking}
use Rattle.flat_record.specs.Keeping.{FlatAnswered}
use Rattle.flat_record.specs.declared.keeping.FlatRecord.{FlatRecord}
use Rattle.flat_record.specs.declared.keeping.FlatTaken.{FlatTaken}
use Rattle.flat_record.proofs.opening.open_ufo.Kinds as open-ufo
use Rattle.flat_record.proofs.opening.open_ufo.Reads as open-ufo-reads
use Rattle.flat_record.proofs.opening.open_memx.Kinds as open-memx
use Rattle.flat_record.proofs.opening.open_memx.Reads as open-memx-reads
use Rattle.flat_record.proofs.keeping.take.Kinds as take
use Rattle.flat_record.proofs.keeping.take.Reads as take-reads
use Rattle.flat_record.proofs.keeping.standing_of.Kinds as standing-of
use Rattle.flat_record.proofs.keeping.standing_of.Reads as standing-of-reads
use Rattle.flat_record.proofs.keeping.missing_range.Kinds as missing-range
use Rattle.flat_record.proofs.keeping.missing_range.Reads as missing-range-reads
use Rattle.flat_record.proofs.requesting.ask.Kinds as ask
use Rattle.flat_record.proofs.requesting.ask.Reads as ask-reads

-- a verdict settles what is taken, what is held, and what is delivered
pub same_taken : {v : Verdict Taking} {given : FlatRecord} {area out k l m n : List ℕ} {x y : FlatTaken}
    → FlatAnswered v given area out x k m → FlatAnswered v given area out y l n → (x ≡ y) × (◌≡◌ {A = List ℕ × List ℕ} (k, m) (l, n))
same_taken p q = same-both p.answer q.answer (λ i. (p.slots i, p.bytes i)) (λ i. (q.slots i, q.bytes i))

open-ufo-is : Answered 1 open-ufo.ps open-ufo.r open-ufo-reads.Post
open-ufo-is κs a x y s t = same_answer

open-memx-is : Answered 0 open-memx.ps open-memx.r open-memx-reads.Post
open-memx-is κs a x y s t = same_answer

take-is : Determined 3 take.ps take.r (List ℕ × List ℕ) (λ κs s. (s.1.0.now, s.1.1.1.0.now)) take-reads.Post
take-is κs a x y s t = same_taken

missing-range-is : Answered 0 missing-range.ps missing-range.r missing-range-reads.Post
missing-range-is κs a x y s t = same_answer

standing-of-is : Answered 0 standing-of.ps standing-of.r standing-of-reads.Post
standing-of-is κs a x y s t = same_answer

ask-is : Answered 0 ask.ps ask.r ask-reads.Post
ask-is κs a x y s t = same_answer
