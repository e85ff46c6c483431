-- What a record says of a tape: an empty one is never complete, only an end packet ends one, and then its total stands.
-- Assumes nothing.
use Prim.Native.Nat.{ℕ}
use mathlib.Core.List.{List}
use mathlib.Core.Path.{◌≡◌, refl}
use mathlib.Core.Logic.{◌⊎◌, inl, inr}
use mathlib.Core.Bool.{Bool, true, false, not, ◌&&◌, ◌||◌, false≢true, true≢false}
use native.Mathlib.Omega.{arith}
use borrow.Author.Tests.{leb-true}
use lib.Dec.{leb}
use Rattle.wire.specs.Checks.{taken}
use Rattle.wire.proofs.Tests.{by-test, either}
use Rattle.record.specs.Record.{fresh, lawful}
use Rattle.reports.specs.Reports.{Report, messages, news, end, report_of, top_of, is_end}
use Rattle.record.specs.Standing.{ongoing, standing}
use Rattle.taking.specs.Taking.{Taking, taking}
use Rattle.record.specs.declared.Record.{Record}
use Rattle.record.specs.declared.Session.{Session}
use Rattle.record.proofs.Complete.{ongoing-if}
use Rattle.taking.proofs.Took.{Took, took}
use Rattle.taking.proofs.Kept.{fresh-hangs}

-- A record that has heard nothing is ongoing.
pub empty-tape : (s : Session) → lawful s ≡ true → standing (fresh s) ≡ taken ongoing
empty-tape s e = ongoing-if (fresh s) (fresh-hangs s e) refl (omega arith)

an-end : (report : Report) → is_end report ≡ true → (total : ℕ) × (report ≡ end total)
an-end (messages first ms) e = absurd (false≢true e)
an-end (news highest) e = absurd (false≢true e)
an-end (end total) e = (total, refl)

-- Nothing that is taken marks a record ended but an end packet. In MEMX style that is a shutdown which names the record's own session
-- (Whose); in UFO style it is whatever `E` the record is fed, since an `E` names no session.
pub only-an-end : (r : Record) (area d : List ℕ) (room : ℕ) (t : Taking) → taking r area d room ≡ taken t → t.after.ended ≡ true
    → (r.ended ≡ true) ⊎ ((total : ℕ) × (report_of r.session d ≡ taken (end total)))
only-an-end r area d room t e h = by (either r.ended (is_end w.report) ended) where
  w : Took r area d room t
  w = took r area d room t e

  ended : r.ended || is_end w.report ≡ true
  ended = rw w.reported.gives at h

  by : (r.ended ≡ true) ⊎ (is_end w.report ≡ true) → (r.ended ≡ true) ⊎ ((total : ℕ) × (report_of r.session d ≡ taken (end total)))
  by (inl a) = inl a
  by (inr b) = let q = an-end w.report b in inr (q.0, rw (← q.1) w.reports)

-- a top past that of an ended record would contradict it
past_end : (ended within other : Bool) → ended ≡ true → within ≡ false → ended && not within || other ≡ false → ⊥
past_end ended within other h q a = let c : true ≡ false = rw (h, q) at a in true≢false c

-- Once the end was heard the total stands: nothing that is taken changes it.
pub end-stands : (r : Record) (area d : List ℕ) (room : ℕ) (t : Taking) → taking r area d room ≡ taken t → r.ended ≡ true
    → t.after.top.0 ≡ r.top.0
end-stands r area d room t e h =
    let w = took r area d room t e in
    let top = top_of w.report in
    by-test (leb top r.top.0)
    (λ q. let l = leb-true top r.top.0 q in rw w.reported.gives (omega arith))
    (λ q.
    let other = is_end w.report && not (leb r.top.0 top) in
    absurd (past_end r.ended (leb top r.top.0) other h q w.reported.agrees))
