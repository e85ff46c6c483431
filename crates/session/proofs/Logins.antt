-- An answer to a login is read as what it is, and a record refuses it as 16: it is not for the record.
-- Assumes nothing.
use Prim.Native.Nat.{ℕ}
use mathlib.Core.Path.{◌≡◌, sym, ap, ◌∙◌}
use mathlib.Core.List.{List}
use mathlib.Core.Bool.{true}
use native.Mathlib.Omega.{arith}
use borrow.Author.Tests.{leb-true}
use lib.ListN.{length, length-append}
use Rattle.wire.specs.Checks.{refused, taken, ◌into◌}
use Rattle.wire.specs.Reply.{within}
use Rattle.wire.specs.declared.kinds.Name.{Name}
use Rattle.wire.specs.declared.refusal.Refusal.TheVariants.{NotForRecord}
use Rattle.wire.proofs.Checks.{not-both, all-passed, passed-all}
use Rattle.wire.proofs.Settling.{within-taken}
use Rattle.wire.proofs.Width.{length-bytes_of}
use Rattle.names.specs.Names.{name_bytes}
use Rattle.ufo.specs.Down as ufo
use Rattle.ufo.proofs.DownLaid.{of_accept, of_reject, laid-accept, laid-reject}
use Rattle.ufo_write.specs.WriteDown.{accept_reply, reject_reply}
use Rattle.ufo_write.proofs.DownReplies.{accept-reply, reject-reply}
use Rattle.reports.specs.Reports.{Report, of_ufo, report_of}
use Rattle.held.specs.Hanging.{sound}
use Rattle.record.specs.Record.{hangs}
use Rattle.record.specs.declared.Record.{Record}
use Rattle.record.specs.declared.Session.TheVariants.{Ufo}
use Rattle.taking.specs.Taking.{taking}
use Rattle.session.specs.Promise.{LoginAnswer, accepted, rejected}

pub accept-answers : (session : Name) (next room : ℕ) (d : List ℕ) → accept_reply (name_bytes session) next room ≡ taken d → LoginAnswer d
accept-answers session next room d e =
    let name : List ℕ = name_bytes session in
    let ten : length name ≡ 10 = simp (length-append, length-bytes_of) in
    let packet : ufo.Packet = ufo.accept name next in
    let p = all-passed (of_accept name next) (within room (ufo.write packet)) d (sym (accept-reply name next room ten) ∙ e) in
    let low = leb-true next 4294967295 p.0.1.1.1.0 in
    let same : ufo.write packet ≡ d = within-taken room (ufo.write packet) d p.1 in
    accepted name next
    (ap ufo.read (sym same) ∙ laid-accept name next ten (omega arith) ∙ passed-all (of_accept name next) (taken packet) p.0)

pub reject-answers : (reason room : ℕ) (d : List ℕ) → reject_reply reason room ≡ taken d → LoginAnswer d
reject-answers reason room d e =
    let packet : ufo.Packet = ufo.reject reason in
    let p = all-passed (of_reject reason) (within room (ufo.write packet)) d (sym (reject-reply reason room) ∙ e) in
    let same : ufo.write packet ≡ d = within-taken room (ufo.write packet) d p.1 in
    rejected reason (ap ufo.read (sym same) ∙ laid-reject reason ∙ passed-all (of_reject reason) (taken packet) p.0)

no-report : (d : List ℕ) → LoginAnswer d → ufo.read d into of_ufo ≡ refused NotForRecord
no-report d (accepted session next e) = rw e
no-report d (rejected reason e) = rw e

-- nothing that is reported is one
pub reports-none : {C : Type 0} (d : List ℕ) (p : ufo.Packet) (report : Report) → LoginAnswer d → ufo.read d ≡ taken p
    → of_ufo p ≡ taken report → C
reports-none d p report l e f = not-both (ufo.read d into of_ufo) NotForRecord report (no-report d l) (rw e f)

pub refuses-login : (r : Record) (area : List ℕ) (name : Name) → r.session ≡ Ufo name → hangs r ≡ true → sound r.held area ≡ true
    → (d : List ℕ) → LoginAnswer d → (room : ℕ) → taking r area d room ≡ refused NotForRecord
unfolding taking report_of
refuses-login r area name u h s d l room = rw (h, s, u, no-report d l)
