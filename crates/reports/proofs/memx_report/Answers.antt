-- `memx_report` meets its contract: the blocks of messages begin where the datagram says.
use Prim.Native.Nat.{ℕ, ◌+◌}
use mathlib.Core.Path.{◌≡◌, refl, sym, ap, ◌∙◌}
use mathlib.Core.Bool.{true}
use mathlib.Core.List.{List}
use borrow.Author.Tests.{not-false}
use lib.ListN.{length}
use Rattle.wire.specs.Checks.{◌is◌, Verdict, refused, taken, ◌into◌, ◌told_by◌}
use Rattle.wire.specs.declared.kinds.Sequence.{Sequence}
use Rattle.wire.proofs.Checks.{taken-same}
use Rattle.memx.specs.Packet as memx
use Rattle.memx.specs.Read.{blocks_at, read}
use Rattle.memx.proofs.Carried.{carried-place}
use Rattle.memx.specs.Reading.{memx_of}
use Rattle.memx.specs.declared.reading.Memx.{Memx}
use Rattle.memx.specs.declared.reading.Says.TheVariants as says
use Rattle.reports.specs.Reports.{of_memx, reported_of}
use Rattle.reports.specs.declared.Reported.TheVariants as reported
use Rattle.reports.proofs.memx_report.Goals as goal

placed : (own : ℕ) (d : List ℕ) (m : Memx) (first : Sequence) (count : ℕ) (v : Verdict memx.Packet) → read d ≡ v
    → v told_by memx_of ≡ taken m → (m.session.0 is own) ≡ true → m.says ≡ says.Messages first count
    → v into of_memx own told_by reported_of (blocks_at d) ≡ taken (reported.Messages first count (20 + m.extra))
placed own d m first count (refused why) e t o s = cc
placed own d m first count (taken (memx.heartbeat session highest extra)) e t o s = cc
placed own d m first count (taken (memx.shutdown session highest extra)) e t o s = cc
placed own d m first count (taken (memx.messages session f extra ms)) e t o s =
    let same : memx_of (memx.messages session f extra ms) ≡ m = taken-same _ m t in
    let id : session ≡ m.session.0 = ap (λ (x : Memx). x.session.0) same in
    let more : length extra ≡ m.extra = ap (λ (x : Memx). x.extra) same in
    let says : says.Messages (record { 0 = f }) (length ms) ≡ says.Messages first count = ap (λ (x : Memx). x.says) same ∙ s in
    let first' : f ≡ first.0 = cc in
    let count' : length ms ≡ count = cc in
    rw (carried-place d session f extra ms e, id, o, more, first', count')

pub returns-in-Messages : goal.returns-in-Messages
returns-in-Messages c =
    let a = c.args in
    let m = c.in_ok-packet.packet in
    sym (placed a.own.0 a.datagram.now m c.in-Messages.first c.in-Messages.count (read a.datagram.now) refl
    (sym c.read.ensures ∙ c.in_ok-packet.was) (not-false (m.session.0 is a.own.0) (sym c.if-ne.ensures)) c.in-Messages.is)
