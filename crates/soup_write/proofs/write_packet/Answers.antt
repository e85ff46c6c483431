-- `write_packet` meets its contract: what the reader says of the packet, then 9, then its bytes.
use mathlib.Core.Path.{refl, sym, ◌∙◌}
use lib.ListN.{length}
use lib.Seq.{take-length}
use Rattle.wire.proofs.Checks.{passed-on}
use Rattle.wire.proofs.Settling.{refuses, lacks-room, has_room}
use Rattle.soup_write.proofs.Sending.{refused-by, taken-by}
use Rattle.soup_write.proofs.write_packet.Goals as goal

pub returns-in_err-read : goal.returns-in_err-read
returns-in_err-read c =
    let a = c.args in
    rw (passed-on c.from_residual.result c.from_residual.ensures.1)
    (refuses _ a.out.now _ (refused-by _ _ a.packet.now (length a.out.now) (sym c.read.ensures ∙ c.in_err-read.was)))

pub returns-then-out-packet : goal.returns-then-out-packet
returns-then-out-packet c =
    let a = c.args in
    lacks-room _ a.packet.now a.out.now (taken-by _ _ a.packet.now (length a.out.now) (sym c.read.ensures ∙ c.in_ok-read.was))
    c.if-out-packet.true

pub returns : goal.returns
returns c =
    let a = c.args in
    has_room _ a.packet.now a.out.now (taken-by _ _ a.packet.now (length a.out.now) (sym c.read.ensures ∙ c.in_ok-read.was)) _ _ refl
    c.if-out-packet.false
    (rw (← take-length a.packet.now) c.copy.ensures)
