-- `end_packet` meets its contract: 10, then 12, and then the end packet, if it has room.
use mathlib.Core.Path.{sym}
use borrow.Author.Tests.{not-true, not-false}
use lib.ListN.{length}
use Rattle.wire.proofs.Settling.{refuses, settled-by}
use Rattle.lend.specs.Answer.{end_packet_reply}
use Rattle.lend.proofs.Replies.{replies-end}
use Rattle.lend.proofs.end_packet.Goals as goal

pub returns-then-not-hangs_together : goal.returns-then-not-hangs_together
unfolding end_packet_reply
returns-then-not-hangs_together c = refuses _ _ _ (rw (sym c.if-not-hangs_together.ensures))

pub returns-then-not-log : goal.returns-then-not-log
unfolding end_packet_reply
returns-then-not-log c =
    refuses _ _ _ (rw (sym c.if-not-hangs_together.ensures, not-true c.args.log.ended c.if-not-log.true))

pub returns : goal.returns
returns c =
    let a = c.args in
    settled-by
    (replies-end a.log a.bytes.now (sym c.if-not-hangs_together.ensures) (length a.out.now) (not-false a.log.ended c.if-not-log.false))
    c.write_end.ensures
