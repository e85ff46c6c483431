-- `heartbeat` meets its contract: 10, and then the packet that names the next number, if it has room.
use mathlib.Core.Path.{sym}
use native.Mathlib.Omega.{arith}
use lib.ListN.{length}
use Rattle.wire.proofs.Settling.{refuses, settled-by}
use Rattle.lend.specs.Answer.{heartbeat_reply}
use Rattle.lent_log.proofs.Hanging.{hanging}
use Rattle.lend.proofs.Replies.{replies-beat}
use Rattle.lend.proofs.heartbeat.Goals as goal

pub returns-then-not-hangs_together : goal.returns-then-not-hangs_together
unfolding heartbeat_reply
returns-then-not-hangs_together c = refuses _ _ _ (rw (sym c.if-not-hangs_together.ensures))

pub overflow_add-log : goal.overflow_add-log
overflow_add-log c =
    let a = c.args in
    let h = (hanging a.log a.bytes.now (sym c.if-not-hangs_together.ensures)).count in
    omega arith

pub returns : goal.returns
returns c =
    let a = c.args in
    settled-by (replies-beat a.log a.bytes.now (sym c.if-not-hangs_together.ensures) (length a.out.now)) c.write_messages.ensures
