-- The refusals are the definition's checks; past them the answer is a packet of messages, an end or a heartbeat (`Replies`).
use mathlib.Core.Path.{sym}
use native.Mathlib.Omega.{arith}
use borrow.Author.Tests.{lt-leb, ne_eqb}
use lib.ListN.{length}
use Rattle.wire.specs.Datagram.{limit}
use Rattle.wire.proofs.Settling.{refuses, settled-by}
use Rattle.lend.specs.Answer.{answer_reply}
use Rattle.lend.proofs.Replies.{answers-none, answers-packed, answers-end, answers-beat}
use Rattle.lend.proofs.answer.Goals as goal

pub returns-then-not-hangs_together : goal.returns-then-not-hangs_together
unfolding answer_reply
returns-then-not-hangs_together c = refuses _ _ _ (rw (sym c.if-not-hangs_together.ensures))

pub returns-then-first-eq0 : goal.returns-then-first-eq0
returns-then-first-eq0 c =
    let a = c.args in
    refuses _ _ _ (answers-none a.log a.bytes.now (sym c.if-not-hangs_together.ensures) a.first.0 a.count _ c.then-first-eq0.either)

pub returns-then-out-lt-LIMIT : goal.returns-then-out-lt-LIMIT
unfolding answer_reply
returns-then-out-lt-LIMIT c =
    let a = c.args in
    refuses _ _ _ (rw (
      sym c.if-not-hangs_together.ensures,
      ne_eqb a.first.0 0 c.if-first-eq0.false,
      ne_eqb a.count 0 c.if-count-eq0.false,
      lt-leb limit (length a.out.now) c.if-out-lt-LIMIT.true,
    ))

pub returns-then-first-log : goal.returns-then-first-log
returns-then-first-log c =
    let a = c.args in
    settled-by
    (answers-packed a.log a.bytes.now (sym c.if-not-hangs_together.ensures) a.first.0 a.count (length a.out.now)
    (omega arith) (omega arith) (omega arith) (omega arith))
    c.send.ensures

pub returns-then-log : goal.returns-then-log
returns-then-log c =
    let a = c.args in
    settled-by
    (answers-end a.log a.bytes.now (sym c.if-not-hangs_together.ensures) a.first.0 a.count (length a.out.now)
    (omega arith) (omega arith) (omega arith) (omega arith) c.if-log.true)
    c.write_end.ensures

pub returns : goal.returns
returns c =
    let a = c.args in
    settled-by
    (answers-beat a.log a.bytes.now (sym c.if-not-hangs_together.ensures) a.first.0 a.count (length a.out.now)
    (omega arith) (omega arith) (omega arith) (omega arith) c.if-log.false)
    c.write_messages.ensures
