-- Each return is a law of `Entering`, which has an answer for each of the tests; what they said is handed to it.
use mathlib.Core.Path.{refl}
use Rattle.wire.specs.Checks.{Passed}
use Rattle.wire.proofs.Checks.{passed-on}
use Rattle.lent_log.specs.Log.{growing}
use Rattle.lent_log.proofs.Entering.{refuses, grows, one-closed, one-long, one-over, one-crowded, one-entered}
use Rattle.lent_log.proofs.add.Goals.{In_ok-may_grow}
use Rattle.lent_log.proofs.add.Goals as goal

open_log : (c : In_ok-may_grow) → Passed (growing c.args.log c.args.bytes.now)
open_log c = grows c.args.log c.args.bytes.now c.may_grow.ensures.grows c.in_ok-may_grow.was

pub returns-in_err-may_grow : goal.returns-in_err-may_grow
returns-in_err-may_grow c =
    let a = c.args in
    let why = c.in_err-may_grow.field-0.0 in
    refuses _ _ _ why (one-closed a.log a.bytes.now c.may_grow.ensures.grows a.message.now why c.in_err-may_grow.was)
    (passed-on c.from_residual.result c.from_residual.ensures.1)

pub returns-then-len-gt-LONGEST_MESSAGE : goal.returns-then-len-gt-LONGEST_MESSAGE
returns-then-len-gt-LONGEST_MESSAGE c =
    let a = c.args in
    let g = open_log (goal.at.returns-then-len-gt-LONGEST_MESSAGE c).In_ok-may_grow in
    refuses _ _ _ _ (one-long a.log a.bytes.now a.message.now g c.if-len-gt-LONGEST_MESSAGE.true) refl

pub returns-then-log-eq-MOST_MESSAGES : goal.returns-then-log-eq-MOST_MESSAGES
returns-then-log-eq-MOST_MESSAGES c =
    let a = c.args in
    let g = open_log (goal.at.returns-then-log-eq-MOST_MESSAGES c).In_ok-may_grow in
    refuses _ _ _ _
    (one-over a.log a.bytes.now a.message.now g c.if-len-gt-LONGEST_MESSAGE.false c.if-log-eq-MOST_MESSAGES.true) refl

pub returns-then-bytes-log : goal.returns-then-bytes-log
returns-then-bytes-log c =
    let a = c.args in
    let g = open_log (goal.at.returns-then-bytes-log c).In_ok-may_grow in
    refuses _ _ _ _
    (one-crowded a.log a.bytes.now a.message.now g c.if-len-gt-LONGEST_MESSAGE.false c.if-log-eq-MOST_MESSAGES.false c.if-bytes-log.true)
    refl

pub returns : goal.returns
returns c =
    let a = c.args in
    let g = open_log (goal.at.returns c).In_ok-may_grow in
    one-entered a.log a.bytes.now a.message.now g c.if-len-gt-LONGEST_MESSAGE.false c.if-log-eq-MOST_MESSAGES.false c.if-bytes-log.false _ _
    c.put2.ensures c.copy.ensures
