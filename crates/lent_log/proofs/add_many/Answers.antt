-- Each return is a law of `Entering`, which has an answer for each of the tests; what they said is handed to it.
use mathlib.Core.Path.{refl, sym, ◌∙◌}
use Rattle.wire.specs.Checks.{Passed}
use Rattle.wire.specs.Fields.{Bytes}
use Rattle.wire.proofs.Checks.{passed-on}
use Rattle.lent_log.specs.Log.{growing, to_the_end}
use Rattle.lent_log.proofs.Many.{Tallied, counted}
use Rattle.lent_log.proofs.Entering.{refuses, grows, many-closed, not-counted, many-over, many-crowded, many-entered}
use Rattle.lent_log.proofs.add_many.Goals.{In_ok-may_grow, In_ok-more}
use Rattle.lent_log.proofs.add_many.Goals as goal

open_log : (c : In_ok-may_grow) → Passed (growing c.args.log c.args.bytes.now)
open_log c = grows c.args.log c.args.bytes.now c.may_grow.ensures.grows c.in_ok-may_grow.was

messages : (c : In_ok-more) → Tallied (to_the_end c.args.framed.now) c.in_ok-more.more
messages c = counted _ _ (sym c.tally.ensures ∙ c.in_ok-more.was)

-- the messages given are bytes
framed-bytes : (c : In_ok-more) → Bytes c.args.framed.now
framed-bytes c i = (c.type_inv.framed i).fits

pub returns-in_err-may_grow : goal.returns-in_err-may_grow
returns-in_err-may_grow c =
    let a = c.args in
    let why = c.in_err-may_grow.field-0.0 in
    refuses _ _ _ why (many-closed a.log a.bytes.now c.may_grow.ensures.grows a.framed.now why c.in_err-may_grow.was)
    (passed-on c.from_residual.result c.from_residual.ensures.1)

pub returns-in_err-more : goal.returns-in_err-more
returns-in_err-more c =
    let a = c.args in
    let g = open_log (goal.at.returns-in_err-more c).In_ok-may_grow in
    let why = c.in_err-more.field-0.0 in
    refuses _ _ _ why (not-counted a.log a.bytes.now a.framed.now g why (sym c.tally.ensures ∙ c.in_err-more.was))
    (passed-on c.from_residual-in_err-more.result c.from_residual-in_err-more.ensures.1)

pub returns-then-log-more : goal.returns-then-log-more
returns-then-log-more c =
    let a = c.args in
    let at = goal.at.returns-then-log-more c in
    refuses _ _ _ _
    (many-over a.log a.bytes.now a.framed.now (open_log at.In_ok-may_grow) _ (messages at.In_ok-more) c.if-log-more.true) refl

pub returns-then-bytes-log : goal.returns-then-bytes-log
returns-then-bytes-log c =
    let a = c.args in
    let at = goal.at.returns-then-bytes-log c in
    refuses _ _ _ _
    (many-crowded a.log a.bytes.now a.framed.now (open_log at.In_ok-may_grow) _ (messages at.In_ok-more) c.if-log-more.false
    (framed-bytes at.In_ok-more) c.if-bytes-log.true) refl

pub returns : goal.returns
returns c =
    let a = c.args in
    let at = goal.at.returns c in
    many-entered a.log a.bytes.now a.framed.now (open_log at.In_ok-may_grow) _ (messages at.In_ok-more) c.if-log-more.false
    (framed-bytes at.In_ok-more) c.if-bytes-log.false _ c.copy.ensures
