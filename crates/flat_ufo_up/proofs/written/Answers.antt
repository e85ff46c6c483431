-- Type by type: a body where none belongs is refused, and otherwise the type's own writer answers.
use Prim.Native.Nat.{◌+◌}
use borrow.Author.Tests.{eq-eqb, ne_eqb}
use lib.ListN.{length}
use Rattle.wire.specs.declared.refusal.Refusal.TheVariants.{UnknownType, Framing}
use Rattle.flat_ufo_up.specs.Writing.{message_reply}
use Rattle.flat_packet.proofs.Unfitting.{unfits}
use Rattle.flat_ufo_up.proofs.written.Goals as goal

pub returns-then-body-ne0 : goal.returns-then-body-ne0
unfolding message_reply
returns-then-body-ne0 c =
    let n = length c.args.body.now in
    unfits _ _ 1472 (29 + n) Framing _ (rw (c.in-76.is, ne_eqb n 0 c.if-body-ne0.true)) c.unfit.ensures

pub returns-then-body-ne0-2 : goal.returns-then-body-ne0-2
unfolding message_reply
returns-then-body-ne0-2 c =
    let n = length c.args.body.now in
    unfits _ _ 1472 (9 + n) Framing _ (rw (c.in-84.is, ne_eqb n 0 c.if-body-ne0-2.true)) c.unfit-then-body-ne0-2.ensures

pub returns-then-body-ne0-3 : goal.returns-then-body-ne0-3
unfolding message_reply
returns-then-body-ne0-3 c =
    let n = length c.args.body.now in
    unfits _ _ 1472 (3 + n) Framing _ (rw (c.in-82.is, ne_eqb n 0 c.if-body-ne0-3.true)) c.unfit-then-body-ne0-3.ensures

pub returns-then-body-ne0-4 : goal.returns-then-body-ne0-4
unfolding message_reply
returns-then-body-ne0-4 c =
    let n = length c.args.body.now in
    unfits _ _ 1472 (3 + n) Framing _ (rw (c.in-79.is, ne_eqb n 0 c.if-body-ne0-4.true)) c.unfit-then-body-ne0-4.ensures

pub returns-else-body-ne0 : goal.returns-else-body-ne0
unfolding message_reply
returns-else-body-ne0 c =
    let n = length c.args.body.now in
    rw (c.in-76.is, eq-eqb n 0 c.if-body-ne0.false) c.login_written.ensures

pub returns-else-body-ne0-2 : goal.returns-else-body-ne0-2
unfolding message_reply
returns-else-body-ne0-2 c =
    let n = length c.args.body.now in
    rw (c.in-84.is, eq-eqb n 0 c.if-body-ne0-2.false) c.write_request.ensures

pub returns-in-85 : goal.returns-in-85
unfolding message_reply
returns-in-85 c = rw c.in-85.is c.write_unsequenced.ensures

pub returns-else-body-ne0-3 : goal.returns-else-body-ne0-3
unfolding message_reply
returns-else-body-ne0-3 c =
    let n = length c.args.body.now in
    rw (c.in-82.is, eq-eqb n 0 c.if-body-ne0-3.false) c.write_heartbeat.ensures

pub returns-else-body-ne0-4 : goal.returns-else-body-ne0-4
unfolding message_reply
returns-else-body-ne0-4 c =
    let n = length c.args.body.now in
    rw (c.in-79.is, eq-eqb n 0 c.if-body-ne0-4.false) c.write_logout.ensures

pub returns-in_default : goal.returns-in_default
unfolding message_reply
returns-in_default c =
    let a = c.args in
    let k = a.fields.kind in
    let n = length a.body.now in
    unfits _ _ 1472 (3 + n) UnknownType _ (rw (
      ne_eqb k 76 c.in_default.in_default-own.rest.0.0.0.0.1,
      ne_eqb k 84 c.in_default.in_default-own.rest.0.0.0.1,
      ne_eqb k 85 c.in_default.in_default-own.rest.0.0.1,
      ne_eqb k 82 c.in_default.in_default-own.rest.0.1,
      ne_eqb k 79 c.in_default.in_default-own.rest.1,
    )) c.unfit-in_default.ensures
