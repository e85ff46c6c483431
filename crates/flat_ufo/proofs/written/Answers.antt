-- Type by type: a body where none belongs is refused, and otherwise the type's own writer answers.
use Prim.Native.Nat.{◌+◌}
use borrow.Author.Tests.{eq-eqb, ne_eqb}
use lib.ListN.{length}
use Rattle.wire.specs.declared.refusal.Refusal.TheVariants.{UnknownType, Framing}
use Rattle.flat_ufo.specs.Writing.{down_reply}
use Rattle.flat_packet.proofs.Unfitting.{unfits}
use Rattle.flat_ufo.proofs.written.Goals as goal

pub returns-then-body-ne0 : goal.returns-then-body-ne0
unfolding down_reply
returns-then-body-ne0 c =
    let n = length c.args.body.now in
    unfits _ _ 1472 (15 + n) Framing _ (rw (c.in-65.is, ne_eqb n 0 c.if-body-ne0.true)) c.unfit.ensures

pub returns-then-body-ne0-2 : goal.returns-then-body-ne0-2
unfolding down_reply
returns-then-body-ne0-2 c =
    let n = length c.args.body.now in
    unfits _ _ 1472 (2 + n) Framing _ (rw (c.in-74.is, ne_eqb n 0 c.if-body-ne0-2.true)) c.unfit-then-body-ne0-2.ensures

pub returns-then-body-ne0-3 : goal.returns-then-body-ne0-3
unfolding down_reply
returns-then-body-ne0-3 c =
    let n = length c.args.body.now in
    unfits _ _ 1472 (5 + n) Framing _ (rw (c.in-69.is, ne_eqb n 0 c.if-body-ne0-3.true)) c.unfit-then-body-ne0-3.ensures

pub returns-else-body-ne0 : goal.returns-else-body-ne0
unfolding down_reply
returns-else-body-ne0 c =
    let n = length c.args.body.now in
    rw (c.in-65.is, eq-eqb n 0 c.if-body-ne0.false, ← c.name_of.ensures.1) c.write_accept.ensures

pub returns-else-body-ne0-2 : goal.returns-else-body-ne0-2
unfolding down_reply
returns-else-body-ne0-2 c =
    let n = length c.args.body.now in
    rw (c.in-74.is, eq-eqb n 0 c.if-body-ne0-2.false) c.write_reject.ensures

pub returns-in-83 : goal.returns-in-83
unfolding down_reply
returns-in-83 c = rw c.in-83.is c.write_messages.ensures

pub returns-else-body-ne0-3 : goal.returns-else-body-ne0-3
unfolding down_reply
returns-else-body-ne0-3 c =
    let n = length c.args.body.now in
    rw (c.in-69.is, eq-eqb n 0 c.if-body-ne0-3.false) c.write_end.ensures

pub returns-in_default : goal.returns-in_default
unfolding down_reply
returns-in_default c =
    let a = c.args in
    let k = a.fields.kind in
    let n = length a.body.now in
    unfits _ _ 1472 (1 + n) UnknownType _ (rw (
      ne_eqb k 65 c.in_default.in_default-own.rest.0.0.0.1,
      ne_eqb k 74 c.in_default.in_default-own.rest.0.0.1,
      ne_eqb k 83 c.in_default.in_default-own.rest.0.1,
      ne_eqb k 69 c.in_default.in_default-own.rest.1,
    ))
    c.unfit-in_default.ensures
