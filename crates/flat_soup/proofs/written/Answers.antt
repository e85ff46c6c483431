-- `written` hands each type to its writer, by the fields that it has; with a body where none belongs it is too long.
use Prim.Native.Nat.{◌+◌}
use native.Mathlib.Omega.{arith}
use borrow.Author.Tests.{eq-eqb, ne_eqb}
use lib.ListN.{length}
use Rattle.wire.specs.declared.refusal.Refusal.TheVariants.{Framing}
use Rattle.soup.specs.Packet.{line_limit}
use Rattle.flat_soup.specs.Writing.{soup_reply}
use Rattle.flat_packet.proofs.Unfitting.{unfits}
use Rattle.flat_soup.proofs.written.Goals as goal

pub returns-then-body-ne0 : goal.returns-then-body-ne0
unfolding soup_reply
returns-then-body-ne0 c =
    let n = length c.args.body.now in
    unfits _ _ line_limit (32 + n) Framing _ (rw (c.in-65.is, ne_eqb n 0 c.if-body-ne0.true)) c.unfit.ensures

pub returns-then-body-ne0-2 : goal.returns-then-body-ne0-2
unfolding soup_reply
returns-then-body-ne0-2 c =
    let n = length c.args.body.now in
    unfits _ _ line_limit (3 + n) Framing _ (rw (c.in-74.is, ne_eqb n 0 c.if-body-ne0-2.true)) c.unfit-then-body-ne0-2.ensures

pub returns-then-body-ne0-3 : goal.returns-then-body-ne0-3
unfolding soup_reply
returns-then-body-ne0-3 c =
    let n = length c.args.body.now in
    unfits _ _ line_limit (48 + n) Framing _ (rw (c.in-76.is, ne_eqb n 0 c.if-body-ne0-3.true)) c.unfit-then-body-ne0-3.ensures

pub returns-in-43 : goal.returns-in-43
unfolding soup_reply
returns-in-43 c = rw c.in-43.is c.write_debug.ensures

pub returns-in-83 : goal.returns-in-83
unfolding soup_reply
returns-in-83 c = rw c.in-83.is c.write_sequenced.ensures

pub returns-in-85 : goal.returns-in-85
unfolding soup_reply
returns-in-85 c = rw c.in-85.is c.write_unsequenced.ensures

pub returns-else-body-ne0 : goal.returns-else-body-ne0
unfolding soup_reply
returns-else-body-ne0 c =
    let n = length c.args.body.now in
    rw (c.in-65.is, eq-eqb n 0 c.if-body-ne0.false, ← c.name_of-name.ensures.1) c.write_accept.ensures

pub returns-else-body-ne0-2 : goal.returns-else-body-ne0-2
unfolding soup_reply
returns-else-body-ne0-2 c =
    let n = length c.args.body.now in
    rw (c.in-74.is, eq-eqb n 0 c.if-body-ne0-2.false) c.write_reject.ensures

pub returns-else-body-ne0-3 : goal.returns-else-body-ne0-3
unfolding soup_reply
returns-else-body-ne0-3 c =
    let n = length c.args.body.now in
    rw (c.in-76.is, eq-eqb n 0 c.if-body-ne0-3.false) c.login_written.ensures

pub returns-in_default : goal.returns-in_default
unfolding soup_reply
returns-in_default c =
    rw (
      ne_eqb c.args.fields.kind 43 (omega arith),
      ne_eqb c.args.fields.kind 83 (omega arith),
      ne_eqb c.args.fields.kind 85 (omega arith),
      ne_eqb c.args.fields.kind 65 (omega arith),
      ne_eqb c.args.fields.kind 74 (omega arith),
      ne_eqb c.args.fields.kind 76 (omega arith),
    ) c.bare_written.ensures
