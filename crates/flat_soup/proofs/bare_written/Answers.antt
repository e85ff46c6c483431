-- `bare_written` hands each type to its writer; with a body it is too long, and any other type is unknown.
use Prim.Native.Nat.{◌+◌}
use native.Mathlib.Omega.{arith}
use borrow.Author.Tests.{eq-eqb, ne_eqb}
use lib.ListN.{length}
use Rattle.wire.specs.declared.refusal.Refusal.TheVariants.{UnknownType, Framing}
use Rattle.soup.specs.Packet.{line_limit}
use Rattle.flat_soup.specs.Writing.{soup_bare}
use Rattle.flat_packet.proofs.Unfitting.{unfits}
use Rattle.flat_soup.proofs.bare_written.Goals as goal

pub returns-then-body-ne0 : goal.returns-then-body-ne0
unfolding soup_bare
returns-then-body-ne0 c =
    let n = length c.args.body.now in
    unfits _ _ line_limit (2 + n) Framing _ (rw (c.in-72.is, ne_eqb n 0 c.if-body-ne0.true)) c.unfit.ensures

pub returns-then-body-ne0-2 : goal.returns-then-body-ne0-2
unfolding soup_bare
returns-then-body-ne0-2 c =
    let n = length c.args.body.now in
    unfits _ _ line_limit (2 + n) Framing _ (rw (c.in-90.is, ne_eqb n 0 c.if-body-ne0-2.true)) c.unfit-then-body-ne0-2.ensures

pub returns-then-body-ne0-3 : goal.returns-then-body-ne0-3
unfolding soup_bare
returns-then-body-ne0-3 c =
    let n = length c.args.body.now in
    unfits _ _ line_limit (2 + n) Framing _ (rw (c.in-82.is, ne_eqb n 0 c.if-body-ne0-3.true)) c.unfit-then-body-ne0-3.ensures

pub returns-then-body-ne0-4 : goal.returns-then-body-ne0-4
unfolding soup_bare
returns-then-body-ne0-4 c =
    let n = length c.args.body.now in
    unfits _ _ line_limit (2 + n) Framing _ (rw (c.in-79.is, ne_eqb n 0 c.if-body-ne0-4.true)) c.unfit-then-body-ne0-4.ensures

pub returns-else-body-ne0 : goal.returns-else-body-ne0
unfolding soup_bare
returns-else-body-ne0 c =
    let n = length c.args.body.now in
    rw (c.in-72.is, eq-eqb n 0 c.if-body-ne0.false) c.write_server_heartbeat.ensures

pub returns-else-body-ne0-2 : goal.returns-else-body-ne0-2
unfolding soup_bare
returns-else-body-ne0-2 c =
    let n = length c.args.body.now in
    rw (c.in-90.is, eq-eqb n 0 c.if-body-ne0-2.false) c.write_end_of_session.ensures

pub returns-else-body-ne0-3 : goal.returns-else-body-ne0-3
unfolding soup_bare
returns-else-body-ne0-3 c =
    let n = length c.args.body.now in
    rw (c.in-82.is, eq-eqb n 0 c.if-body-ne0-3.false) c.write_client_heartbeat.ensures

pub returns-else-body-ne0-4 : goal.returns-else-body-ne0-4
unfolding soup_bare
returns-else-body-ne0-4 c =
    let n = length c.args.body.now in
    rw (c.in-79.is, eq-eqb n 0 c.if-body-ne0-4.false) c.write_logout.ensures

pub returns-in_default : goal.returns-in_default
unfolding soup_bare
returns-in_default c =
    let a = c.args in
    let k = a.kind in
    let n = length a.body.now in
    unfits _ _ line_limit (2 + n) UnknownType _
    (rw (ne_eqb k 72 (omega arith), ne_eqb k 90 (omega arith), ne_eqb k 82 (omega arith), ne_eqb k 79 (omega arith)))
    c.unfit-in_default.ensures
