-- `read` goes by the type byte: each arm is what the definition says of its type, and the last one any other byte.
use mathlib.Core.Path.{refl}
use Rattle.wire.proofs.Tests.{tests}
use Rattle.soup.specs.Packet.{debug, sequenced, server_heartbeat, end_of_session, unsequenced, client_heartbeat, logout}
use Rattle.soup.specs.declared.reading.Reading.TheVariants.{Debug, Sequenced, Unsequenced}
use Rattle.soup.proofs.Sorting.{empty, overlong, by-type, carried-as, bare-as}
use Rattle.soup.proofs.reading.read.Goals as goal

pub returns-then-d-eq0 : goal.returns-then-d-eq0
returns-then-d-eq0 c = rw (empty c.args.d.now c.if-d-eq0.true)

pub returns-then-d-gt-LONGEST : goal.returns-then-d-gt-LONGEST
returns-then-d-gt-LONGEST c = rw (overlong c.args.d.now c.if-d-gt-LONGEST.true)

pub returns-in-43 : goal.returns-in-43
returns-in-43 c =
    rw (by-type c.args.d.now 43 c.if-d-eq0.false c.if-d-gt-LONGEST.false c.in-43.is)
    (carried-as c.args.d.now debug (Debug 1) (λ s. refl) _ _ c.payload_length-length.ensures
    c.read_payload.ensures)

pub returns-in-65 : goal.returns-in-65
returns-in-65 c = rw (by-type c.args.d.now 65 c.if-d-eq0.false c.if-d-gt-LONGEST.false c.in-65.is) c.read_accept.ensures

pub returns-in-74 : goal.returns-in-74
returns-in-74 c = rw (by-type c.args.d.now 74 c.if-d-eq0.false c.if-d-gt-LONGEST.false c.in-74.is) c.read_reject.ensures

pub returns-in-83 : goal.returns-in-83
returns-in-83 c =
    rw (by-type c.args.d.now 83 c.if-d-eq0.false c.if-d-gt-LONGEST.false c.in-83.is)
    (carried-as c.args.d.now sequenced (Sequenced 1) (λ s. refl) _ _ c.payload_length-length.ensures c.read_payload-in-83.ensures)

pub returns-in-72 : goal.returns-in-72
returns-in-72 c =
    rw (by-type c.args.d.now 72 c.if-d-eq0.false c.if-d-gt-LONGEST.false c.in-72.is)
    (bare-as c.args.d.now server_heartbeat _ c.read_bare.ensures)

pub returns-in-90 : goal.returns-in-90
returns-in-90 c =
    rw (by-type c.args.d.now 90 c.if-d-eq0.false c.if-d-gt-LONGEST.false c.in-90.is)
    (bare-as c.args.d.now end_of_session _ c.read_bare-in-90.ensures)

pub returns-in-76 : goal.returns-in-76
returns-in-76 c = rw (by-type c.args.d.now 76 c.if-d-eq0.false c.if-d-gt-LONGEST.false c.in-76.is) c.read_login.ensures

pub returns-in-85 : goal.returns-in-85
returns-in-85 c =
    rw (by-type c.args.d.now 85 c.if-d-eq0.false c.if-d-gt-LONGEST.false c.in-85.is)
    (carried-as c.args.d.now unsequenced (Unsequenced 1) (λ s. refl) _ _ c.payload_length-length.ensures c.read_payload-in-85.ensures)

pub returns-in-82 : goal.returns-in-82
returns-in-82 c =
    rw (by-type c.args.d.now 82 c.if-d-eq0.false c.if-d-gt-LONGEST.false c.in-82.is)
    (bare-as c.args.d.now client_heartbeat _ c.read_bare-in-82.ensures)

pub returns-in-79 : goal.returns-in-79
returns-in-79 c =
    rw (by-type c.args.d.now 79 c.if-d-eq0.false c.if-d-gt-LONGEST.false c.in-79.is)
    (bare-as c.args.d.now logout _ c.read_bare-in-79.ensures)

pub returns-in_default : goal.returns-in_default
returns-in_default c = rw (by-type c.args.d.now _ c.if-d-eq0.false c.if-d-gt-LONGEST.false refl) (search tests)
