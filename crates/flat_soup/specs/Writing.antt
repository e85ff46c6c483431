-- What is written of a SoupTCP packet's flat fields: the type says which of them are taken, and what the body is.
-- Assumes nothing.
use Rattle.std.specs.Prelude.{ℕ, ◌+◌, List, length, if◌then◌else◌}
use Rattle.wire.specs.Checks.{◌is◌}
use Rattle.wire.specs.Reply.{Reply}
use Rattle.wire.specs.declared.refusal.Refusal.TheVariants.{UnknownType}
use Rattle.soup.specs.Packet.{debug, accept, reject, sequenced, server_heartbeat, end_of_session, login, unsequenced, client_heartbeat}
use Rattle.soup.specs.Packet.{logout}
use Rattle.soup.specs.Packet.{line_limit}
use Rattle.soup_write.specs.Writing as soup
use Rattle.flat_packet.specs.declared.Packet.{Packet}
use Rattle.flat_packet.specs.Fitting.{unfit, alone}

-- the types that are their byte alone: H Z R O
unfoldable pub soup_bare : ℕ → List ℕ → ℕ → Reply
soup_bare kind body room =
    if kind is 72 then alone line_limit 2 body (soup.reply server_heartbeat room) else
    if kind is 90 then alone line_limit 2 body (soup.reply end_of_session room) else
    if kind is 82 then alone line_limit 2 body (soup.reply client_heartbeat room) else
    if kind is 79 then alone line_limit 2 body (soup.reply logout room) else
    unfit line_limit (2 + length body) UnknownType

-- and the others: + S U A J L; Round shows that what is written is read with the same fields
unfoldable pub soup_reply : Packet → List ℕ → ℕ → Reply
soup_reply p body room =
    if p.kind is 43 then soup.reply (debug body) room else
    if p.kind is 83 then soup.reply (sequenced body) room else
    if p.kind is 85 then soup.reply (unsequenced body) room else
    if p.kind is 65 then alone line_limit 32 body (soup.reply (accept p.name p.number) room) else
    if p.kind is 74 then alone line_limit 3 body (soup.reply (reject p.reason) room) else
    if p.kind is 76 then alone line_limit 48 body (soup.reply (login p.user p.password p.name p.number) room) else
    soup_bare p.kind body room
