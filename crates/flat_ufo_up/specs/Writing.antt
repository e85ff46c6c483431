-- What is written of the flat fields of a UFO message of the client: the type says which of them are taken, and what the body is.
-- Assumes nothing.
use Rattle.std.specs.Prelude.{ℕ, ◌+◌, List, length, if◌then◌else◌}
use Rattle.wire.specs.Checks.{◌is◌}
use Rattle.wire.specs.Datagram.{limit}
use Rattle.wire.specs.Reply.{Reply}
use Rattle.wire.specs.declared.refusal.Refusal.TheVariants.{UnknownType}
use Rattle.ufo_up.specs.Up as up
use Rattle.ufo_up_write.specs.WriteUp as ufo
use Rattle.flat_packet.specs.declared.Packet.{Packet}
use Rattle.flat_packet.specs.Fitting.{unfit, alone}

-- L T U R O, each in a block of its own. `Round` shows that what is written is read with the same fields, `Refusing` that the reader
-- refuses what is refused here
unfoldable pub message_reply : Packet → List ℕ → ℕ → Reply
message_reply p body room =
    if p.kind is 76 then alone limit 29 body (ufo.reply (up.login p.user p.password p.name) room) else
    if p.kind is 84 then alone limit 9 body (ufo.reply (up.request p.number p.count) room) else
    if p.kind is 85 then ufo.reply (up.unsequenced body) room else
    if p.kind is 82 then alone limit 3 body (ufo.reply up.heartbeat room) else
    if p.kind is 79 then alone limit 3 body (ufo.reply up.logout room) else
    unfit limit (3 + length body) UnknownType
