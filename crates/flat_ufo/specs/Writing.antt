-- What is written of the flat fields of a UFO packet of the server: the type says which of them are taken, and what the body is.
-- Assumes nothing.
use Rattle.std.specs.Prelude.{ℕ, ◌+◌, List, length, if◌then◌else◌}
use Rattle.wire.specs.Checks.{◌is◌}
use Rattle.wire.specs.Datagram.{limit}
use Rattle.wire.specs.Reply.{Reply}
use Rattle.wire.specs.declared.refusal.Refusal.TheVariants.{UnknownType}
use Rattle.ufo_write.specs.WriteDown.{accept_reply, reject_reply, messages_reply, end_reply}
use Rattle.flat_packet.specs.declared.Packet.{Packet}
use Rattle.flat_packet.specs.Fitting.{unfit, alone}

-- A J S E. `Round` shows that what is written is read with the same fields, `Refusing` that the reader refuses what is refused here
unfoldable pub down_reply : Packet → List ℕ → ℕ → Reply
down_reply p body room =
    if p.kind is 65 then alone limit 15 body (accept_reply p.name p.number room) else
    if p.kind is 74 then alone limit 2 body (reject_reply p.reason room) else
    if p.kind is 83 then messages_reply p.number p.count body room else
    if p.kind is 69 then alone limit 5 body (end_reply p.number room) else
    unfit limit (1 + length body) UnknownType
