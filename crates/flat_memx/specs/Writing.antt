-- What is written of a MEMX-UDP packet's flat fields: the type says which of them are taken, and what the body is.
-- Assumes nothing.
use Rattle.std.specs.Prelude.{ℕ, List, if◌then◌else◌}
use Rattle.wire.specs.Checks.{◌is◌}
use Rattle.wire.specs.Reply.{Reply}
use Rattle.memx.specs.Packet.{headed, laid}
use Rattle.memx_write.specs.Writing.{sent}
use Rattle.flat_packet.specs.declared.Packet.{Packet}

-- messages, or a header and whatever stands behind it: the reader knows no other type, and no body with a header alone (Refusing, Extra);
-- Round shows that reading what was written gives these fields
unfoldable pub memx_reply : Packet → (extra body : List ℕ) → ℕ → Reply
memx_reply p extra body room =
    if p.kind is 2 then sent (laid p.session p.number p.count extra body) room else
    sent (headed p.kind p.session p.number extra body) room
