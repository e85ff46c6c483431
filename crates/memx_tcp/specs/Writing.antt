-- What the writer does: it refuses as the reader would refuse what would be written, then for want of room.
-- Assumes nothing.
use Rattle.std.specs.Prelude.{ℕ, List, map}
use Rattle.wire.specs.Reply.{Reply, settle}
use Rattle.memx_tcp.specs.Layout.{Field, letter, count, session, next, number, top, fields_of}
use Rattle.memx_tcp.specs.Packet.{Packet, write}
use Rattle.memx_tcp.specs.Read.{read}
use Rattle.memx_tcp.specs.declared.packet.Fields.{Fields}

-- the value under a field's name
abbrev pub under : Fields → Field → ℕ
under p (letter set) = p.letter
under p count = p.count
under p session = p.session.0
under p next = p.number.0
under p number = p.number.0
under p top = p.top.0

-- of a type's fields
unfoldable pub values_of : Fields → List ℕ
values_of p = map (under p) (fields_of p.kind)

abbrev pub packet_of : Fields → List ℕ → Packet
packet_of p body = record { kind = p.kind; values = values_of p; tail = body }

abbrev pub reply : Fields → List ℕ → ℕ → Reply
reply p body room = let d = write (packet_of p body) in settle (read d) d room
