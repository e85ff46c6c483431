-- What a writer does: it refuses as the reader would refuse what would be written, then for want of room.
-- Assumes nothing.
use Rattle.std.specs.Prelude.{ℕ, List}
use Rattle.wire.specs.Reply.{Reply, settle}
use Rattle.memx.specs.Packet.{Packet, write}
use Rattle.memx.specs.Read.{read}

-- bytes as they would be written, and a packet; Extra shows what too many extra bytes come to
abbrev pub sent : List ℕ → ℕ → Reply
sent packet room = settle (read packet) packet room

abbrev pub reply : Packet → ℕ → Reply
reply p room = sent (write p) room
