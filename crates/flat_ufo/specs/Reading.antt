-- What UFO's reader says of a packet of the server, laid flat.
-- Assumes nothing.
use Rattle.std.specs.Prelude.{ℕ, List, length}
use Rattle.wire.specs.Checks.{Verdict, refused, taken, ◌told_by◌}
use Rattle.names.specs.Names.{name_bytes}
use Rattle.ufo.specs.Down.{down_of, read as read_down}
use Rattle.ufo.specs.declared.down.Down.{Down}
use Rattle.ufo.specs.declared.down.Down.TheVariants as down
use Rattle.flat_packet.specs.declared.Read.{Read}
use Rattle.flat_packet.specs.Packets.{no_packet, named, rejected, numbered, counted}

-- of a packet of so many bytes: A J S E; `Round` shows that what was read is written with the same bytes
abbrev pub flat_said : ℕ → Down → Read
flat_said size (down.Accept session next) = named (name_bytes session) next.0
flat_said size (down.Reject reason) = rejected reason
flat_said size (down.Messages first count) = counted 83 0 first.0 count 7 size
flat_said size (down.End total) = numbered 69 0 total.0

abbrev pub flat_down : ℕ → Verdict Down → Read
flat_down size (refused why) = no_packet why
flat_down size (taken said) = flat_said size said

abbrev pub down_read : List ℕ → Read
down_read d = flat_down (length d) (read_down d told_by down_of)
