-- What UFO's readers say of a packet of the client and of its messages, laid flat.
-- Assumes nothing.
use Rattle.std.specs.Prelude.{ℕ, List, length}
use Rattle.wire.specs.Checks.{Verdict, refused, taken, ◌told_by◌}
use Rattle.names.specs.Names.{name_bytes, user_bytes}
use Rattle.blocks.specs.Blocks.{end_at}
use Rattle.ufo_up.specs.Up.{placed_of, message_in, read_up}
use Rattle.ufo_up.specs.declared.up.Placed.{Placed}
use Rattle.ufo_up.specs.declared.up.Up.{Up}
use Rattle.ufo_up.specs.declared.up.Up.TheVariants as up
use Rattle.flat_packet.specs.declared.Read.{Read}
use Rattle.flat_packet.specs.Packets.{no_packet, bare, payload, logged_in, requested}

-- a whole upstream packet has no type: its messages are counted
abbrev pub flat_upstream : Verdict ℕ → Read
flat_upstream (refused why) = no_packet why
flat_upstream (taken count) = requested 0 0 count 0

abbrev pub up_read : List ℕ → Read
up_read d = flat_upstream (read_up d told_by length)

-- one message, and the next place: L T U R O; `Round` shows that what was read is written as the same block
abbrev pub flat_message : Up → ℕ → Read
flat_message (up.Login user password session) next = logged_in (user_bytes user) (name_bytes password.0) (name_bytes session) 0 next
flat_message (up.Request first count) next = requested 84 first.0 count next
flat_message (up.Unsequenced start size) next = payload 85 start size next
flat_message up.Heartbeat next = bare 82 next
flat_message up.Logout next = bare 79 next

abbrev pub flat_up : Verdict Placed → Read
flat_up (refused why) = no_packet why
flat_up (taken placed) = flat_message placed.message placed.next

abbrev pub message_read : List ℕ → ℕ → Read
message_read d place = flat_up (message_in d place told_by placed_of (end_at d place))
