-- Room in the output: how much is enough, whatever is taken.
-- Assumes nothing.
use Rattle.std.specs.Prelude.{ℕ}
use Rattle.record.specs.declared.Session.{Session}
use Rattle.record.specs.declared.Session.TheVariants.{Ufo, Memx}

-- for a UFO packet and all held messages: 1,472 bytes, and 31 slots of 1,472
abbrev pub ufo_room : ℕ
ufo_room = 47104

-- for a MEMX packet and all held messages: 8,972 bytes, and 31 slots of 1,472
abbrev pub memx_room : ℕ
memx_room = 54604

-- by a record's session; Room.room-enough: with so much nothing is refused for want of room
abbrev pub room_for : Session → ℕ
room_for (Ufo name) = ufo_room
room_for (Memx id) = memx_room
