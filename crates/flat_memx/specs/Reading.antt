-- What MEMX-UDP's reader says, laid flat.
-- Assumes nothing.
use Rattle.std.specs.Prelude.{ℕ, ◌+◌, List, length}
use Rattle.wire.specs.Checks.{Verdict, refused, taken, ◌told_by◌}
use Rattle.memx.specs.Read.{read as read_memx}
use Rattle.memx.specs.Reading.{memx_of}
use Rattle.memx.specs.declared.reading.Memx.{Memx}
use Rattle.memx.specs.declared.reading.Says.{Says}
use Rattle.memx.specs.declared.reading.Says.TheVariants as memx
use Rattle.flat_packet.specs.declared.Read.{Read}
use Rattle.flat_packet.specs.Packets.{no_packet, broadcast}

-- of a packet of so many bytes: 0 1 2; Round shows that writing these fields gives the same bytes
abbrev told : ℕ → (session : ℕ) (extra : ℕ) → Says → Read
told size session extra (memx.Heartbeat highest) = broadcast 0 session highest.0 0 extra 0 0
told size session extra (memx.Shutdown highest) = broadcast 1 session highest.0 0 extra 0 0
told size session extra (memx.Messages first count) = broadcast 2 session first.0 count extra (20 + extra) size

abbrev pub flat_memx : ℕ → Verdict Memx → Read
flat_memx size (refused why) = no_packet why
flat_memx size (taken packet) = told size packet.session.0 packet.extra packet.says

abbrev pub memx_read : List ℕ → Read
memx_read d = flat_memx (length d) (read_memx d told_by memx_of)
