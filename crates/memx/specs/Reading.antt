-- What the code answers: a type's byte and the type that a byte stands for, and a packet as the code's own types tell it.
-- Assumes nothing.
use Rattle.std.specs.Prelude.{ℕ, List, length, if◌then◌else◌}
use Rattle.wire.specs.Checks.{◌is◌, Verdict, refused, taken}
use Rattle.wire.specs.declared.refusal.Refusal.TheVariants.{UnknownType}
use Rattle.memx.specs.Packet.{Packet, heartbeat, shutdown, messages}
use Rattle.memx.specs.declared.layout.Kind.{Kind}
use Rattle.memx.specs.declared.layout.Kind.TheVariants as kind
use Rattle.memx.specs.declared.reading.Memx.{Memx}
use Rattle.memx.specs.declared.reading.Says.{Says}
use Rattle.memx.specs.declared.reading.Says.TheVariants.{Heartbeat, Shutdown, Messages}

abbrev pub byte_of : Kind → ℕ
byte_of kind.Heartbeat = 0
byte_of kind.Shutdown = 1
byte_of kind.Messages = 2

abbrev pub kind_of : ℕ → Verdict Kind
kind_of byte =
    if byte is 0 then taken kind.Heartbeat else
    if byte is 1 then taken kind.Shutdown else
    if byte is 2 then taken kind.Messages else
    refused UnknownType

-- of messages and extra bytes how many there are: both stand in the datagram, from blocks_at and from header_size on
abbrev told : (session : ℕ) (extra : List ℕ) → Says → Memx
told session extra says = record { session = record { 0 = session }; extra = length extra; says = says }

abbrev pub memx_of : Packet → Memx
memx_of (heartbeat session highest extra) = told session extra (Heartbeat (record { 0 = highest }))
memx_of (shutdown session highest extra) = told session extra (Shutdown (record { 0 = highest }))
memx_of (messages session first extra ms) = told session extra (Messages (record { 0 = first }) (length ms))
