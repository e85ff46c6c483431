-- One packet or message, laid flat: the fields that its type lacks are 0.
-- Assumes nothing.
use Rattle.std.specs.Prelude.{ℕ, ◌-◌, List, replicate}
use Rattle.wire.specs.Refusals.{number_of}
use Rattle.wire.specs.declared.refusal.Refusal.{Refusal}
use Rattle.flat_packet.specs.declared.Packet.{Packet}
use Rattle.flat_packet.specs.declared.Read.{Read}

-- fields that are text, and that are not there
abbrev none : ℕ → List ℕ
none n = replicate n 0

abbrev pub nothing : Packet
nothing = record {
  kind = 0;
  reason = 0;
  count = 0;
  user = none 6;
  password = none 10;
  name = none 10;
  session = 0;
  number = 0;
  start = 0;
  length = 0;
  next = 0;
  extra = 0;
}

-- on a refusal every other number is 0
abbrev pub no_packet_under : ℕ → Read
no_packet_under n = record { refusal = n; packet = nothing }

-- by one of the desk's reasons
abbrev pub no_packet : Refusal → Read
no_packet why = no_packet_under (number_of why)

abbrev pub the_packet : Packet → Read
the_packet p = record { refusal = 0; packet = p }

-- A: a session's name and a number
abbrev pub named : List ℕ → ℕ → Read
named name number = the_packet (record {
  kind = 65;
  reason = 0;
  count = 0;
  user = none 6;
  password = none 10;
  name = name;
  session = 0;
  number = number;
  start = 0;
  length = 0;
  next = 0;
  extra = 0;
})

-- J: a reason
abbrev pub rejected : ℕ → Read
rejected reason = the_packet (record {
  kind = 74;
  reason = reason;
  count = 0;
  user = none 6;
  password = none 10;
  name = none 10;
  session = 0;
  number = 0;
  start = 0;
  length = 0;
  next = 0;
  extra = 0;
})

-- bytes that begin at `start`
abbrev pub payload : (kind start size next : ℕ) → Read
payload kind start size next =
    the_packet (record {
      kind = kind;
      reason = 0;
      count = 0;
      user = none 6;
      password = none 10;
      name = none 10;
      session = 0;
      number = 0;
      start = start;
      length = size;
      next = next;
      extra = 0;
    })

-- the type alone, and the place of the block after an upstream message
abbrev pub bare : (kind next : ℕ) → Read
bare kind next = payload kind 0 0 next

-- L: three texts, and in Soup a number
abbrev pub logged_in : (user password name : List ℕ) (number next : ℕ) → Read
logged_in user password name number next =
    the_packet (record {
      kind = 76;
      reason = 0;
      count = 0;
      user = user;
      password = password;
      name = name;
      session = 0;
      number = number;
      start = 0;
      length = 0;
      next = next;
      extra = 0;
    })

-- numbered messages, whose blocks stand from `start` to the end of the packet's `size` bytes; in MEMX-UDP a session, and how many extra
-- bytes the header has
abbrev pub broadcast : (kind session number count extra start size : ℕ) → Read
broadcast kind session number count extra start size =
    the_packet (record {
      kind = kind;
      reason = 0;
      count = count;
      user = none 6;
      password = none 10;
      name = none 10;
      session = session;
      number = number;
      start = start;
      length = size - start;
      next = 0;
      extra = extra;
    })

-- the same behind a header without them
abbrev pub counted : (kind session number count start size : ℕ) → Read
counted kind session number count start size = broadcast kind session number count 0 start size

-- a number, and no messages
abbrev pub numbered : (kind session number : ℕ) → Read
numbered kind session number = counted kind session number 0 0 0

-- a number and a count: T, and of a whole upstream packet its messages
abbrev pub requested : (kind number count next : ℕ) → Read
requested kind number count next =
    the_packet (record {
      kind = kind;
      reason = 0;
      count = count;
      user = none 6;
      password = none 10;
      name = none 10;
      session = 0;
      number = number;
      start = 0;
      length = 0;
      next = next;
      extra = 0;
    })
