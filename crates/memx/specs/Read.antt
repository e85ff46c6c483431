-- What the desk says to a MEMX-UDP packet: a list of checks that all types share, then one for each.
-- Assumes nothing.
use Rattle.std.specs.Prelude.{ℕ, ◌+◌, ◌-◌, ◌^◌, List, [], ◌∷◌, not, length, get_or, take, drop, if◌then◌else◌}
use Rattle.wire.specs.Fields.{be}
use Rattle.wire.specs.Checks.{◌is◌, ◌at_most◌, Verdict, taken, Check, ◌else◌, checked}
use Rattle.wire.specs.declared.refusal.Refusal.TheVariants.{Empty, Overlong, UnknownType, Framing, Form, Absent, Bound}
use Rattle.blocks.specs.Blocks.{Cut, cut, is_whole, messages_of}
use Rattle.memx.specs.Packet.{Packet, heartbeat, shutdown, messages, limit, header_size}

-- the header's fields: type 1, header length 1, session 8, number 8
abbrev pub kind_in : List ℕ → ℕ
kind_in d = get_or d 0 0

abbrev pub header_in : List ℕ → ℕ
header_in d = get_or d 1 0

abbrev pub session_in : List ℕ → ℕ
session_in d = be 8 (drop 2 d)

abbrev pub number_in : List ℕ → ℕ
number_in d = be 8 (drop 10 d)

-- then what the header has up to its length
abbrev pub extra_in : List ℕ → List ℕ
extra_in d = take (header_in d - header_size) (drop header_size d)

-- in type 2 then the count 2 and as many blocks
abbrev pub count_in : List ℕ → ℕ
count_in d = be 2 (drop (header_in d) d)

abbrev pub blocks_at : List ℕ → ℕ
blocks_at d = header_in d + 2

abbrev pub blocks_in : List ℕ → Cut
blocks_in d = cut (count_in d) (drop (blocks_at d) d)

-- of any type: there are bytes and not too many, the type is known, the header's own fields are there, and the header's length covers them.
-- It is a byte: over 255 stands only in what would be written with too many extra bytes
abbrev pub header_checks : List ℕ → List Check
header_checks d =
    (not (length d is 0) else Empty)
    ∷ (length d at_most limit else Overlong)
    ∷ (kind_in d at_most 2 else UnknownType)
    ∷ (header_size at_most length d else Framing)
    ∷ (header_size at_most header_in d else Form)
    ∷ (header_in d at_most 255 else Form)
    ∷ []

-- a heartbeat or shutdown is the header alone
abbrev pub news_checks : List ℕ → List Check
news_checks d =
    (length d is header_in d else Framing)
    ∷ (number_in d at_most 2 ^ 64 - 2 else Bound)
    ∷ []

-- messages are numbered from 1, and there is one at least
abbrev pub messages_checks : List ℕ → List Check
messages_checks d =
    (blocks_at d at_most length d else Framing)
    ∷ (is_whole (blocks_in d) else Framing)
    ∷ (not (number_in d is 0) else Absent)
    ∷ (not (count_in d is 0) else Absent)
    ∷ (number_in d + count_in d at_most 2 ^ 64 - 1 else Bound)
    ∷ []

-- what types 0 and 1 say
abbrev pub news : (kind session highest : ℕ) (extra : List ℕ) → Packet
news kind session highest extra =
    if kind is 0 then heartbeat session highest extra else shutdown session highest extra

unfoldable pub read_news : ℕ → List ℕ → Verdict Packet
read_news kind d = checked (news_checks d) (taken (news kind (session_in d) (number_in d) (extra_in d)))

unfoldable pub read_messages : List ℕ → Verdict Packet
read_messages d =
    checked (messages_checks d)
    (taken (messages (session_in d) (number_in d) (extra_in d) (messages_of (blocks_in d))))

-- Order shows in which order all this is checked, Exact that what is taken is what was written
unfoldable pub read : List ℕ → Verdict Packet
read d =
    checked (header_checks d)
    (if kind_in d is 2 then read_messages d else read_news (kind_in d) d)
