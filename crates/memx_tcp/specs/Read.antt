-- What the desk says to a MEMX-TCP packet: one list of checks for every type, in the order of their numbers.
-- Assumes nothing.
use Rattle.std.specs.Prelude.{ℕ, ◌+◌, List, [], ◌∷◌, Bool, not, ◌&&◌, length, get_or, drop}
use Rattle.wire.specs.Fields.{be}
use Rattle.wire.specs.Checks.{◌is◌, ◌at_most◌, Verdict, taken, Check, ◌else◌, checked}
use Rattle.wire.specs.declared.refusal.Refusal.TheVariants.{Empty, Overlong, UnknownType, Framing, Form, Absent}
use Rattle.memx_tcp.specs.Layout.{Field, width, lettered, numbered, known, fields_of, most_of, size}
use Rattle.memx_tcp.specs.Packet.{Packet, header_size, limit, each}

-- the header's fields: type 1, length 2
abbrev pub kind_in : List ℕ → ℕ
kind_in d = get_or d 0 0

abbrev pub stated_in : List ℕ → ℕ
stated_in d = be 2 (drop 1 d)

-- the fields one after another
unfoldable pub values_in : List Field → List ℕ → List ℕ
values_in [] s = []
values_in (f ∷ fs) s = be (width f) s ∷ values_in fs (drop (width f) s)

-- those of a packet, and where they end
abbrev pub fields_in : List ℕ → List Field
fields_in d = fields_of (kind_in d)

abbrev pub end_in : List ℕ → ℕ
end_in d = header_size + size (fields_in d)

abbrev pub packet_in : List ℕ → Packet
packet_in d = record {
  kind = kind_in d;
  values = values_in (fields_in d) (drop header_size d);
  tail = drop (end_in d) d;
}

-- as many bytes follow the header as it says: those of the fields, and no more after them than may follow
unfoldable pub framed : List ℕ → Bool
framed d =
    header_size + stated_in d is length d
    && end_in d at_most length d
    && length (drop (end_in d) d) at_most most_of (kind_in d)

-- Order shows that they stand in the readers' order
abbrev pub checks : List ℕ → List Check
checks d =
    (not (length d is 0) else Empty)
    ∷ (length d at_most limit else Overlong)
    ∷ (known (kind_in d) else UnknownType)
    ∷ (framed d else Framing)
    ∷ (each lettered (fields_in d) (packet_in d).values else Form)
    ∷ (each numbered (fields_in d) (packet_in d).values else Absent)
    ∷ []

-- Exact shows that what is taken is what was written
unfoldable pub read : List ℕ → Verdict Packet
read d = checked (checks d) (taken (packet_in d))
