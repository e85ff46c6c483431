-- What the code answers: a packet's fields by name, and where its token or payload stands.
-- Assumes nothing.
use Rattle.std.specs.Prelude.{ℕ, ◌+◌, List, [], ◌∷◌, length, if◌then◌else◌}
use Rattle.wire.specs.Checks.{◌is◌}
use Rattle.memx_tcp.specs.Layout.{Field, letter, count, session, next, number, top, fields_of, most_of, size}
use Rattle.memx_tcp.specs.Packet.{Packet, header_size}
use Rattle.memx_tcp.specs.declared.packet.Fields.{Fields}
use Rattle.memx_tcp.specs.declared.reading.Tcp.{Tcp}

-- the fields of the code
abbrev pub fields : (kind letter count session number top : ℕ) → Fields
fields k l c s n t =
    record { kind = k; letter = l; count = c; session = record { 0 = s }; number = record { 0 = n }; top = record { 0 = t } }

-- a value under its field's name
abbrev named : Field → ℕ → Fields → Fields
named (letter set) v p = fields p.kind v p.count p.session.0 p.number.0 p.top.0
named count v p = fields p.kind p.letter v p.session.0 p.number.0 p.top.0
named session v p = fields p.kind p.letter p.count v p.number.0 p.top.0
named next v p = fields p.kind p.letter p.count p.session.0 v p.top.0
named number v p = fields p.kind p.letter p.count p.session.0 v p.top.0
named top v p = fields p.kind p.letter p.count p.session.0 p.number.0 v

-- values in the order of their fields, each under its name
abbrev pub all_named : List Field → List ℕ → Fields → Fields
all_named [] vs p = p
all_named (f ∷ fs) [] p = p
all_named (f ∷ fs) (v ∷ vs) p = all_named fs vs (named f v p)

-- those that the type lacks are 0; Every shows that each value is found again under its name
unfoldable pub fields_by : ℕ → List ℕ → Fields
fields_by kind values = all_named (fields_of kind) values (fields kind 0 0 0 0 0)

-- where a token or payload begins in a packet; 0 where the type has neither
abbrev pub start_of : ℕ → ℕ
start_of kind = if most_of kind is 0 then 0 else header_size + size (fields_of kind)

abbrev pub tcp_of : Packet → Tcp
tcp_of p = record { fields = fields_by p.kind p.values; start = start_of p.kind; length = length p.tail }
