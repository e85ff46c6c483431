-- A packet of every type, read flat and written from its flat fields: each field of the face stands for its own bytes, by computation.
-- Assumes nothing.
use Prim.Native.Nat.{ℕ}
use mathlib.Core.Path.{◌≡◌, refl}
use mathlib.Core.List.{List, [], ◌∷◌, ◌++◌, map}
use Rattle.wire.specs.Fields.{be, bytes_of}
use Rattle.wire.specs.Checks.{taken}
use Rattle.memx_tcp.specs.Layout.{known, fields_of, most_of, size}
use Rattle.memx_tcp.specs.Packet.{laid, write, each}
use Rattle.memx_tcp.specs.Read.{values_in, framed, read}
use Rattle.memx_tcp.specs.Reading.{fields_by}
use Rattle.memx_tcp.specs.Writing.{values_of}
use Rattle.flat_tcp.specs.declared.FlatTcp.{FlatTcp}
use Rattle.flat_tcp.specs.declared.FlatTcpReading.{FlatTcpReading}
use Rattle.flat_tcp.specs.Packets.{tcp_read, tcp_reply}

infix 20 ◌are◌with◌
-- a packet's bytes, its fields as C has them, and its token or payload
pub record Specimen : Type 0 where
  pub bytes : List ℕ
  pub fields : FlatTcp
  pub body : List ℕ

abbrev ◌are◌with◌ : List ℕ → FlatTcp → List ℕ → Specimen
bytes are fields with body = record { bytes = bytes; fields = fields; body = body }

abbrev hp-tcp : (kind letter count session number top start length : ℕ) → FlatTcp
hp-tcp k l c s n t b e = record { kind = k; letter = l; count = c; session = s; number = n; top = t; start = b; length = e }

-- 16,909,060; 72,623,859,790,382,856; 5,000,000,000; 5,000,000,007
abbrev count : List ℕ
count = 1 ∷ 2 ∷ 3 ∷ 4 ∷ []

abbrev session : List ℕ
session = 1 ∷ 2 ∷ 3 ∷ 4 ∷ 5 ∷ 6 ∷ 7 ∷ 8 ∷ []

abbrev number : List ℕ
number = 0 ∷ 0 ∷ 0 ∷ 1 ∷ 42 ∷ 5 ∷ 242 ∷ 0 ∷ []

abbrev top : List ℕ
top = 0 ∷ 0 ∷ 0 ∷ 1 ∷ 42 ∷ 5 ∷ 242 ∷ 7 ∷ []

abbrev specimens : List Specimen
specimens =
    ((0 ∷ 0 ∷ 0 ∷ []) are hp-tcp 0 0 0 0 0 0 0 0 with [])
    ∷ ((1 ∷ 0 ∷ 1 ∷ 82 ∷ []) are hp-tcp 1 82 0 0 0 0 0 0 with [])
    ∷ ((2 ∷ 0 ∷ 1 ∷ 65 ∷ []) are hp-tcp 2 65 0 0 0 0 0 0 with [])
    ∷ ((3 ∷ 0 ∷ 8 ∷ session) are hp-tcp 3 0 0 72623859790382856 0 0 0 0 with [])
    ∷ ((4 ∷ 0 ∷ 0 ∷ []) are hp-tcp 4 0 0 0 0 0 0 0 with [])
    ∷ ((5 ∷ 0 ∷ 12 ∷ number ++ count) are hp-tcp 5 0 16909060 0 5000000000 0 0 0 with [])
    ∷ ((6 ∷ 0 ∷ 1 ∷ 83 ∷ []) are hp-tcp 6 83 0 0 0 0 0 0 with [])
    ∷ ((7 ∷ 0 ∷ 4 ∷ count) are hp-tcp 7 0 16909060 0 0 0 0 0 with [])
    ∷ ((8 ∷ 0 ∷ 16 ∷ number ++ top) are hp-tcp 8 0 0 0 5000000000 5000000007 0 0 with [])
    ∷ ((9 ∷ 0 ∷ 1 ∷ 80 ∷ []) are hp-tcp 9 80 0 0 0 0 0 0 with [])
    ∷ ((10 ∷ 0 ∷ 8 ∷ number) are hp-tcp 10 0 0 0 5000000000 0 0 0 with [])
    ∷ ((11 ∷ 0 ∷ 2 ∷ 72 ∷ 73 ∷ []) are hp-tcp 11 0 0 0 0 0 3 2 with 72 ∷ 73 ∷ [])
    ∷ ((100 ∷ 0 ∷ 4 ∷ 80 ∷ 97 ∷ 58 ∷ 98 ∷ []) are hp-tcp 100 80 0 0 0 0 4 3 with 97 ∷ 58 ∷ 98 ∷ [])
    ∷ ((101 ∷ 0 ∷ 20 ∷ session ++ number ++ count) are hp-tcp 101 0 16909060 72623859790382856 5000000000 0 0 0 with [])
    ∷ ((102 ∷ 0 ∷ 8 ∷ session) are hp-tcp 102 0 0 72623859790382856 0 0 0 0 with [])
    ∷ ((103 ∷ 0 ∷ 16 ∷ session ++ number) are hp-tcp 103 0 0 72623859790382856 5000000000 0 0 0 with [])
    ∷ ((104 ∷ 0 ∷ 1 ∷ 74 ∷ []) are hp-tcp 104 0 0 0 0 0 3 1 with 74 ∷ [])
    ∷ []

-- read, there is no refusal and these are the fields
abbrev told : FlatTcp → FlatTcpReading
told p = record { refusal = 0; packet = p }

pub read-by-name : map (λ (s : Specimen). tcp_read s.bytes) specimens ≡ map (λ (s : Specimen). told s.fields) specimens
unfolding read framed be known fields_of most_of size each values_in fields_by
read-by-name = refl

-- a letter that its table lacks
pub refused-with-noughts : tcp_read (1 ∷ 0 ∷ 1 ∷ 88 ∷ []) ≡ record { refusal = 5; packet = hp-tcp 0 0 0 0 0 0 0 0 }
unfolding read framed be known fields_of most_of size each values_in
refused-with-noughts = refl

-- written in 23 bytes of room, which is what the longest needs, these are the bytes
pub written-by-name :
    map (λ (s : Specimen). tcp_reply s.fields s.body 23) specimens ≡ map (λ (s : Specimen). taken s.bytes) specimens
unfolding read framed be bytes_of known fields_of most_of size each values_in values_of write laid
written-by-name = refl
