-- One packet of every type, and the lengths that each carries, by computation.
-- Assumes nothing.
use Prim.Native.Nat.{ℕ}
use mathlib.Core.Path.{◌≡◌, refl}
use mathlib.Core.List.{List, [], ◌∷◌, ◌++◌, map}
use Rattle.wire.specs.Fields.{be}
use Rattle.wire.specs.Checks.{Verdict, taken}
use Rattle.memx_tcp.specs.Layout.{Row, table, known, fields_of, most_of, size}
use Rattle.memx_tcp.specs.Packet.{Packet, each}
use Rattle.memx_tcp.specs.Read.{values_in, framed, read}

-- the bytes of the fields, and the most that may follow them
abbrev lengths : Row → List ℕ
lengths r = r.kind ∷ size r.fields ∷ r.most ∷ []

pub every-length : map lengths table ≡
    (0 ∷ 0 ∷ 0 ∷ [])
    ∷ (1 ∷ 1 ∷ 0 ∷ [])
    ∷ (2 ∷ 1 ∷ 0 ∷ [])
    ∷ (3 ∷ 8 ∷ 0 ∷ [])
    ∷ (4 ∷ 0 ∷ 0 ∷ [])
    ∷ (5 ∷ 12 ∷ 0 ∷ [])
    ∷ (6 ∷ 1 ∷ 0 ∷ [])
    ∷ (7 ∷ 4 ∷ 0 ∷ [])
    ∷ (8 ∷ 16 ∷ 0 ∷ [])
    ∷ (9 ∷ 1 ∷ 0 ∷ [])
    ∷ (10 ∷ 8 ∷ 0 ∷ [])
    ∷ (11 ∷ 0 ∷ 65535 ∷ [])
    ∷ (100 ∷ 1 ∷ 255 ∷ [])
    ∷ (101 ∷ 20 ∷ 0 ∷ [])
    ∷ (102 ∷ 8 ∷ 0 ∷ [])
    ∷ (103 ∷ 16 ∷ 0 ∷ [])
    ∷ (104 ∷ 0 ∷ 65535 ∷ [])
    ∷ []
unfolding size
every-length = refl

-- four and eight bytes that spell a small number
abbrev four : ℕ → List ℕ
four n = 0 ∷ 0 ∷ 0 ∷ n ∷ []

abbrev eight : ℕ → List ℕ
eight n = 0 ∷ 0 ∷ 0 ∷ 0 ∷ four n

abbrev says : ℕ → List ℕ → List ℕ → Verdict Packet
says kind values tail = taken (record { kind = kind; values = values; tail = tail })

-- packets of every type, each said to be what the paper's table says
abbrev packets : List (List ℕ)
packets =
    (0 ∷ 0 ∷ 0 ∷ [])
    ∷ (1 ∷ 0 ∷ 1 ∷ 82 ∷ [])
    ∷ (2 ∷ 0 ∷ 1 ∷ 65 ∷ [])
    ∷ (3 ∷ 0 ∷ 8 ∷ eight 9)
    ∷ (4 ∷ 0 ∷ 0 ∷ [])
    ∷ (5 ∷ 0 ∷ 12 ∷ eight 7 ++ four 2)
    ∷ (6 ∷ 0 ∷ 1 ∷ 83 ∷ [])
    ∷ (7 ∷ 0 ∷ 4 ∷ four 2)
    ∷ (8 ∷ 0 ∷ 16 ∷ eight 7 ++ eight 8)
    ∷ (9 ∷ 0 ∷ 1 ∷ 80 ∷ [])
    ∷ (10 ∷ 0 ∷ 8 ∷ eight 8)
    ∷ (11 ∷ 0 ∷ 2 ∷ 72 ∷ 73 ∷ [])
    ∷ (100 ∷ 0 ∷ 4 ∷ 80 ∷ 97 ∷ 58 ∷ 98 ∷ [])
    ∷ (101 ∷ 0 ∷ 20 ∷ eight 9 ++ eight 7 ++ four 2)
    ∷ (102 ∷ 0 ∷ 8 ∷ eight 9)
    ∷ (103 ∷ 0 ∷ 16 ∷ eight 9 ++ eight 0)
    ∷ (104 ∷ 0 ∷ 0 ∷ [])
    ∷ []

pub every-type : map read packets ≡
    says 0 [] []
    ∷ says 1 (82 ∷ []) []
    ∷ says 2 (65 ∷ []) []
    ∷ says 3 (9 ∷ []) []
    ∷ says 4 [] []
    ∷ says 5 (7 ∷ 2 ∷ []) []
    ∷ says 6 (83 ∷ []) []
    ∷ says 7 (2 ∷ []) []
    ∷ says 8 (7 ∷ 8 ∷ []) []
    ∷ says 9 (80 ∷ []) []
    ∷ says 10 (8 ∷ []) []
    ∷ says 11 [] (72 ∷ 73 ∷ [])
    ∷ says 100 (80 ∷ []) (97 ∷ 58 ∷ 98 ∷ [])
    ∷ says 101 (9 ∷ 7 ∷ 2 ∷ []) []
    ∷ says 102 (9 ∷ []) []
    ∷ says 103 (9 ∷ 0 ∷ []) []
    ∷ says 104 [] []
    ∷ []
unfolding read framed be known fields_of most_of size each values_in
every-type = refl
