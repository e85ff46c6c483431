-- The specimen book's starred entries, with what the desk must say to each. `bytes_of 5 0x45_00000000` is five bytes in hexadecimal.
-- Assumes nothing.
use Rattle.std.specs.Prelude.{ℕ, ◌-◌, ◌^◌, List, [], ◌∷◌, Float}
use Rattle.wire.specs.Checks.{Verdict, refused, taken}
use Rattle.wire.specs.Fields.{bytes_of}
use Rattle.wire.specs.declared.refusal.Refusal.TheVariants.{Framing, Absent, Bound, Contradiction}
use Rattle.names.specs.Names.{name_of}
use Rattle.ufo.specs.Down.{messages, end}
use Rattle.ufo_up.specs.Up.{request}
use Rattle.memx.specs.Packet as broadcast
use Rattle.soup.specs.Packet.{accept}
use Rattle.clock.specs.Milliseconds.{decimal, whole}
use Rattle.clock.specs.declared.patience.Patience.{Patience}
use Rattle.clock.specs.declared.patience.Patience.TheVariants.{Measured}
use Rattle.missing.specs.Missing.{◌to◌}
use Rattle.record.specs.Standing.{State, complete, ongoing, missing}
use Rattle.record.specs.declared.Session.{Session}
use Rattle.record.specs.declared.Session.TheVariants.{Ufo, Memx}
use Rattle.book.specs.Entry.{Line, Timed, Entry, down, up, memx, soup, unheard, story, clock}

-- the messages HI, BUY, SELL, OK! and Z
abbrev pub hi : List ℕ
hi = bytes_of 2 0x4849

abbrev pub buy : List ℕ
buy = bytes_of 3 0x425559

abbrev pub sell : List ℕ
sell = bytes_of 4 0x53454C4C

abbrev pub ok : List ℕ
ok = bytes_of 3 0x4F4B21

abbrev z : List ℕ
z = bytes_of 1 0x5A

-- session 8841, padded on the right for UFO and on the left for Soup
abbrev pub s8841 : Session
s8841 = Ufo (name_of (bytes_of 10 0x38383431202020202020))

abbrev padded : List ℕ
padded = bytes_of 10 0x20202020202038383431

abbrev line : List ℕ → Verdict (List (List ℕ)) → ℕ → ℕ → List ℕ → State → Line
line d v n t h s = record { datagram = d; answer = v; next = n; top = t; held = h; stands = taken s }

abbrev timed : Float → Float → Float → Float → Timed
timed r m s w = record { sample = r; mean = m; spread = s; wait = w }

-- a floor of a millisecond and a ceiling of a minute
abbrev rule : Patience
rule = Measured (whole 1) (whole 60000)

-- a session without messages
abbrev pub empty : List Line
empty = line (bytes_of 5 0x45_00000000) (taken []) 1 0 [] complete ∷ []

-- the long story: a message that is held, overlap, its release, the end; then what contradicts, and stale news
abbrev pub tale : List Line
tale =
    line (bytes_of 13 0x53_00000001_0002_0002_4849_0000) (taken (hi ∷ [] ∷ [])) 3 2 [] ongoing
    ∷ line (bytes_of 12 0x53_00000005_0001_0003_4F4B21) (taken []) 3 5 (5 ∷ []) (missing ((3 to 4) ∷ []))
    ∷ line (bytes_of 20 0x53_00000002_0003_0000_0003_425559_0004_53454C4C) (taken (buy ∷ sell ∷ ok ∷ [])) 6 5 [] ongoing
    ∷ line (bytes_of 5 0x45_00000005) (taken []) 6 5 [] complete
    ∷ line (bytes_of 5 0x45_00000004) (refused Contradiction) 6 5 [] complete
    ∷ line (bytes_of 7 0x53_00000009_0000) (refused Contradiction) 6 5 [] complete
    ∷ line (bytes_of 7 0x53_00000003_0000) (taken []) 6 5 [] complete
    ∷ []

-- messages 2 and 4 are held, and what is missing lies in two ranges; each goes out as soon as it is next
abbrev pub gaps : List Line
gaps =
    line (bytes_of 11 0x53_00000002_0001_0002_4849) (taken []) 1 2 (2 ∷ []) (missing ((1 to 1) ∷ []))
    ∷ line (bytes_of 12 0x53_00000004_0001_0003_4F4B21) (taken []) 1 4 (2 ∷ 4 ∷ []) (missing ((1 to 1) ∷ (3 to 3) ∷ []))
    ∷ line (bytes_of 12 0x53_00000001_0001_0003_425559) (taken (buy ∷ hi ∷ [])) 3 4 (4 ∷ []) (missing ((3 to 3) ∷ []))
    ∷ line (bytes_of 13 0x53_00000003_0001_0004_53454C4C) (taken (sell ∷ ok ∷ [])) 5 4 [] ongoing
    ∷ []

-- a MEMX session: nothing published, then two messages behind a longer header, then the end with a longer one
abbrev pub headers : List Line
headers =
    line (bytes_of 18 0x00_12_0000000000000001_0000000000000000) (taken []) 1 0 [] ongoing
    ∷ line (bytes_of 27 0x02_13_0000000000000001_0000000000000001_AB_0002_0002_4849_0000) (taken (hi ∷ [] ∷ [])) 3 2 [] ongoing
    ∷ line (bytes_of 20 0x01_14_0000000000000001_0000000000000002_ABCD) (taken []) 3 2 [] complete
    ∷ []

-- sample, mean, spread and wait
abbrev timings : List Timed
timings =
    timed (whole 100) (whole 100) (whole 50) (whole 300)
    ∷ timed (whole 60) (whole 95) (decimal 475 10) (whole 285)
    ∷ timed (whole 95) (whole 95) (decimal 35625 1000) (decimal 2375 10)
    ∷ []

abbrev pub samples : Entry
samples = clock rule timings

abbrev pub book : List Entry
book =
    down (bytes_of 13 0x53_00000006_0002_0002_4849_0000) (taken (messages 6 (hi ∷ [] ∷ [])))
    ∷ down (bytes_of 14 0x53_00000006_0002_0002_4849_0000_00) (refused Framing)
    ∷ down (bytes_of 5 0x45_00000000) (taken (end 0))
    ∷ down (bytes_of 10 0x53_FFFFFFFE_0001_0001_5A) (taken (messages (2 ^ 32 - 2) (z ∷ [])))
    ∷ down (bytes_of 10 0x53_FFFFFFFF_0001_0001_5A) (refused Bound)
    ∷ down (bytes_of 7 0x53_FFFFFFFF_0000) (taken (messages (2 ^ 32 - 1) []))
    ∷ up (bytes_of 9 0x0007_54_00000003_0002) (taken (request 3 2 ∷ []))
    ∷ memx (bytes_of 18 0x00_12_0000000000000001_0000000000000000) (taken (broadcast.heartbeat 1 0 []))
    ∷ memx (bytes_of 25 0x02_13_0000000000000001_0000000000000006_AB_0001_0002_4849)
    (taken (broadcast.messages 1 6 (bytes_of 1 0xAB) (hi ∷ [])))
    ∷ soup (bytes_of 32 0x41_20202020202038383431_2020202020202020202020202020202020202031_0A) (taken (accept padded 1))
    ∷ soup (bytes_of 32 0x41_20202020202038383431_2020202020202020202020202020202020202020_0A) (refused Absent)
    ∷ unheard s8841 ongoing
    ∷ story s8841 empty
    ∷ story (Memx (record { 0 = 1 })) headers
    ∷ story s8841 tale
    ∷ story s8841 gaps
    ∷ samples
    ∷ []
