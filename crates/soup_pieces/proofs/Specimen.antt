-- A stream at bytes: a message before Login Accepted, Login Accepted from number 1, a message, a heartbeat, a second Login Accepted, a
-- message.
-- Assumes nothing.
use Prim.Native.Nat.{ℕ}
use mathlib.Core.Path.{◌≡◌, refl}
use mathlib.Core.List.{List, [], ◌∷◌, ◌++◌}
use mathlib.Core.Bool.{false}
use lib.ListN.{replicate}
use Rattle.wire.specs.declared.refusal.Refusal.TheVariants.{NotForRecord}
use Rattle.text.specs.Text.{letter_or_digit, blank, text, spaces_then_text}
use Rattle.decimal.specs.Decimal.{digit, digits, trimmed, well_formed, spelt, value_of}
use Rattle.soup.specs.Packet.{accept, sequenced, server_heartbeat, line}
use Rattle.soup.specs.Read.{unbroken, accept_of, read}
use Rattle.soup_pieces.specs.Machine.{packet, refusal, judge, empty, eat, fates, fed, yielded}

-- six spaces, 8841
abbrev session : List ℕ
session = replicate 6 32 ++ 56 ∷ 56 ∷ 52 ∷ 49 ∷ []

-- from number 1
abbrev accepted : List ℕ
accepted = line 65 (session ++ (replicate 19 32 ++ 49 ∷ []))

-- HI, and a heartbeat
abbrev message : List ℕ
message = line 83 (72 ∷ 73 ∷ [])

abbrev beat : List ℕ
beat = line 72 []

abbrev offered : List ℕ
offered = message ++ accepted ++ message ++ beat ++ accepted ++ message ++ 83 ∷ []

pub comes-out : yielded (fates (empty false 0) offered)
    ≡ refusal message NotForRecord
    ∷ packet accepted (accept session 1) 0
    ∷ packet message (sequenced (72 ∷ 73 ∷ [])) 1
    ∷ packet beat server_heartbeat 0
    ∷ refusal accepted NotForRecord
    ∷ packet message (sequenced (72 ∷ 73 ∷ [])) 2
    ∷ []
unfolding fates yielded eat judge read accept_of unbroken spaces_then_text text letter_or_digit blank well_formed value_of trimmed digits
    digit
    spelt
comes-out = refl

-- an S has begun, and the message that it is will be number 3
pub stands : fed (empty false 0) offered ≡ record { kept = 83 ∷ []; dropping = false; next = 3 }
unfolding fed eat judge read accept_of unbroken spaces_then_text text letter_or_digit blank well_formed value_of trimmed digits digit spelt
stands = refl
