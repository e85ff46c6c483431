-- SoupTCP's packets as the paper has them: what they hold, how they are laid out, which are lawful.
-- Assumes nothing.
use Rattle.std.specs.Prelude.{ℕ, ◌^◌, ◌≤◌, ◌<◌, ◌≡◌, ◌⊎◌, List, [], ◌∷◌, ◌++◌, Bool, true, false, ◌||◌, length, get_or}
use Rattle.wire.specs.Checks.{◌is◌}
use Rattle.wire.specs.Fields.{Bytes}
use Rattle.text.specs.Text.{blank, text_then_spaces, spaces_then_text}
use Rattle.decimal.specs.Decimal.{written}

-- texts and payloads by their bytes, padding and all; a reason by its letter
pub data Packet : Type 0 where
  debug : (text : List ℕ) → Packet
  accept : (session : List ℕ) (number : ℕ) → Packet
  reject : (reason : ℕ) → Packet
  sequenced : (message : List ℕ) → Packet
  server_heartbeat : Packet
  end_of_session : Packet
  login : (user password session : List ℕ) (number : ℕ) → Packet
  unsequenced : (message : List ℕ) → Packet
  client_heartbeat : Packet
  logout : Packet

-- a type byte, a payload, a linefeed
abbrev pub line : ℕ → List ℕ → List ℕ
line kind payload = kind ∷ payload ++ 10 ∷ []

-- the types that carry a payload: + S U
abbrev pub carries : ℕ → Bool
carries kind = kind is 43 || kind is 83 || kind is 85

-- the type bytes are + A J S H Z L U R O
abbrev pub write : Packet → List ℕ
write (debug text) = line 43 text
write (accept session number) = line 65 (session ++ written number)
write (reject reason) = line 74 (reason ∷ [])
write (sequenced message) = line 83 message
write server_heartbeat = line 72 []
write end_of_session = line 90 []
write (login user password session number) = line 76 (user ++ password ++ session ++ written number)
write (unsequenced message) = line 85 message
write client_heartbeat = line 82 []
write logout = line 79 []

-- the longest line, with its linefeed: a house limit
abbrev pub line_limit : ℕ
line_limit = 4098

-- any bytes but a linefeed; 4,096 of them fill the longest line
abbrev pub Payload : List ℕ → Type 0
Payload s = Bytes s × (length s ≤ 4096) × ((i : ℕ) → get_or s i 0 ≡ 10 → ⊥)

-- n bytes of text, padded on the right or on the left
abbrev pub PaddedRight : ℕ → List ℕ → Type 0
PaddedRight n s = (length s ≡ n) × (text_then_spaces s ≡ true)

abbrev pub PaddedLeft : ℕ → List ℕ → Type 0
PaddedLeft n s = (length s ≡ n) × (spaces_then_text s ≡ true)

-- the lawful packets; Exact shows that the reader takes these, written, and no others
unfoldable pub Fit : Packet → Type 0
Fit (debug text) = Payload text
Fit (accept session number) = PaddedLeft 10 session × (blank session ≡ false) × (1 ≤ number) × (number < 2 ^ 64)
Fit (reject reason) = (reason ≡ 65) ⊎ (reason ≡ 83)
Fit (sequenced message) = Payload message
Fit server_heartbeat = Unit
Fit end_of_session = Unit
Fit (login user password session number) = PaddedRight 6 user × PaddedRight 10 password × PaddedLeft 10 session × (number < 2 ^ 64)
    × (blank user ≡ false)
Fit (unsequenced message) = Payload message
Fit client_heartbeat = Unit
Fit logout = Unit
