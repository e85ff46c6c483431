-- UFO, client to server: a packet is one or more messages, each in a block of its own.
-- Assumes nothing.
use Rattle.std.specs.Prelude.{ℕ, ◌+◌, ◌-◌, ◌^◌, ◌≤◌, ◌<◌, ◌≡◌, List, [], ◌∷◌, ◌++◌, map, Bool, true, false, not, length, get_or, take, drop}
use Rattle.std.specs.Prelude.{if◌then◌else◌}
use Rattle.wire.specs.Fields.{be, bytes_of, Bytes}
use Rattle.wire.specs.Checks.{◌is◌, ◌at_most◌, Verdict, refused, taken, Check, ◌else◌, checked, ◌into◌}
use Rattle.wire.specs.Datagram.{limit, opening}
use Rattle.wire.specs.declared.refusal.Refusal.TheVariants.{UnknownType, Framing, Form, Absent}
use Rattle.names.specs.Names.{name_of, user_of}
use Rattle.text.specs.Text.{blank, text_then_spaces}
use Rattle.blocks.specs.Blocks.{frames, stated, first, Cut, torn, whole, upstream, end_at}
use Rattle.ufo_up.specs.declared.up.Up.{Up}
use Rattle.ufo_up.specs.declared.up.Up.TheVariants as up
use Rattle.ufo_up.specs.declared.up.Placed.{Placed}

-- what a client says to the server
pub data Message : Type 0 where
  login : (user password session : List ℕ) → Message
  request : (first count : ℕ) → Message
  unsequenced : (bytes : List ℕ) → Message
  heartbeat : Message
  logout : Message

-- its type byte, then its fields
abbrev pub write_message : Message → List ℕ
write_message (login user password session) = 76 ∷ (user ++ (password ++ session))
write_message (request first count) = 84 ∷ (bytes_of 4 first ++ bytes_of 2 count)
write_message (unsequenced bytes) = 85 ∷ bytes
write_message heartbeat = 82 ∷ []
write_message logout = 79 ∷ []

abbrev pub write_up : List Message → List ℕ
write_up ms = frames (map write_message ms)

-- the most data that `U` carries; `Limits` shows that with it a packet is full
abbrev pub most_data : ℕ
most_data = 1469

-- which messages are lawful. A text field has its length and is padded on the right; it may be blank, but not the user
abbrev pub Field : ℕ → List ℕ → Type 0
Field n s = (length s ≡ n) × (text_then_spaces s ≡ true)

abbrev pub FitMessage : Message → Type 0
FitMessage (login user password session) = Field 6 user × Field 10 password × Field 10 session × (blank user ≡ false)
FitMessage (request first count) = (0 < first) × (first < 2 ^ 32) × (0 < count) × (count < 2 ^ 16)
FitMessage (unsequenced bytes) = Bytes bytes × (length bytes ≤ most_data)
FitMessage heartbeat = Unit
FitMessage logout = Unit

abbrev pub FitAll : List Message → Type 0
FitAll [] = Unit
FitAll (m ∷ ms) = FitMessage m × FitAll ms

-- which packets are lawful: one message or more, in at most 1,472 bytes; `Exact` shows that these are read as they were written, and no
-- others
pub record Fit (ms : List Message) : Type 0 where
  pub some : 0 < length ms
  pub all : FitAll ms
  pub short : length (write_up ms) ≤ limit

-- a message's own bytes, type by type
abbrev pub kind : List ℕ → ℕ
kind m = get_or m 0 0

abbrev pub user_l : List ℕ → List ℕ
user_l m = take 6 (drop 1 m)

abbrev pub password_l : List ℕ → List ℕ
password_l m = take 10 (drop 7 m)

abbrev pub session_l : List ℕ → List ℕ
session_l m = take 10 (drop 17 m)

-- three text fields, of which the user is not blank
abbrev pub checks_l : List ℕ → List Check
checks_l m =
    (length m is 27 else Framing)
    ∷ (text_then_spaces (user_l m) else Form)
    ∷ (text_then_spaces (password_l m) else Form)
    ∷ (text_then_spaces (session_l m) else Form)
    ∷ (not (blank (user_l m)) else Absent)
    ∷ []

unfoldable pub read_l : List ℕ → Verdict Message
read_l m = checked (checks_l m) (taken (login (user_l m) (password_l m) (session_l m)))

abbrev pub first_t : List ℕ → ℕ
first_t m = be 4 (drop 1 m)

abbrev pub count_t : List ℕ → ℕ
count_t m = be 2 (drop 5 m)

-- a number and a count, neither of them 0
abbrev pub checks_t : List ℕ → List Check
checks_t m =
    (length m is 7 else Framing)
    ∷ (not (first_t m is 0) else Absent)
    ∷ (not (count_t m is 0) else Absent)
    ∷ []

unfoldable pub read_t : List ℕ → Verdict Message
read_t m = checked (checks_t m) (taken (request (first_t m) (count_t m)))

-- data. More than the most is too long, whatever the packet: with the type byte and the block's length it would not stand in one
abbrev pub checks_u : List ℕ → List Check
checks_u m = (length m at_most 1 + most_data else Framing) ∷ []

unfoldable pub read_u : List ℕ → Verdict Message
read_u m = checked (checks_u m) (taken (unsequenced (drop 1 m)))

-- the type byte alone
abbrev pub checks_alone : List ℕ → List Check
checks_alone m = (length m is 1 else Framing) ∷ []

unfoldable pub read_alone : Message → List ℕ → Verdict Message
read_alone said m = checked (checks_alone m) (taken said)

-- by the type byte
abbrev pub by_kind : ℕ → List ℕ → Verdict Message
by_kind kind m =
    if kind is 76 then read_l m else
    if kind is 84 then read_t m else
    if kind is 85 then read_u m else
    if kind is 82 then read_alone heartbeat m else
    if kind is 79 then read_alone logout m else
    refused UnknownType

unfoldable pub read_message : List ℕ → Verdict Message
read_message m = by_kind (kind m) m

-- each message in turn: the first that is refused gives the number
unfoldable pub read_each : List (List ℕ) → Verdict (List Message)
read_each [] = taken []
read_each (b ∷ bs) = read_message b into (λ m. read_each bs into (λ ms. taken (m ∷ ms)))

abbrev pub read_cut : Cut → Verdict (List Message)
read_cut torn = refused Framing
read_cut (whole bs) = read_each bs

-- the packet's length comes first, then the blocks over all of it, then the messages; `Order` shows it as one list of checks
unfoldable pub read_up : List ℕ → Verdict (List Message)
read_up d = checked (opening d) (read_cut (upstream d))

-- the message whose block stands at p: all of it is there, and it is not empty
unfoldable pub message_at : List ℕ → ℕ → Verdict Message
message_at d p =
    checked ((end_at d p at_most length d else Framing) ∷ (not (stated (drop p d) is 0) else Framing) ∷ [])
    (read_message (first (drop p d)))

-- of messages whose blocks stand from `at` on, the one whose block stands at a place
unfoldable pub message_from : ℕ → List Message → ℕ → Verdict Message
message_from at [] place = refused Framing
message_from at (m ∷ ms) place =
    if at is place then taken m else message_from (at + 2 + length (write_message m)) ms place

-- the whole packet comes first, and then 4 where no block starts; `UpInTurn` shows that its messages are found one after the other
abbrev pub message_in : List ℕ → ℕ → Verdict Message
message_in d place = read_up d into (λ ms. message_from 0 ms place)

-- the packet is not refused
abbrev pub is_taken : Verdict (List Message) → Bool
is_taken (refused n) = false
is_taken (taken ms) = true

-- its fields; the data of `U` ends at the next place, where the message's block does
abbrev pub up_of : ℕ → Message → Up
up_of next (login u w s) = up.Login (user_of u) (record { 0 = name_of w }) (name_of s)
up_of next (request n c) = up.Request (record { 0 = n }) c
up_of next (unsequenced b) = up.Unsequenced (next - length b) (length b)
up_of next heartbeat = up.Heartbeat
up_of next logout = up.Logout

-- and the next place
abbrev pub placed_of : ℕ → Message → Placed
placed_of next m = record { message = up_of next m; next = next }
