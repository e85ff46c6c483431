-- UFO, server to client: a packet, how it is laid out, which packets are lawful, and what a datagram says.
-- Assumes nothing.
use Rattle.std.specs.Prelude.{ℕ, ◌+◌, ◌-◌, ◌^◌, ◌≤◌, ◌<◌, ◌≡◌, ◌⊎◌, List, [], ◌∷◌, ◌++◌, true, false, not, ◌||◌, length, get_or, take, drop}
use Rattle.std.specs.Prelude.{if◌then◌else◌}
use Rattle.wire.specs.Fields.{be, bytes_of, Bytes}
use Rattle.wire.specs.Checks.{◌is◌, ◌at_most◌, Verdict, refused, taken, Check, ◌else◌, checked}
use Rattle.wire.specs.Datagram.{limit, opening}
use Rattle.wire.specs.declared.refusal.Refusal.TheVariants.{UnknownType, Framing, Form, Absent, Bound}
use Rattle.names.specs.Names.{name_of}
use Rattle.text.specs.Text.{blank, text_then_spaces}
use Rattle.blocks.specs.Blocks.{frames, Cut, cut, is_whole, messages_of, Each}
use Rattle.ufo.specs.declared.down.Down.{Down}
use Rattle.ufo.specs.declared.down.Down.TheVariants.{Accept, Reject, Messages, End}

-- no messages at all are a heartbeat: its number is the next to be sent
pub data Packet : Type 0 where
  accept : (session : List ℕ) (next : ℕ) → Packet
  reject : (reason : ℕ) → Packet
  messages : (first : ℕ) (ms : List (List ℕ)) → Packet
  end : (total : ℕ) → Packet

-- messages, given as the blocks that they stand in
abbrev pub laid : ℕ → ℕ → List ℕ → List ℕ
laid first count blocks = 83 ∷ (bytes_of 4 first ++ (bytes_of 2 count ++ blocks))

abbrev pub write : Packet → List ℕ
write (accept session next) = 65 ∷ (session ++ bytes_of 4 next)
write (reject reason) = 74 ∷ reason ∷ []
write (messages first ms) = laid first (length ms) (frames ms)
write (end total) = 69 ∷ bytes_of 4 total

-- the lawful packets; `Exact` shows that these are read as they were written, and no others
pub record FitAccept (session : List ℕ) (next : ℕ) : Type 0 where
  pub ten : length session ≡ 10
  pub letters : text_then_spaces session ≡ true
  pub named : blank session ≡ false
  pub some : 0 < next
  pub bound : next ≤ 2 ^ 32 - 1

pub record FitMessages (first : ℕ) (ms : List (List ℕ)) : Type 0 where
  pub some : 0 < first
  pub bound : first + length ms ≤ 2 ^ 32 - 1
  pub bytes : Each Bytes ms
  pub size : length (write (messages first ms)) ≤ limit

abbrev pub Fit : Packet → Type 0
Fit (accept session next) = FitAccept session next
Fit (reject reason) = (reason ≡ 65) ⊎ (reason ≡ 83)
Fit (messages first ms) = FitMessages first ms
Fit (end total) = total ≤ 2 ^ 32 - 2

-- A: session 10, next number 4; 15 bytes
abbrev pub session_a : List ℕ → List ℕ
session_a d = take 10 (drop 1 d)

abbrev pub next_a : List ℕ → ℕ
next_a d = be 4 (drop 11 d)

abbrev pub checks_a : List ℕ → List Check
checks_a d =
    (length d is 15 else Framing)
    ∷ (text_then_spaces (session_a d) else Form)
    ∷ (not (blank (session_a d)) else Absent)
    ∷ (not (next_a d is 0) else Absent)
    ∷ []

unfoldable pub read_a : List ℕ → Verdict Packet
read_a d = checked (checks_a d) (taken (accept (session_a d) (next_a d)))

-- J: reason A or S; 2 bytes
abbrev pub reason_j : List ℕ → ℕ
reason_j d = get_or d 1 0

abbrev pub checks_j : List ℕ → List Check
checks_j d = (length d is 2 else Framing) ∷ (reason_j d is 65 || reason_j d is 83 else Form) ∷ []

unfoldable pub read_j : List ℕ → Verdict Packet
read_j d = checked (checks_j d) (taken (reject (reason_j d)))

-- S: first number 4, count 2, then exactly count blocks
abbrev pub first_s : List ℕ → ℕ
first_s d = be 4 (drop 1 d)

abbrev pub count_s : List ℕ → ℕ
count_s d = be 2 (drop 5 d)

abbrev pub blocks_s : List ℕ → Cut
blocks_s d = cut (count_s d) (drop 7 d)

abbrev pub checks_s : List ℕ → List Check
checks_s d =
    (7 at_most length d else Framing)
    ∷ (is_whole (blocks_s d) else Framing)
    ∷ (not (first_s d is 0) else Absent)
    ∷ (first_s d + count_s d at_most 2 ^ 32 - 1 else Bound)
    ∷ []

unfoldable pub read_s : List ℕ → Verdict Packet
read_s d = checked (checks_s d) (taken (messages (first_s d) (messages_of (blocks_s d))))

-- E: total 4; 5 bytes
abbrev pub total_e : List ℕ → ℕ
total_e d = be 4 (drop 1 d)

abbrev pub checks_e : List ℕ → List Check
checks_e d = (length d is 5 else Framing) ∷ (total_e d at_most 2 ^ 32 - 2 else Bound) ∷ []

unfoldable pub read_e : List ℕ → Verdict Packet
read_e d = checked (checks_e d) (taken (end (total_e d)))

-- by the type byte
abbrev pub kind : List ℕ → ℕ
kind d = get_or d 0 0

abbrev pub by_kind : List ℕ → Verdict Packet
by_kind d =
    if kind d is 65 then read_a d else
    if kind d is 74 then read_j d else
    if kind d is 83 then read_s d else
    if kind d is 69 then read_e d else
    refused UnknownType

-- what the desk says to a datagram; `Order` shows it as one list of checks, in the readers' order
unfoldable pub read : List ℕ → Verdict Packet
read d = checked (opening d) (by_kind d)

-- what was taken, as the reader tells it: the packet's fields, its name packed and its messages counted
abbrev pub down_of : Packet → Down
down_of (accept session next) = Accept (name_of session) (record { 0 = next })
down_of (reject reason) = Reject reason
down_of (messages first ms) = Messages (record { 0 = first }) (length ms)
down_of (end total) = End (record { 0 = total })
