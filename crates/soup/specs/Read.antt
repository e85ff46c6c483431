-- What the desk says to a SoupTCP packet: lists of checks, in the order of their numbers.
-- Assumes nothing.
use Rattle.std.specs.Prelude.{ℕ, ◌-◌, ◌^◌, List, [], ◌∷◌, Bool, true, not, ◌&&◌, ◌||◌, length, get_or, take, drop, if◌then◌else◌}
use Rattle.wire.specs.Checks.{◌is◌, ◌at_most◌, Verdict, refused, taken, Check, ◌else◌, checked}
use Rattle.wire.specs.declared.refusal.Refusal.TheVariants.{Empty, Overlong, UnknownType, Framing, Form, Absent, Bound, Linefeed}
use Rattle.text.specs.Text.{blank, text_then_spaces, spaces_then_text}
use Rattle.decimal.specs.Decimal.{well_formed, value_of}
use Rattle.soup.specs.Packet.{Packet, debug, accept, reject, sequenced, server_heartbeat, end_of_session, login, unsequenced}
use Rattle.soup.specs.Packet.{client_heartbeat, logout, line_limit}

-- the last byte, and those before it
abbrev pub last : List ℕ → ℕ
last d = get_or d (length d - 1) 0

abbrev pub front : List ℕ → List ℕ
front d = take (length d - 1) d

-- the field of some size at an offset
abbrev pub field : ℕ → ℕ → List ℕ → List ℕ
field offset size d = take size (drop offset d)

-- what stands between the type and the linefeed
abbrev pub payload : List ℕ → List ℕ
payload d = field 1 (length d - 2) d

-- no linefeed
unfoldable pub unbroken : List ℕ → Bool
unbroken [] = true
unbroken (b ∷ s) = not (b is 10) && unbroken s

abbrev pub opening : List ℕ → List Check
opening d =
    (1 at_most length d else Empty)
    ∷ (length d at_most line_limit else Overlong)
    ∷ []

-- the only linefeed is the last byte
abbrev pub line_checks : List ℕ → List Check
line_checks d =
    (last d is 10 else Framing)
    ∷ (unbroken (front d) else Linefeed)
    ∷ []

-- and there are n bytes in all
abbrev pub sized_checks : ℕ → List ℕ → List Check
sized_checks n d = (length d is n else Framing) ∷ line_checks d

abbrev pub reject_checks : (reason : ℕ) → List Check
reject_checks reason = (reason is 65 || reason is 83 else Form) ∷ []

abbrev pub accept_checks : (session number : List ℕ) → List Check
accept_checks session number =
    (spaces_then_text session else Form)
    ∷ (well_formed number else Form)
    ∷ (not (blank session) else Absent)
    ∷ (not (blank number) else Absent)
    ∷ (not (value_of number is 0) else Absent)
    ∷ (value_of number at_most 2 ^ 64 - 1 else Bound)
    ∷ []

abbrev pub login_checks : (user password session number : List ℕ) → List Check
login_checks user password session number =
    (text_then_spaces user else Form)
    ∷ (text_then_spaces password else Form)
    ∷ (spaces_then_text session else Form)
    ∷ (well_formed number else Form)
    ∷ (not (blank user) else Absent)
    ∷ (not (blank number) else Absent)
    ∷ (value_of number at_most 2 ^ 64 - 1 else Bound)
    ∷ []

unfoldable pub reject_of : (reason : ℕ) → Verdict Packet
reject_of reason = checked (reject_checks reason) (taken (reject reason))

unfoldable pub accept_of : (session number : List ℕ) → Verdict Packet
accept_of session number = checked (accept_checks session number) (taken (accept session (value_of number)))

unfoldable pub login_of : (user password session number : List ℕ) → Verdict Packet
login_of user password session number =
    checked (login_checks user password session number) (taken (login user password session (value_of number)))

-- the fields at their offsets
abbrev pub read_reject : List ℕ → Verdict Packet
read_reject d = checked (sized_checks 3 d) (reject_of (get_or d 1 0))

abbrev pub read_accept : List ℕ → Verdict Packet
read_accept d = checked (sized_checks 32 d) (accept_of (field 1 10 d) (field 11 20 d))

abbrev pub read_login : List ℕ → Verdict Packet
read_login d = checked (sized_checks 48 d) (login_of (field 1 6 d) (field 7 10 d) (field 17 10 d) (field 27 20 d))

-- by the type byte: + A J S H Z L U R O
abbrev pub by_type : ℕ → List ℕ → Verdict Packet
by_type kind d =
    if kind is 43 then checked (line_checks d) (taken (debug (payload d)))
    else if kind is 65 then read_accept d
    else if kind is 74 then read_reject d
    else if kind is 83 then checked (line_checks d) (taken (sequenced (payload d)))
    else if kind is 72 then checked (sized_checks 2 d) (taken server_heartbeat)
    else if kind is 90 then checked (sized_checks 2 d) (taken end_of_session)
    else if kind is 76 then read_login d
    else if kind is 85 then checked (line_checks d) (taken (unsequenced (payload d)))
    else if kind is 82 then checked (sized_checks 2 d) (taken client_heartbeat)
    else if kind is 79 then checked (sized_checks 2 d) (taken logout)
    else refused UnknownType

-- Order shows that this is one list of checks, in the readers' order
unfoldable pub read : List ℕ → Verdict Packet
read d = checked (opening d) (by_type (get_or d 0 0) d)
