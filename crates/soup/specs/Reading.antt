-- How the code tells a packet: each case of its enum.
-- Assumes nothing.
use Rattle.std.specs.Prelude.{ℕ, ◌-◌, ◌^◌, List, [], ◌∷◌, length, Bool, not}
use Rattle.wire.specs.Checks.{◌at_most◌, Check, ◌else◌}
use Rattle.wire.specs.declared.refusal.Refusal.TheVariants.{Form, Absent, Bound}
use Rattle.text.specs.Text.{blank}
use Rattle.decimal.specs.Decimal.{well_formed, value_of}
use Rattle.names.specs.Names.{name_of, user_of}
use Rattle.soup.specs.Packet.{Packet, debug, accept, reject, sequenced, server_heartbeat, end_of_session, login, unsequenced}
use Rattle.soup.specs.Packet.{client_heartbeat, logout}
use Rattle.soup.specs.declared.reading.Reading.{Reading}
use Rattle.soup.specs.declared.reading.Reading.TheVariants.{Debug, Accept, Reject, Sequenced, ServerHeartbeat, EndOfSession}
use Rattle.soup.specs.declared.reading.Reading.TheVariants.{Login, Unsequenced, ClientHeartbeat, Logout}

-- a payload by its place in the packet, a text by its bytes packed
abbrev pub packet_of : Packet → Reading
packet_of (debug text) = Debug 1 (length text)
packet_of (accept session number) = Accept (name_of session) (record { 0 = number })
packet_of (reject reason) = Reject reason
packet_of (sequenced message) = Sequenced 1 (length message)
packet_of server_heartbeat = ServerHeartbeat
packet_of end_of_session = EndOfSession
packet_of (login user password session number) = Login (user_of user) (record { 0 = name_of password }) (name_of session)
    (record { 0 = number })
packet_of (unsequenced message) = Unsequenced 1 (length message)
packet_of client_heartbeat = ClientHeartbeat
packet_of logout = Logout

-- what is checked of a number beside a text that must be there
abbrev pub number_checks : (absent : Bool) (number : List ℕ) → List Check
number_checks absent number =
    (well_formed number else Form)
    ∷ (not absent else Absent)
    ∷ (not (blank number) else Absent)
    ∷ (value_of number at_most 2 ^ 64 - 1 else Bound)
    ∷ []
