-- What a call makes of a piece from a place on, and what it leaves in the buffer.
-- Assumes nothing.
use Rattle.std.specs.Prelude.{ℕ, ◌-◌, ◌≡◌, List, [], ◌∷◌, Bool, ◌&&◌, length, take, drop, if◌then◌else◌, Option, None, Some}
use Rattle.wire.specs.Checks.{◌is◌, ◌at_most◌, Verdict, taken, Check, ◌else◌, checked, ◌into◌, ◌told_by◌}
use Rattle.wire.specs.Reply.{left_of}
use Rattle.wire.specs.declared.kinds.Sequence.{Sequence}
use Rattle.wire.specs.declared.refusal.Refusal.TheVariants.{Framing, Broken}
use Rattle.soup.specs.Packet.{line_limit}
use Rattle.soup.specs.Read.{unbroken}
use Rattle.soup.specs.Reading.{packet_of}
use Rattle.soup_pieces.specs.Machine.{Machine, packet, refusal, yield_bytes, First, used_up, given, first}
use Rattle.soup_pieces.specs.declared.Pieces.{Pieces}
use Rattle.soup_pieces.specs.declared.Taken.{Taken}
use Rattle.soup_pieces.specs.declared.Taken.TheVariants as takes

-- the machine that is lent: of the buffer only the kept bytes count
abbrev pub machine_of : Pieces → List ℕ → Machine
machine_of pieces buffer = record { kept = take pieces.kept buffer; dropping = pieces.dropping; next = pieces.next.0 }

-- and as it is handed back: the kept bytes stand in the buffer
abbrev pub pieces_of : Machine → Pieces
pieces_of s = record { kept = length s.kept; dropping = s.dropping; next = record { 0 = s.next } }

-- what is lent hangs together, and the machine can go on: the buffer has 4,098 bytes or more; at most 4,097 are kept; none while dropping;
-- and no linefeed is among them. `Callers` shows that a call leaves it so.
unfoldable pub ready : Pieces → List ℕ → Bool
ready pieces buffer =
    line_limit at_most length buffer
    && pieces.kept at_most line_limit - 1
    && (if pieces.dropping then pieces.kept is 0 else unbroken (take pieces.kept buffer))

abbrev pub call_checks : Pieces → (buffer piece : List ℕ) → (place : ℕ) → List Check
call_checks pieces buffer piece place =
    (ready pieces buffer else Broken)
    ∷ (place at_most length piece else Framing)
    ∷ []

unfoldable pub eating : Pieces → (buffer piece : List ℕ) → (place : ℕ) → Verdict First
eating pieces buffer piece place =
    checked (call_checks pieces buffer piece place) (taken (first (machine_of pieces buffer) (drop place piece)))

-- the number of an S; 0 is none
abbrev pub told_number : ℕ → Option Sequence
told_number n = if n is 0 then None else Some (record { 0 = n })

-- the answer that is returned; the place is where the bytes that are left begin
abbrev pub returned : (piece : List ℕ) → First → Taken
returned piece (used_up s) = takes.UsedUp (pieces_of s)
returned piece (given (packet d p number) s left) = takes.Packet (packet_of p) (told_number number) (length d)
    (length piece - length left) (pieces_of s)
returned piece (given (refusal d why) s left) = takes.Unfit why (length d) (length piece - length left) (pieces_of s)

-- what stands at the buffer's start: what is handed out, or else what is kept
abbrev pub at_start : First → List ℕ
at_start (used_up s) = s.kept
at_start (given y s left) = yield_bytes y

-- the answer r, and every byte of the buffer; `Callers` shows what a caller gets by it who goes on until the piece is used up
pub record Returned (verdict : Verdict First) (buffer piece : List ℕ) (r : Verdict Taken) (left : List ℕ) : Type 0 where
  pub answer : r ≡ verdict told_by returned piece
  pub bytes : left ≡ left_of (verdict into λ f. taken (at_start f)) buffer
