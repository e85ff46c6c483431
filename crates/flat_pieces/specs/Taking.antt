-- SoupTCP as it comes off the wire, laid flat: what is answered to a piece, and what is left in the buffer.
-- Assumes nothing.
use Rattle.std.specs.Prelude.{ℕ, ◌-◌, ◌≡◌, List, [], ◌∷◌, length}
use Rattle.wire.specs.Checks.{Verdict, refused, taken, ◌else◌, checked, ◌into◌}
use Rattle.wire.specs.Reply.{left_of}
use Rattle.wire.specs.Refusals.{number_of}
use Rattle.wire.specs.declared.refusal.Refusal.TheVariants.{Broken}
use Rattle.soup_pieces.specs.Machine.{Machine, packet, refusal, First, used_up, given}
use Rattle.soup_pieces.specs.Eating.{pieces_of as handed_back, eating, at_start}
use Rattle.soup_pieces.specs.declared.Pieces.{Pieces}
use Rattle.flat.specs.Flag.{is_flag, says, byte_of}
use Rattle.flat_packet.specs.Packets.{nothing}
use Rattle.flat_soup.specs.Reading.{soup_read}
use Rattle.flat_pieces.specs.declared.FlatPieces.{FlatPieces}
use Rattle.flat_pieces.specs.declared.FlatPiece.{FlatPiece}

-- the pieces that flat ones are
abbrev pub pieces_of : FlatPieces → Pieces
pieces_of p = record { kept = p.kept; dropping = says p.dropping; next = record { 0 = p.next } }

-- and back; `FlatAndBack` shows that nothing is lost
abbrev pub flat_pieces : Pieces → FlatPieces
flat_pieces p = record { kept = p.kept; dropping = byte_of p.dropping; next = p.next.0 }

-- the same of a state as the room hands it back
abbrev pub flat_machine : Machine → FlatPieces
flat_machine s = flat_pieces (handed_back s)

-- the entry: a flag that is none is 10, before all else
abbrev pub take_verdict : FlatPieces → (buffer piece : List ℕ) (place : ℕ) → Verdict First
take_verdict lent buffer piece place = checked ((is_flag lent.dropping else Broken) ∷ []) (eating (pieces_of lent) buffer piece place)

-- where the call is refused, the pieces that were lent; the place is where the bytes that are left begin; a packet's fields are those that
-- the reader gives
abbrev pub flat_taken : FlatPieces → (piece : List ℕ) → Verdict First → FlatPiece
flat_taken lent piece (refused why) =
    record { refusal = number_of why; place = 0; what = 0; why = 0; number = 0; bytes = 0; packet = nothing; pieces = lent }
flat_taken lent piece (taken (used_up s)) =
    record { refusal = 0; place = length piece; what = 0; why = 0; number = 0; bytes = 0; packet = nothing; pieces = flat_machine s }
flat_taken lent piece (taken (given (packet d p number) s left)) =
    record {
      refusal = 0;
      place = length piece - length left;
      what = 1;
      why = 0;
      number = number;
      bytes = length d;
      packet = (soup_read d).packet;
      pieces = flat_machine s;
    }
flat_taken lent piece (taken (given (refusal d why) s left)) =
    record {
      refusal = 0;
      place = length piece - length left;
      what = 2;
      why = number_of why;
      number = 0;
      bytes = length d;
      packet = nothing;
      pieces = flat_machine s;
    }

-- the answer r, and every byte of the buffer; `Flattening` shows that it is the room's answer laid flat
pub record FlatAnswered (v : Verdict First) (lent : FlatPieces) (buffer piece : List ℕ) (r : FlatPiece) (left : List ℕ) : Type 0 where
  pub answer : r ≡ flat_taken lent piece v
  pub bytes : left ≡ left_of (v into λ f. taken (at_start f)) buffer
