-- What the room answers, told of the flat answer.
-- Assumes nothing.
use Prim.Native.Nat.{ℕ}
use mathlib.Core.Path.{◌≡◌, refl, ◌∙◌}
use mathlib.Core.List.{List}
use lib.ListN.{length, take, drop}
use lib.Seq.{take-append_seam}
use Rattle.wire.specs.Checks.{Verdict, refused, taken, ◌into◌, ◌told_by◌}
use Rattle.wire.specs.Refusals.{number_of}
use Rattle.wire.specs.Reply.{left_of}
use Rattle.soup_pieces.specs.Machine.{packet, refusal, First, used_up, given}
use Rattle.soup_pieces.specs.Eating.{returned, at_start, Returned}
use Rattle.soup_pieces.specs.Calling.{number_in}
use Rattle.soup_pieces.specs.declared.Taken.{Taken}
use Rattle.soup_pieces.proofs.Callers.{number-again}
use Rattle.soup_pieces.specs.declared.Taken.TheVariants as takes
use Rattle.flat_packet.specs.Packets.{nothing}
use Rattle.flat_soup.specs.Reading.{soup_read}
use Rattle.flat_pieces.specs.Taking.{flat_pieces, flat_taken, FlatAnswered}
use Rattle.flat_pieces.specs.declared.FlatPieces.{FlatPieces}
use Rattle.flat_pieces.specs.declared.FlatPiece.{FlatPiece}

-- the room's answer laid flat, with the buffer that it left
abbrev pub flat_of : FlatPieces → (piece left : List ℕ) → Verdict Taken → FlatPiece
flat_of lent piece left (refused why) =
    record { refusal = number_of why; place = 0; what = 0; why = 0; number = 0; bytes = 0; packet = nothing; pieces = lent }
flat_of lent piece left (taken (takes.UsedUp after)) =
    record { refusal = 0; place = length piece; what = 0; why = 0; number = 0; bytes = 0; packet = nothing; pieces = flat_pieces after }
flat_of lent piece left (taken (takes.Packet says number bytes place after)) =
    record {
      refusal = 0;
      place = place;
      what = 1;
      why = 0;
      number = number_in number;
      bytes = bytes;
      packet = (soup_read (take bytes left)).packet;
      pieces = flat_pieces after;
    }
flat_of lent piece left (taken (takes.Unfit why bytes place after)) =
    record {
      refusal = 0;
      place = place;
      what = 2;
      why = number_of why;
      number = 0;
      bytes = bytes;
      packet = nothing;
      pieces = flat_pieces after;
    }

-- it is the verdict's: what is handed out stands at the buffer's start
pub same-flat : (lent : FlatPieces) (buffer piece : List ℕ) (v : Verdict First)
    → flat_of lent piece (left_of (v into λ f. taken (at_start f)) buffer) (v told_by returned piece) ≡ flat_taken lent piece v
same-flat lent buffer piece (refused why) = refl
same-flat lent buffer piece (taken (used_up s)) = refl
same-flat lent buffer piece (taken (given (packet d p number) s rest)) =
    rw (number-again number, take-append_seam d (drop (length d) buffer))
same-flat lent buffer piece (taken (given (refusal d why) s rest)) = refl

pub flattens : {v : Verdict First} {lent : FlatPieces} {buffer piece left : List ℕ} {r : Verdict Taken} {flat : FlatPiece}
    → Returned v buffer piece r left
    → flat ≡ flat_of lent piece left r
    → FlatAnswered v lent buffer piece flat left
flattens {v} {lent} {buffer} {piece} a e =
    record { answer = e ∙ rw (a.answer, a.bytes) (same-flat lent buffer piece v); bytes = a.bytes }
