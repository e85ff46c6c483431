-- Steps of laying an answer flat that are functions of their own in the code.
-- Assumes nothing.
use Rattle.std.specs.Prelude.{ℕ}
use Rattle.soup_pieces.specs.declared.Pieces.{Pieces}
use Rattle.flat_packet.specs.Packets.{nothing}
use Rattle.flat_packet.specs.declared.Packet.{Packet}
use Rattle.flat_pieces.specs.Taking.{flat_pieces}
use Rattle.flat_pieces.specs.declared.FlatPieces.{FlatPieces}
use Rattle.flat_pieces.specs.declared.FlatPiece.{FlatPiece}

-- before anything has ended
abbrev pub none_ended : FlatPieces → FlatPiece
none_ended lent = record { refusal = 0; place = 0; what = 0; why = 0; number = 0; bytes = 0; packet = nothing; pieces = lent }

-- the piece is taken up to a place
abbrev pub up_to : FlatPiece → (place what bytes : ℕ) → Pieces → FlatPiece
up_to f place what bytes after =
    record {
      refusal = f.refusal;
      place = place;
      what = what;
      why = f.why;
      number = f.number;
      bytes = bytes;
      packet = f.packet;
      pieces = flat_pieces after;
    }

abbrev pub with_fields : FlatPiece → Packet → FlatPiece
with_fields f fields =
    record {
      refusal = f.refusal;
      place = f.place;
      what = f.what;
      why = f.why;
      number = f.number;
      bytes = f.bytes;
      packet = fields;
      pieces = f.pieces;
    }
