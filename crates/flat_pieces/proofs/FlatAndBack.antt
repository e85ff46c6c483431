-- Pieces laid flat and taken up again are the same, so that the pieces in an answer, handed to the next call, are those that the room's
-- definition speaks of.
-- Assumes nothing.
use Prim.Native.Nat.{ℕ}
use mathlib.Core.Path.{◌≡◌}
use mathlib.Core.List.{List}
use Rattle.soup_pieces.specs.Eating.{eating}
use Rattle.soup_pieces.specs.declared.Pieces.{Pieces}
use Rattle.flat.proofs.Flags.{flag-again, says-again}
use Rattle.flat_pieces.specs.Taking.{pieces_of, flat_pieces, take_verdict}

pub pieces-again : (p : Pieces) → pieces_of (flat_pieces p) ≡ p
pieces-again p = rw (says-again p.dropping)

-- the call is the room's
pub call-again : (p : Pieces) (buffer piece : List ℕ) (place : ℕ)
    → take_verdict (flat_pieces p) buffer piece place ≡ eating p buffer piece place
call-again p buffer piece place = rw (flag-again p.dropping, says-again p.dropping)
