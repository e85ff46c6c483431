-- Of the buffer only the kept bytes count; and an empty piece changes nothing.
-- Assumes nothing.
use Prim.Native.Nat.{ℕ, ◌≤◌}
use mathlib.Core.Path.{◌≡◌, ◌∙◌}
use mathlib.Core.List.{List}
use native.Mathlib.Omega.{arith}
use lib.ListN.{length, take, take-append-drop}
use lib.Seq.{drop-length}
use borrow.Author.Tests.{le-leb}
use Rattle.wire.specs.Checks.{Verdict, taken}
use Rattle.soup_pieces.specs.Machine.{first}
use Rattle.soup_pieces.specs.Eating.{ready, eating}
use Rattle.soup_pieces.specs.Calling.{Lent, Permitted}
use Rattle.soup_pieces.specs.declared.Pieces.{Pieces}
use Rattle.soup_pieces.specs.declared.Taken.{Taken}
use Rattle.soup_pieces.specs.declared.Taken.TheVariants as takes
use Rattle.soup_pieces.proofs.Ready.{ready-says, length-kept}
use Rattle.soup_pieces.proofs.Takes.{goes_on}
use Rattle.soup_pieces.proofs.Callers.{Ready}

-- two buffers that are long enough, with the same bytes kept, whatever stands behind them
pub only-kept-count : (pieces : Pieces) (buffer other piece : List ℕ) (place : ℕ) → 4098 ≤ length buffer → 4098 ≤ length other
    → take pieces.kept buffer ≡ take pieces.kept other → eating pieces buffer piece place ≡ eating pieces other piece place
unfolding eating ready
only-kept-count pieces buffer other piece place h k e = rw (le-leb 4098 (length buffer) h, le-leb 4098 (length other) k, e)

-- nothing is left of the piece, as of an empty one from the first
pub nothing-changes : (l : Lent) (piece : List ℕ) (r : Verdict Taken) (left : List ℕ) → Ready l → Permitted l piece (length piece) r left
    → (r ≡ taken (takes.UsedUp l.pieces)) × (left ≡ l.buffer)
unfolding first
nothing-changes l piece r left h a =
    let e = goes_on l.pieces l.buffer piece (length piece) h (omega arith) in
    let n = length-kept l.pieces l.buffer (ready-says l.pieces l.buffer h) in
    (a.answer ∙ rw (e, drop-length piece, n), a.bytes ∙ rw (e, drop-length piece, n) (take-append-drop l.pieces.kept l.buffer))
