-- The callers' laws over the contract of `take` as it is generated from the source: whatever outcomes it allows, the same bytes cut
-- elsewhere give the same, and calling comes to an end. What it ensures is just what `FlatPermitted` says.
-- Assumes nothing.
use Prim.Native.Nat.{ℕ, ◌+◌, ◌≤◌}
use mathlib.Core.Path.{◌≡◌, refl}
use mathlib.Core.Bool.{true}
use mathlib.Core.List.{List, []}
use lib.ListN.{length}
use borrow.Author.Tests.{le-leb}
use borrow.Fn.Kinds.{Dens, ended_of}
use contract.Lifetimes.{Lfts}
use denote.Ref.{Bor}
use denote.MutBor.{MutBor}
use denote.Triple.Clauses.{AtExit}
use Rattle.soup.specs.Packet.{line_limit}
use Rattle.soup.specs.Read.{unbroken}
use Rattle.soup_pieces.specs.Eating.{ready}
use Rattle.soup_pieces.specs.Calling.{Lent, machine_in, joined}
use Rattle.soup_pieces.proofs.Callers.{Ready}
use Rattle.flat.specs.Flag.{is_flag}
use Rattle.flat_pieces.specs.Calling.{FlatLent, lent_of, FlatEntry, FlatPermitted, FlatSeen, FlatUnderway, FlatFeeds}
use Rattle.flat_pieces.specs.declared.FlatPiece.{FlatPiece}
use Rattle.flat_pieces.proofs.Callers.{Unrefused, never-refused, Flat-eaten-up, fed-is-eaten, cut-anywhere, program-calls-few}
use Rattle.flat_pieces.proofs.Callers.{flat_lent, program-ends}
use Rattle.flat_pieces.proofs.take.Kinds as take
use Rattle.flat_pieces.proofs.take.Reads as take-reads

-- an answer and a buffer that `take` may leave: the arguments are those given, and the contract ensures the rest
abbrev pub FlatEnsured : FlatEntry
FlatEnsured l piece place r left =
    (κs : Lfts 2)
    × (a : Dens κs take.ps)
    × (e : AtExit (ended_of 2 take.ps take.r) κs)
    × (a.0 ≡ l.pieces)
    × (a.1.0.now ≡ l.buffer)
    × (a.1.1.0.now ≡ piece)
    × (a.1.1.1.0 ≡ place)
    × (e.1.0.now ≡ left)
    × take-reads.Post κs a r e

ensured-permitted : (l : FlatLent) (piece : List ℕ) (place : ℕ) (r : FlatPiece) (left : List ℕ) → FlatEnsured l piece place r left
    → FlatPermitted l piece place r left
ensured-permitted l piece place r left x = rw (← x.3, ← x.4, ← x.5, ← x.6, ← x.7) x.8

-- references to the bytes that are lent, wherever they may lie: to read, and to write
abbrev refers : List ℕ → Bor (List ℕ)
refers s = record { ref_ptr = (0, 0); now = s }

abbrev lends : List ℕ → MutBor (List ℕ)
lends s = record { ref_ptr = (0, 0); ghost_name = 0; now = s }

-- and whatever is permitted, the contract ensures of some arguments
permitted-ensured : (l : FlatLent) (piece : List ℕ) (place : ℕ) (r : FlatPiece) (left : List ℕ) → FlatPermitted l piece place r left
    → FlatEnsured l piece place r left
permitted-ensured l piece place r left a = (
  ([], ([], tt)),
  (l.pieces, (lends l.buffer, (refers piece, (place, tt)))),
  (l.pieces, (lends left, (refers piece, (place, tt)))),
  refl,
  refl,
  refl,
  refl,
  refl,
  a,
)

-- to begin with all is 0, and the buffer has 4,098 bytes or more
abbrev pub zeros : List ℕ → FlatLent
zeros buffer = record { pieces = record { kept = 0; dropping = 0; next = 0 }; buffer = buffer }

pub begins : (buffer : List ℕ) → line_limit ≤ length buffer → Ready (lent_of (zeros buffer))
unfolding ready unbroken
begins buffer h = rw (le-leb 4098 (length buffer) h)

-- a program is handed what the machine hands out for the bytes that it fed
pub fed-by-contract : (l : FlatLent) (pieces : List (List ℕ)) (saw : List FlatSeen) (end : FlatLent) → Ready (lent_of l)
    → FlatFeeds FlatEnsured l pieces saw end → Flat-eaten-up l (joined pieces) saw end
fed-by-contract = fed-is-eaten FlatEnsured ensured-permitted

pub cut-elsewhere : (l m : FlatLent) (pieces others : List (List ℕ)) (saw got : List FlatSeen) (end last : FlatLent)
    → Ready (lent_of l)
    → Ready (lent_of m)
    → machine_in (lent_of l) ≡ machine_in (lent_of m)
    → joined pieces ≡ joined others
    → FlatFeeds FlatEnsured l pieces saw end
    → FlatFeeds FlatEnsured m others got last
    → (saw ≡ got) × (machine_in (lent_of end) ≡ machine_in (lent_of last))
cut-elsewhere = cut-anywhere FlatEnsured ensured-permitted

-- ---- calling comes to an end

pub not-refused : (l : FlatLent) (piece : List ℕ) (place : ℕ) (r : FlatPiece) (left : List ℕ)
    → is_flag l.pieces.dropping ≡ true
    → Ready (lent_of l)
    → place ≤ length piece
    → FlatEnsured l piece place r left
    → Unrefused r
not-refused l piece place r left f h p a = never-refused l piece place r left f h p (ensured-permitted l piece place r left a)

-- whatever the answers are: so many calls that none of them was refused or has used the piece up are no more than the bytes that were left
pub few-calls : (piece : List ℕ) (l : FlatLent) (place calls : ℕ) (last : FlatLent) (at : ℕ) → Ready (lent_of l) → place ≤ length piece
    → FlatUnderway FlatEnsured piece l place calls last at → (place + calls ≤ at) × (at ≤ length piece) × Ready (lent_of last)
few-calls = program-calls-few FlatEnsured ensured-permitted

-- and there are answers: every piece can be fed until it is used up
pub calling-ends : (l : Lent) (pieces : List (List ℕ)) → Ready l
    → (saw : List FlatSeen) × (end : FlatLent) × FlatFeeds FlatEnsured (flat_lent l) pieces saw end
calling-ends = program-ends FlatEnsured permitted-ensured
