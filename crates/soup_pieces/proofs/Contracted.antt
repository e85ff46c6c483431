-- The callers' laws over the contract of `take` as it is generated from the source: whatever outcomes it allows, the same bytes cut
-- elsewhere give the same, and calling comes to an end. What it ensures is just what `Permitted` says.
-- Assumes nothing.
use Prim.Native.Nat.{ℕ, ◌+◌, ◌≤◌}
use mathlib.Core.Path.{◌≡◌, refl}
use mathlib.Core.List.{List, []}
use lib.ListN.{length}
use borrow.Fn.Kinds.{Dens, ended_of}
use contract.Lifetimes.{Lfts}
use denote.Ref.{Bor}
use denote.MutBor.{MutBor}
use denote.Triple.Clauses.{AtExit}
use Rattle.wire.specs.Checks.{Verdict, refused}
use Rattle.wire.specs.declared.refusal.Refusal.{Refusal}
use Rattle.soup_pieces.specs.Calling.{Lent, machine_in, Entry, Permitted, Seen, Underway, Feeds, joined}
use Rattle.soup_pieces.specs.declared.Taken.{Taken}
use Rattle.soup_pieces.proofs.Callers.{Ready, never-refused, Eaten-up, feeds-eat, cut-anywhere, calls-are-few, feeding-ends}
use Rattle.soup_pieces.proofs.take.Kinds as take
use Rattle.soup_pieces.proofs.take.Reads as take-reads

-- an answer and a buffer that `take` may leave: the arguments are those given, and the contract ensures the rest
abbrev pub Ensured : Entry
Ensured l piece place r left =
    (κs : Lfts 2)
    × (a : Dens κs take.ps)
    × (e : AtExit (ended_of 2 take.ps take.r) κs)
    × (a.0 ≡ l.pieces)
    × (a.1.0.now ≡ l.buffer)
    × (a.1.1.0.now ≡ piece)
    × (a.1.1.1.0 ≡ place)
    × (e.1.0.now ≡ left)
    × take-reads.Post κs a r e

pub ensured-permitted : (l : Lent) (piece : List ℕ) (place : ℕ) (r : Verdict Taken) (left : List ℕ) → Ensured l piece place r left
    → Permitted l piece place r left
ensured-permitted l piece place r left x = rw (← x.3, ← x.4, ← x.5, ← x.6, ← x.7) x.8

-- references to the bytes that are lent, wherever they may lie: to read, and to write
abbrev refers : List ℕ → Bor (List ℕ)
refers s = record { ref_ptr = (0, 0); now = s }

abbrev lends : List ℕ → MutBor (List ℕ)
lends s = record { ref_ptr = (0, 0); ghost_name = 0; now = s }

-- and whatever is permitted, the contract ensures of some arguments
pub permitted-ensured : (l : Lent) (piece : List ℕ) (place : ℕ) (r : Verdict Taken) (left : List ℕ) → Permitted l piece place r left
    → Ensured l piece place r left
permitted-ensured l piece place r left a = (
  ([], ([], tt)),
  (l.pieces, (lends l.buffer, (refers piece, (place, tt)))),
  (l.pieces, (lends left, (refers piece, (place, tt)))),
  refl,
  refl,
  refl,
  refl,
  refl,
  a,
)

pub fed-is-eaten : (l : Lent) (pieces : List (List ℕ)) (saw : List Seen) (end : Lent) → Ready l → Feeds Ensured l pieces saw end
    → Eaten-up l (joined pieces) saw end
fed-is-eaten = feeds-eat Ensured ensured-permitted

pub cut-elsewhere : (l m : Lent) (pieces others : List (List ℕ)) (saw got : List Seen) (end last : Lent)
    → Ready l
    → Ready m
    → machine_in l ≡ machine_in m
    → joined pieces ≡ joined others
    → Feeds Ensured l pieces saw end
    → Feeds Ensured m others got last
    → (saw ≡ got) × (machine_in end ≡ machine_in last)
cut-elsewhere = cut-anywhere Ensured ensured-permitted

-- ---- calling comes to an end

-- from a state that hangs together no call inside the piece is refused
pub not-refused : (l : Lent) (piece : List ℕ) (place : ℕ) (why : Refusal) (left : List ℕ) → Ready l → place ≤ length piece
    → Ensured l piece place (refused why) left → ⊥
not-refused l piece place why left h p a = never-refused l piece place why left h p (ensured-permitted l piece place (refused why) left a)

-- whatever the answers are: so many calls that none of them has used the piece up are no more than the bytes that were left of it, so that
-- the one behind them, at the latest, uses it up
pub few-calls : (piece : List ℕ) (l : Lent) (place calls : ℕ) (then : Lent) (at : ℕ) → Ready l → place ≤ length piece
    → Underway Ensured piece l place calls then at → (place + calls ≤ at) × (at ≤ length piece) × Ready then
few-calls = calls-are-few Ensured ensured-permitted

-- and there are answers: every piece can be fed until it is used up
pub calling-ends : (l : Lent) (pieces : List (List ℕ)) → Ready l → (saw : List Seen) × (end : Lent) × Feeds Ensured l pieces saw end
calling-ends = feeding-ends Ensured ensured-permitted permitted-ensured
