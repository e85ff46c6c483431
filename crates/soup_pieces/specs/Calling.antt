-- What a caller is handed who feeds one piece after another and calls until each is used up, whatever the entry's contract allows.
-- Assumes nothing.
use Rattle.std.specs.Prelude.{ℕ, suc, List, [], ◌∷◌, ◌++◌, take, Option, None, Some}
use Rattle.wire.specs.Checks.{Verdict, taken}
use Rattle.wire.specs.declared.refusal.Refusal.{Refusal}
use Rattle.soup.specs.Reading.{packet_of}
use Rattle.soup.specs.declared.reading.Reading.{Reading}
use Rattle.wire.specs.declared.kinds.Sequence.{Sequence}
use Rattle.soup_pieces.specs.Machine.{Machine, Yield, packet, refusal}
use Rattle.soup_pieces.specs.Eating.{machine_of, eating, Returned}
use Rattle.soup_pieces.specs.declared.Pieces.{Pieces}
use Rattle.soup_pieces.specs.declared.Taken.{Taken}
use Rattle.soup_pieces.specs.declared.Taken.TheVariants as takes

-- what is handed from call to call
pub record Lent : Type 0 where
  pub pieces : Pieces
  pub buffer : List ℕ

abbrev pub machine_in : Lent → Machine
machine_in l = machine_of l.pieces l.buffer

-- which answers an entry allows, and which bytes in the buffer afterwards, for what is lent, a piece and a place in it
abbrev pub Entry : Type 1
Entry = Lent → (piece : List ℕ) (place : ℕ) → Verdict Taken → (left : List ℕ) → Type 0

-- those that the contract of `take` permits
abbrev pub Permitted : Entry
Permitted l piece place r left = Returned (eating l.pieces l.buffer piece place) l.buffer piece r left

-- the number of a packet, 0 for one that has none
abbrev pub number_in : Option Sequence → ℕ
number_in None = 0
number_in (Some number) = number.0

-- what a caller is handed: a packet's bytes, what is said of it and its number, or a refused packet's bytes and why
pub data Seen : Type 0 where
  a_packet : (bytes : List ℕ) (says : Reading) (number : ℕ) → Seen
  a_refusal : (bytes : List ℕ) (why : Refusal) → Seen

abbrev pub seen : List Yield → List Seen
seen [] = []
seen (packet d p number ∷ hs) = a_packet d (packet_of p) number ∷ seen hs
seen (refusal d why ∷ hs) = a_refusal d why ∷ seen hs

-- calling from a place on, and on from the place in each answer, until the piece is used up
pub data Calls (entry : Entry) (piece : List ℕ) : Lent → ℕ → List Seen → Lent → Type 0 where
  uses_up : (l : Lent) (place : ℕ) (after : Pieces) (left : List ℕ) → entry l piece place (taken (takes.UsedUp after)) left
      → Calls entry piece l place [] (record { pieces = after; buffer = left })
  hands : (l : Lent) (place : ℕ) (says : Reading) (number : Option Sequence) (bytes next : ℕ)
      (after : Pieces) (left : List ℕ) (more : List Seen)
      (end : Lent)
      → entry l piece place (taken (takes.Packet says number bytes next after)) left
      → Calls entry piece (record { pieces = after; buffer = left }) next more end
      → Calls entry piece l place (a_packet (take bytes left) says (number_in number) ∷ more) end
  refuses : (l : Lent) (place : ℕ) (why : Refusal) (bytes next : ℕ) (after : Pieces) (left : List ℕ) (more : List Seen) (end : Lent)
      → entry l piece place (taken (takes.Unfit why bytes next after)) left
      → Calls entry piece (record { pieces = after; buffer = left }) next more end
      → Calls entry piece l place (a_refusal (take bytes left) why ∷ more) end

-- so many calls from a place on, none of which has used the piece up, and what is lent then and the place to go on from
pub data Underway (entry : Entry) (piece : List ℕ) : Lent → ℕ → (calls : ℕ) → Lent → ℕ → Type 0 where
  begun : (l : Lent) (place : ℕ) → Underway entry piece l place 0 l place
  handing : (l : Lent) (place : ℕ) (says : Reading) (number : Option Sequence) (bytes next : ℕ) (after : Pieces) (left : List ℕ)
      (calls : ℕ) (then : Lent) (at : ℕ)
      → entry l piece place (taken (takes.Packet says number bytes next after)) left
      → Underway entry piece (record { pieces = after; buffer = left }) next calls then at
      → Underway entry piece l place (suc calls) then at
  refusing : (l : Lent) (place : ℕ) (why : Refusal) (bytes next : ℕ) (after : Pieces) (left : List ℕ) (calls : ℕ) (then : Lent) (at : ℕ)
      → entry l piece place (taken (takes.Unfit why bytes next after)) left
      → Underway entry piece (record { pieces = after; buffer = left }) next calls then at
      → Underway entry piece l place (suc calls) then at

-- calling until each piece is used up, one after another
pub data Feeds (entry : Entry) : Lent → List (List ℕ) → List Seen → Lent → Type 0 where
  done : (l : Lent) → Feeds entry l [] [] l
  feeds : (l : Lent) (piece : List ℕ) (pieces : List (List ℕ)) (some more : List Seen) (then end : Lent)
      → Calls entry piece l 0 some then
      → Feeds entry then pieces more end
      → Feeds entry l (piece ∷ pieces) (some ++ more) end

-- the bytes of all the pieces
abbrev pub joined : List (List ℕ) → List ℕ
joined [] = []
joined (piece ∷ pieces) = piece ++ joined pieces
