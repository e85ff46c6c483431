-- What a program in C is handed that feeds one piece after another and calls until each is used up, whatever the entry's contract allows.
-- Assumes nothing.
use Rattle.std.specs.Prelude.{ℕ, suc, ◌≡◌, List, [], ◌∷◌, ◌++◌, take}
use Rattle.wire.specs.Refusals.{number_of}
use Rattle.soup_pieces.specs.Machine.{Yield, packet, refusal}
use Rattle.soup_pieces.specs.Calling.{Lent}
use Rattle.flat_packet.specs.declared.Packet.{Packet}
use Rattle.flat_soup.specs.Reading.{soup_read}
use Rattle.flat_pieces.specs.Taking.{pieces_of, take_verdict, FlatAnswered}
use Rattle.flat_pieces.specs.declared.FlatPieces.{FlatPieces}
use Rattle.flat_pieces.specs.declared.FlatPiece.{FlatPiece}

-- what is handed from call to call
pub record FlatLent : Type 0 where
  pub pieces : FlatPieces
  pub buffer : List ℕ

-- the same in the room
abbrev pub lent_of : FlatLent → Lent
lent_of l = record { pieces = pieces_of l.pieces; buffer = l.buffer }

-- which answers an entry allows, and which bytes in the buffer afterwards, for what is lent, a piece and a place in it
abbrev pub FlatEntry : Type 1
FlatEntry = FlatLent → (piece : List ℕ) (place : ℕ) → FlatPiece → (left : List ℕ) → Type 0

-- those that the contract of `take` permits
abbrev pub FlatPermitted : FlatEntry
FlatPermitted l piece place r left = FlatAnswered (take_verdict l.pieces l.buffer piece place) l.pieces l.buffer piece r left

-- what the program is handed: a packet's bytes, fields and number, or a refused packet's bytes and why
pub data FlatSeen : Type 0 where
  a_packet : (bytes : List ℕ) (fields : Packet) (number : ℕ) → FlatSeen
  a_refusal : (bytes : List ℕ) (why : ℕ) → FlatSeen

abbrev pub flat_seen : List Yield → List FlatSeen
flat_seen [] = []
flat_seen (packet d p number ∷ hs) = a_packet d (soup_read d).packet number ∷ flat_seen hs
flat_seen (refusal d why ∷ hs) = a_refusal d (number_of why) ∷ flat_seen hs

-- what is lent to the next call
abbrev pub then : FlatPiece → (left : List ℕ) → FlatLent
then r left = record { pieces = r.pieces; buffer = left }

-- calling from a place on, and on from the place in each answer that is not refused, until `what` is 0
pub data FlatCalls (entry : FlatEntry) (piece : List ℕ) : FlatLent → ℕ → List FlatSeen → FlatLent → Type 0 where
  uses_up : (l : FlatLent) (place : ℕ) (r : FlatPiece) (left : List ℕ)
      → entry l piece place r left
      → r.refusal ≡ 0
      → r.what ≡ 0
      → FlatCalls entry piece l place [] (then r left)
  hands : (l : FlatLent) (place : ℕ) (r : FlatPiece) (left : List ℕ) (more : List FlatSeen) (end : FlatLent)
      → entry l piece place r left
      → r.refusal ≡ 0
      → r.what ≡ 1
      → FlatCalls entry piece (then r left) r.place more end
      → FlatCalls entry piece l place (a_packet (take r.bytes left) r.packet r.number ∷ more) end
  refuses : (l : FlatLent) (place : ℕ) (r : FlatPiece) (left : List ℕ) (more : List FlatSeen) (end : FlatLent)
      → entry l piece place r left
      → r.refusal ≡ 0
      → r.what ≡ 2
      → FlatCalls entry piece (then r left) r.place more end
      → FlatCalls entry piece l place (a_refusal (take r.bytes left) r.why ∷ more) end

-- so many calls from a place on, none of which was refused or has used the piece up, and what is lent then and the place to go on from
pub data FlatUnderway (entry : FlatEntry) (piece : List ℕ) : FlatLent → ℕ → (calls : ℕ) → FlatLent → ℕ → Type 0 where
  begun : (l : FlatLent) (place : ℕ) → FlatUnderway entry piece l place 0 l place
  called : (l : FlatLent) (place : ℕ) (r : FlatPiece) (left : List ℕ) (calls : ℕ) (last : FlatLent) (at : ℕ)
      → entry l piece place r left
      → r.refusal ≡ 0
      → (r.what ≡ 0 → ⊥)
      → FlatUnderway entry piece (then r left) r.place calls last at
      → FlatUnderway entry piece l place (suc calls) last at

-- calling until each piece is used up, one after another
pub data FlatFeeds (entry : FlatEntry) : FlatLent → List (List ℕ) → List FlatSeen → FlatLent → Type 0 where
  done : (l : FlatLent) → FlatFeeds entry l [] [] l
  feeds : (l : FlatLent) (piece : List ℕ) (pieces : List (List ℕ)) (some more : List FlatSeen) (mid end : FlatLent)
      → FlatCalls entry piece l 0 some mid
      → FlatFeeds entry mid pieces more end
      → FlatFeeds entry l (piece ∷ pieces) (some ++ more) end
