-- Holding messages that came early.
-- Assumes nothing.
use Rattle.std.specs.Prelude.{ℕ, suc, ◌+◌, ◌*◌, ◌≡◌, List, [], ◌∷◌, Bool, not, ◌&&◌, length, if◌then◌else◌}
use Rattle.std.proofs.lemmas.List.Edits.{sets}
use Rattle.wire.specs.Checks.{◌at_most◌}
use Rattle.blocks.specs.Blocks.{frame}
use Rattle.held.specs.Slots.{area_size, longest, slot_of, full, filled}

-- the bitmap and the area
pub record Holding : Type 0 where
  pub held : ℕ
  pub area : List ℕ

-- there is a slot for message m: m is one of N+1 to N+31, its slot is free, and it fits there
abbrev pub holdable : (next : ℕ) → Holding → (m : ℕ) → List ℕ → Bool
holdable next h m message =
    next + 1 at_most m
    && m at_most next + 31
    && not (full h.held m)
    && length message at_most longest
    && area_size at_most length h.area

-- its block is laid at its slot's start, and the slot is full; other bytes stay
abbrev pub laid : Holding → (m : ℕ) → List ℕ → Holding
laid h m message = record {
  held = filled h.held (slot_of m);
  area = sets h.area (1472 * slot_of m) (frame message);
}

-- a full slot keeps what it has, and numbers past N+31 are thrown away: Holds.full-kept, past-thrown
unfoldable pub hold_one : (next : ℕ) → Holding → (m : ℕ) → List ℕ → Holding
hold_one next h m message = if holdable next h m message then laid h m message else h

-- messages numbered from m on; Holds.all_new: each under its own number, all-keeps: what was held stays, held-again: once
unfoldable pub hold_all : (next : ℕ) → Holding → (m : ℕ) → List (List ℕ) → Holding
hold_all next h m [] = h
hold_all next h m (message ∷ messages) = hold_all next (hold_one next h m message) (suc m) messages

-- the bitmap r and the bytes left are these
pub record Held (h : Holding) (r : ℕ) (left : List ℕ) : Type 0 where
  pub bitmap : r ≡ h.held
  pub bytes : left ≡ h.area
