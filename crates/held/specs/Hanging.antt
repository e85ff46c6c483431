-- When a bitmap hangs together with N and T, and an area with its bitmap.
-- Assumes nothing.
use Rattle.std.specs.Prelude.{ℕ, zero, suc, ◌+◌, List, Bool, true, not, ◌&&◌, ◌||◌, length}
use Rattle.wire.specs.Checks.{◌at_most◌}
use Rattle.blocks.specs.Blocks.{stated}
use Rattle.held.specs.Slots.{area_size, longest, is_full, full, slot_at}

-- all numbers below n are so
unfoldable pub every : ℕ → (ℕ → Bool) → Bool
every zero p = true
every (suc n) p = p n && every n p

-- the slot of the message d after N is free; or it is not N's own, and the message is not above T
abbrev pub placed : (held next top d : ℕ) → Bool
placed held next top d = not (full held (next + d)) || (1 at_most d && next + d at_most top)

-- a full slot stands for one of N+1 to N+31, and not for one above T; Hangs.in_place_lem and in-place-so say it number by number
unfoldable pub in_place : (held next top : ℕ) → Bool
in_place held next top = every 32 (placed held next top)

-- slot i is free, or states a length that it has room for
abbrev pub fits : ℕ → List ℕ → ℕ → Bool
fits held area i = not (is_full held i) || stated (slot_at area i) at_most longest

-- the area has 32 slots, and every full one fits; Hangs.sound-fits and fits-sound say it slot by slot
unfoldable pub sound : ℕ → List ℕ → Bool
sound held area = area_size at_most length area && every 32 (fits held area)
