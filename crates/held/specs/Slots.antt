-- The held area: 32 slots of 1,472 bytes for messages that came early, and a bitmap that says which of them are full.
-- Assumes nothing.
use Rattle.std.specs.Prelude.{ℕ, zero, suc, ◌+◌, ◌-◌, ◌*◌, ◌/◌, ◌%◌, ◌^◌, List, Bool, drop, if◌then◌else◌}
use Rattle.wire.specs.Checks.{◌is◌}
use Rattle.blocks.specs.Blocks.{first}

--            0        1,472    2,944            1,472 i                   45,632    47,104
--   area     | slot 0 | slot 1 |       ..       | slot i |       ..       | slot 31 |
--                                             /            \
--   slot i             | n, 2 bytes | message m, n bytes | free, 1,470 - n bytes |     n at most 1,470, and i is m mod 32
--
--   bitmap   bit i is 1 where slot i is full: a message lies there that has yet to go out; what lies in any other is not looked at

-- 32 slots of 1,472 bytes
abbrev pub area_size : ℕ
area_size = 47104

-- a slot's first two bytes state a length; this many can follow
abbrev pub longest : ℕ
longest = 1470

-- message m has slot m mod 32; Bitmap.slots_apart: messages fewer than 32 apart have slots apart
abbrev pub slot_of : ℕ → ℕ
slot_of m = m % 32

-- slot i is full where bit i of the bitmap is 1
abbrev pub is_full : ℕ → ℕ → Bool
is_full held i = held / 2 ^ i % 2 is 1

-- the slot of message m is full
abbrev pub full : ℕ → ℕ → Bool
full held m = is_full held (slot_of m)

-- the bitmap with slot i full, and with slot i free; Bitmap.full-filled, full-freed: the others stay as they are
abbrev pub filled : ℕ → ℕ → ℕ
filled held i = if is_full held i then held else held + 2 ^ i

abbrev pub freed : ℕ → ℕ → ℕ
freed held i = if is_full held i then held - 2 ^ i else held

-- the slots of the k messages from number m on fall free; Bitmap.freed-gone, freed-stays: these slots, and no others
unfoldable pub freed_from : ℕ → ℕ → ℕ → ℕ
freed_from zero held m = held
freed_from (suc k) held m = freed_from k (freed held (slot_of m)) (suc m)

-- the area from slot i on
abbrev pub slot_at : List ℕ → ℕ → List ℕ
slot_at area i = drop (1472 * i) area

-- the message whose block starts the slot of message m; Areas.stored-message: what was laid there
abbrev pub held_message : List ℕ → ℕ → List ℕ
held_message area m = first (slot_at area (slot_of m))
