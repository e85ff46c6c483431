-- Message blocks: a length of two bytes and as many bytes of data, one after the other.
-- Assumes nothing.
use Rattle.std.specs.Prelude.{ℕ, zero, suc, ◌+◌, ◌^◌, ◌<◌, List, [], ◌∷◌, ◌++◌, Bool, true, false, not, ◌&&◌, length, take, drop}
use Rattle.std.specs.Prelude.{if◌then◌else◌}
use Rattle.wire.specs.Fields.{be, bytes_of}
use Rattle.wire.specs.Checks.{◌is◌, ◌at_most◌, Verdict, refused, taken}
use Rattle.wire.specs.declared.refusal.Refusal.TheVariants.{Framing}
use Rattle.blocks.specs.declared.Block.{Block}

-- a message as a block, and messages as blocks one after the other
abbrev pub frame : List ℕ → List ℕ
frame m = bytes_of 2 (length m) ++ m

unfoldable pub frames : List (List ℕ) → List ℕ
frames [] = []
frames (m ∷ ms) = frame m ++ frames ms

-- the length that the block at the front of s states
abbrev pub stated : List ℕ → ℕ
stated s = be 2 s

-- all of that block is there
abbrev pub there : List ℕ → Bool
there s = 2 + stated s at_most length s

-- its message, and what follows it
abbrev pub first : List ℕ → List ℕ
first s = take (stated s) (drop 2 s)

abbrev pub rest : List ℕ → List ℕ
rest s = drop (2 + stated s) s

-- bytes read as blocks: torn, or the messages
pub data Cut : Type 0 where
  torn : Cut
  whole : List (List ℕ) → Cut

abbrev pub before : List ℕ → Cut → Cut
before m torn = torn
before m (whole ms) = whole (m ∷ ms)

-- exactly n blocks that end where s ends. `Cutting`: what was framed is cut into its messages (`cut-frames`), and what was cut, framed
-- again, is the same bytes (`frames-cut`)
unfoldable pub cut : ℕ → List ℕ → Cut
cut zero [] = whole []
cut zero (x ∷ s) = torn
cut (suc n) s = if there s then before (first s) (cut n (rest s)) else torn

-- fewer than n blocks that end where s ends, none of them empty
unfoldable pub cut_full : ℕ → List ℕ → Cut
cut_full zero s = torn
cut_full (suc n) s =
    if length s is 0 then whole [] else
    if not (there s) then torn else
    if stated s is 0 then torn else
    before (first s) (cut_full n (rest s))

-- an upstream packet: one or more blocks, none of them empty. There are fewer of them than bytes. `Cutting` again: `upstream-frames`,
-- `frames-upstream`
abbrev pub upstream : List ℕ → Cut
upstream s = if length s is 0 then torn else cut_full (suc (length s)) s

abbrev pub is_whole : Cut → Bool
is_whole torn = false
is_whole (whole ms) = true

abbrev pub messages_of : Cut → List (List ℕ)
messages_of torn = []
messages_of (whole ms) = ms

-- how many
abbrev pub count_of : Cut → Verdict ℕ
count_of torn = refused Framing
count_of (whole ms) = taken (length ms)

-- the place where the block at p ends
abbrev pub end_at : List ℕ → ℕ → ℕ
end_at s p = p + 2 + stated (drop p s)

-- the block at p, if all of it is there
abbrev pub block_at : List ℕ → ℕ → Verdict Block
block_at s p =
    if end_at s p at_most length s
    then taken (record { start = p + 2; length = stated (drop p s); next = end_at s p })
    else refused Framing

-- exactly n blocks stand from p to the very end; that is, the place after n of them is the end (`Filling.fills-by-place`)
abbrev pub fills : List ℕ → ℕ → ℕ → Bool
fills s p n = p at_most length s && is_whole (cut n (drop p s))

-- the place after k blocks from p on, if they are there; what follows it is the other blocks (`Skipping.skipped`)
unfoldable pub place_after : ℕ → List ℕ → ℕ → Verdict ℕ
place_after zero s p = if p at_most length s then taken p else refused Framing
place_after (suc k) s p = if end_at s p at_most length s then place_after k s (end_at s p) else refused Framing

-- every message is so
abbrev pub Each : (List ℕ → Type 0) → List (List ℕ) → Type 0
Each P [] = Unit
Each P (m ∷ ms) = P m × Each P ms

-- a message whose length two bytes can state, and one that is not empty
abbrev pub Short : List ℕ → Type 0
Short m = length m < 2 ^ 16

abbrev pub Full : List ℕ → Type 0
Full m = 0 < length m
