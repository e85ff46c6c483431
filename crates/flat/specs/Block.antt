-- The data block at a place.
-- Assumes nothing.
use Rattle.std.specs.Prelude.{ℕ, List}
use Rattle.blocks.specs.Blocks.{block_at}
use Rattle.blocks.specs.declared.Block.{Block}
use Rattle.wire.specs.Checks.{Verdict, refused, taken}
use Rattle.wire.specs.Refusals.{number_of}
use Rattle.flat.specs.declared.block.FlatBlock.{FlatBlock}

-- where its data begin, how long they are, and the place after it
abbrev pub flat_block : Verdict Block → FlatBlock
flat_block (refused why) = record { refusal = number_of why; start = 0; length = 0; next = 0 }
flat_block (taken b) = record { refusal = 0; start = b.start; length = b.length; next = b.next }

abbrev pub next_block : List ℕ → ℕ → FlatBlock
next_block bytes place = flat_block (block_at bytes place)
