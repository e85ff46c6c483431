-- The walker: where it stands once it has handed out the block in front of it.
-- Assumes nothing.
use Rattle.std.specs.Prelude.{ℕ}
use Rattle.blocks.specs.Blocks.{block_at}
use Rattle.blocks.specs.declared.Block.{Block}
use Rattle.wire.specs.Checks.{Verdict, refused, taken}
use Rattle.walker.specs.declared.Walker.{Walker}

-- the place after the block that was found at p; at a refusal that is p itself
abbrev pub after : Verdict Block → ℕ → ℕ
after (refused why) p = p
after (taken block) p = block.next

-- the same datagram, at that place
abbrev pub moved : Walker → Walker
moved w = record { datagram = w.datagram; place = after (block_at w.datagram.now w.place) w.place }
