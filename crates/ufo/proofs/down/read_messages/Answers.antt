-- `read_messages` meets its contract: of messages that were taken there are as many as blocks were counted.
use Prim.Native.Nat.{◌+◌, ◌≤◌}
use mathlib.Core.Path.{◌≡◌, ◌∙◌}
use mathlib.Core.Bool.{true}
use native.Mathlib.Omega.{arith}
use borrow.Author.Tests.{le-leb, ne_eqb, not-false}
use lib.ListN.{length, drop}
use Rattle.blocks.specs.Blocks.{is_whole}
use Rattle.blocks.proofs.Counting.{fills-says, count_cut}
use Rattle.ufo.specs.Down.{read_s, blocks_s}
use Rattle.ufo.proofs.down.read_messages.Goals as goal

pub returns : goal.returns
unfolding read_s
returns c =
    let d = c.args.d.now in
    let first = c.get4-first.result in
    let count = c.get2-count.result in
    let whole : is_whole (blocks_s d) ≡ true = rw (← c.get2-count.ensures) (fills-says d 7 count _ c.if-d-lt7.false c.exactly.ensures)
    ∙ not-false c.exactly.result c.if-not-exactly.false-raw in
    let bound : first + count ≤ 4294967295 = omega arith in
    rw (
      le-leb 7 (length d) (omega arith),
      whole,
      ← c.get4-first.ensures,
      ne_eqb first 0 c.if-first-eq0.false,
      ← c.get2-count.ensures,
      le-leb (first + count) 4294967295 bound,
      count_cut count (drop 7 d) (rw c.get2-count.ensures whole),
    )
