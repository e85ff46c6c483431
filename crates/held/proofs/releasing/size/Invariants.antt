use mathlib.Core.Path.{◌≡◌}
use lib.ListN.{length}
use Rattle.blocks.specs.Blocks.{frames}
use Rattle.held.specs.Releasing.{held_from}
use Rattle.held.proofs.releasing.size.Given as goal

abbrev pub invariant-loop-ahead : goal.invariant-loop-ahead
invariant-loop-ahead l = l.bytes ≡ length (frames (held_from l.ahead l.area l.number))
