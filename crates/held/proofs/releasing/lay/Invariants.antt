use Prim.Native.Nat.{◌+◌}
use mathlib.Core.Path.{◌≡◌}
use lib.ListN.{length}
use lib.Seq.{sets}
use Rattle.blocks.specs.Blocks.{frames}
use Rattle.held.specs.Releasing.{held_from}
use Rattle.held.proofs.releasing.lay.Given as goal

abbrev pub invariant-loop-ahead : goal.invariant-loop-ahead
invariant-loop-ahead l =
    (l.out ≡ sets l.initial.out l.at (frames (held_from l.ahead l.area l.number)))
    × (l.to ≡ l.at + length (frames (held_from l.ahead l.area l.number)))
