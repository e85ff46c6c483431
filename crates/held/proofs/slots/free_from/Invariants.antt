use mathlib.Core.Path.{◌≡◌}
use Rattle.held.specs.Slots.{freed_from}
use Rattle.held.proofs.slots.free_from.Given as goal

abbrev pub invariant-loop-ahead : goal.invariant-loop-ahead
invariant-loop-ahead l = l.kept ≡ freed_from l.ahead l.held l.number
