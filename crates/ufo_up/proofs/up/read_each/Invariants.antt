use Prim.Native.Nat.{◌≤◌}
use Rattle.ufo_up.proofs.UpWalk.{Reached}
use Rattle.ufo_up.proofs.up.read_each.Given as goal

abbrev pub invariant-loop : goal.invariant-loop
invariant-loop l = (l.counter ≤ l.count) × Reached l.d l.at l.counter
