use Prim.Native.Nat.{◌-◌, ◌≤◌}
use mathlib.Core.Path.{◌≡◌}
use Rattle.lend.specs.Answer.{run}
use Rattle.lend.proofs.measure.Given as goal

abbrev pub invariant-loop-k : goal.invariant-loop-k
invariant-loop-k l = (l.at ≤ l.end) × (l.k ≤ l.count) × (run l.s l.at l.at 0 l.count ≡ run l.s l.at l.end l.k (l.count - l.k))
