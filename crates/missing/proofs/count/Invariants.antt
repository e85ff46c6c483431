use Prim.Native.Nat.{◌+◌, ◌-◌, ◌≤◌}
use mathlib.Core.Path.{◌≡◌}
use mathlib.Core.Bool.{false}
use lib.ListN.{length, drop}
use Rattle.missing.specs.Missing.{is_held, missing}
use Rattle.missing.specs.Runs.{ranges_from}
use Rattle.missing.proofs.count.Given as goal

abbrev pub invariant-loop-begins : goal.invariant-loop-begins
invariant-loop-begins l =
    (length (missing l.held l.next l.top)
    ≡ l.ranges + length (drop 1 (ranges_from (is_held l.held l.next) l.next (l.top - l.next) l.first)))
    × (l.first ≤ l.top - l.next)
    × (is_held l.held l.next (l.next + l.first) ≡ false)

abbrev pub decreases-loop-begins : goal.decreases-loop-begins
decreases-loop-begins l = length (drop 1 (ranges_from (is_held l.held l.next) l.next (l.top - l.next) l.first))
