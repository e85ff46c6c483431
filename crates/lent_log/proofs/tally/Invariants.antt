use Prim.Native.Nat.{suc, ◌-◌, ◌≤◌}
use mathlib.Core.Path.{◌≡◌}
use lib.ListN.{length, drop}
use Rattle.lent_log.specs.Log.{cut_all, to_the_end, tallied}
use Rattle.lent_log.proofs.Passes.{tally_from}
use Rattle.lent_log.proofs.tally.Given as goal

abbrev pub invariant-loop-at : goal.invariant-loop-at
invariant-loop-at l = (l.at ≤ length l.s) × (l.count ≤ l.at)
    × (tallied (to_the_end l.s) ≡ tally_from l.count l.small (cut_all (suc (length l.s - l.count)) (drop l.at l.s)))

abbrev pub decreases-loop-at : goal.decreases-loop-at
decreases-loop-at l = length l.s - l.at
