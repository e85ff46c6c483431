use Prim.Native.Nat.{◌-◌, ◌≤◌}
use mathlib.Core.Path.{◌≡◌}
use lib.ListN.{length}
use Rattle.blocks.proofs.NextBlock.{tally, up_from}
use Rattle.blocks.proofs.count_upstream.Given as goal

abbrev pub invariant-loop-at : goal.invariant-loop-at
invariant-loop-at l = (l.at ≤ length l.s) × (l.count ≤ l.at) × (l.count ≡ 0 → l.at ≡ 0) ×
    (tally 0 (up_from l.s 0) ≡ tally l.count (up_from l.s l.at))

abbrev pub decreases-loop-at : goal.decreases-loop-at
decreases-loop-at l = length l.s - l.at
