use Prim.Native.Nat.{◌-◌}
use Rattle.ufo_up.proofs.UpFinding.{Reaches}
use Rattle.ufo_up.proofs.up.find_message.Given as goal

abbrev pub invariant-loop-at : goal.invariant-loop-at
invariant-loop-at l = Reaches l.d l.place l.at

abbrev pub decreases-loop-at : goal.decreases-loop-at
decreases-loop-at l = l.place - l.at
