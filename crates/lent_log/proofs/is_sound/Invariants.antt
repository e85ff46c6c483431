use Prim.Native.Nat.{◌-◌, ◌≤◌}
use mathlib.Core.Path.{◌≡◌}
use lib.ListN.{length, drop}
use Rattle.blocks.specs.Blocks.{cut}
use Rattle.lent_log.specs.Log.{sound}
use Rattle.lent_log.proofs.is_sound.Given as goal

abbrev pub invariant-loop : goal.invariant-loop
invariant-loop l = (l.at ≤ length l.s) × (sound (cut l.count l.s) ≡ sound (cut (l.count - l.counter) (drop l.at l.s)))
