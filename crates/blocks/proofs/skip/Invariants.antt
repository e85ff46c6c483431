use Prim.Native.Nat.{◌-◌, ◌≤◌}
use mathlib.Core.Path.{◌≡◌}
use Rattle.blocks.specs.Blocks.{place_after}
use Rattle.blocks.proofs.skip.Given as goal

abbrev pub invariant-loop : goal.invariant-loop
invariant-loop l = (l.counter ≤ l.k) × (place_after l.k l.s l.place ≡ place_after (l.k - l.counter) l.s l.at)
