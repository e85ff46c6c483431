use Rattle.std.proofs.Common.{◌≡◌, ◌-◌, ◌/◌, ◌^◌, ◌≤◌, ◌++◌, replicate}
use Rattle.decimal.specs.Decimal.{places}
use Rattle.decimal.proofs.characters.Given as goal

abbrev pub invariant-loop-rest : goal.invariant-loop-rest
invariant-loop-rest l = (l.i ≤ 19) × (l.rest ≡ l.n / 10 ^ (20 - l.i)) × (l.s ≡ replicate l.i 32 ++ places (20 - l.i) l.n)

abbrev pub decreases-loop-rest : goal.decreases-loop-rest
decreases-loop-rest l = l.i
