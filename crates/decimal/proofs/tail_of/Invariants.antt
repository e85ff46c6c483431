use Rattle.std.proofs.Common.{◌≡◌, ◌-◌, ◌≤◌, true, drop}
use Rattle.decimal.specs.Decimal.{digits, spelt}
use Rattle.decimal.proofs.tail_of.Given as goal

abbrev pub invariant-loop-k : goal.invariant-loop-k
invariant-loop-k l = (l.k ≤ 19) × (digits (drop (20 - l.k) l.s) ≡ true) × (l.value ≡ spelt (drop (20 - l.k) l.s))
