use Rattle.std.proofs.Common.{◌≡◌, ◌&&◌, drop}
use Rattle.text.specs.Text.{blank}
use Rattle.decimal.proofs.are_spaces.Given as goal

abbrev pub invariant-loop-b : goal.invariant-loop-b
invariant-loop-b l = l.all && blank (drop l.b-index l.s) ≡ blank l.s
