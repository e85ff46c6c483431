use lib.Ieee.{of_bits, round}
use Rattle.std.proofs.Common.{rules}
use Rattle.flat_clock.proofs.rule_of.Goals as goal

pub returns-in_default : goal.returns-in_default
unfolding of_bits round
returns-in_default c = search rules
