use lib.Ieee.{of_bits, round}
use Rattle.clock.proofs.range.is_lawful.Goals as goal

pub returns : goal.returns
unfolding of_bits round
returns c = c.is_between.ensures
