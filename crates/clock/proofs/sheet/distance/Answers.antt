use lib.Ieee.{of_bits, round}
use Rattle.clock.proofs.sheet.distance.Goals as goal

pub returns-then-d : goal.returns-then-d
unfolding of_bits round
returns-then-d c = rw c.if-d.true

pub returns-else-d : goal.returns-else-d
unfolding of_bits round
returns-else-d c = rw c.if-d.false
