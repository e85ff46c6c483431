use lib.Ieee.{of_bits, round}
use Rattle.clock.proofs.patience.is_in_range.Goals as goal

pub returns-in-Fixed : goal.returns-in-Fixed
unfolding of_bits round
returns-in-Fixed c = rw c.in-Fixed.is

pub returns-in-Measured : goal.returns-in-Measured
unfolding of_bits round
returns-in-Measured c = rw (c.in-Measured.is, ← c.is_between.ensures)
