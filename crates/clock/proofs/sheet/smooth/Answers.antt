use Rattle.clock.specs.Sheet.{smoothed}
use lib.Ieee.{of_bits, round}
use Rattle.clock.proofs.sheet.smooth.Goals as goal

pub returns-then-sheet : goal.returns-then-sheet
unfolding smoothed of_bits round
returns-then-sheet c = rw (c.if-sheet.true, c.distance.ensures)

pub returns-else-sheet : goal.returns-else-sheet
unfolding smoothed of_bits round
returns-else-sheet c = rw c.if-sheet.false
