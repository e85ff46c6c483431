use lib.Ieee.{of_bits, round}
use Rattle.clock.proofs.patience.measure.Goals as goal

pub returns-then-sheet : goal.returns-then-sheet
unfolding of_bits round
returns-then-sheet c = rw c.if-sheet.true

pub returns-else-sheet : goal.returns-else-sheet
unfolding of_bits round
returns-else-sheet c = rw c.if-sheet.false
