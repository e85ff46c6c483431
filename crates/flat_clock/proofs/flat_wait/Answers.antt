use lib.Ieee.{of_bits, round}
use Rattle.std.proofs.Common.{rules}
use Rattle.flat_clock.proofs.flat_wait.Goals as goal

pub returns-in-Err : goal.returns-in-Err
unfolding of_bits round
returns-in-Err c = search rules

pub returns-in-Ok-None : goal.returns-in-Ok-None
unfolding of_bits round
returns-in-Ok-None c = search rules
