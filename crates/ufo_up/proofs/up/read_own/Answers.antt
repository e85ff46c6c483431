-- `read_own` meets its contract: a login and a request are read alike wherever they stand.
use Rattle.ufo_up.proofs.UpMessage.{of-kind}
use Rattle.ufo_up.proofs.up.read_own.Goals as goal

pub returns-in-76 : goal.returns-in-76
returns-in-76 c = rw (of-kind _ 76 c.in-76.is) (c.read_l.ensures _)

pub returns-in-84 : goal.returns-in-84
returns-in-84 c = rw (of-kind _ 84 c.in-84.is) (c.read_t.ensures _)
