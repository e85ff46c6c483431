use Rattle.flat.proofs.Flattening.{flattens}
use Rattle.flat_tcp.proofs.write.Goals as goal

pub returns : goal.returns
returns c =
    rw c.fields_of.ensures at (flattens c.write.ensures c.wrote_of.ensures)
