use Rattle.names.proofs.Packing.{pair_puts}
use Rattle.names.proofs.put_name.Goals as goal

pub returns : goal.returns
returns c =
    let a = c.args in
    pair_puts 2 8 a.d.now _ _ a.at a.n.0 a.n.1 c.put2.ensures c.put8.ensures
