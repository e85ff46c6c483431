use Rattle.names.proofs.Packing.{pair_puts}
use Rattle.names.proofs.put_user.Goals as goal

pub returns : goal.returns
returns c =
    let a = c.args in
    pair_puts 2 4 a.d.now _ _ a.at a.u.0 a.u.1 c.put2.ensures c.put4.ensures
