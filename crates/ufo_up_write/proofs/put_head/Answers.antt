use Rattle.ufo_up_write.proofs.UpLaid.{laid-head}
use Rattle.ufo_up_write.proofs.put_head.Goals as goal

pub returns : goal.returns
returns c =
    let a = c.args in
    rw c.put2.ensures (laid-head a.out.now a.size a.kind)
