use Rattle.wire.proofs.Tests.{more-than}
use Rattle.taking.proofs.tell.contradicts.Goals as goal

pub returns : goal.returns
returns c =
    let k = c.args in
    rw (more-than k.top k.kept.top.0, more-than k.kept.top.0 k.top)
