use Rattle.wire.proofs.Checks.{passed-on}
use Rattle.blocks.specs.Blocks.{frames}
use Rattle.taking.specs.Ways.{passing}
use Rattle.taking.proofs.Telling.{contradicted, heard}
use Rattle.taking.proofs.pass.Goals as goal

pub returns-in_err-after : goal.returns-in_err-after
unfolding passing
returns-in_err-after c =
    let t = contradicted c.args.kept c.args.top c.args.end c.tell.ensures c.in_err-after.was in
    rw (passed-on c.from_residual.result c.from_residual.ensures.1, t.0, t.1)

pub returns : goal.returns
unfolding passing frames
returns c = let t = heard c.args.kept c.args.top c.args.end c.tell.ensures c.in_ok-after.was in rw (t.0, t.1)
