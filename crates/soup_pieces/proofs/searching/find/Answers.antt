-- `find` meets its contract: the byte is not met before the place that it stands at.
use Rattle.std.proofs.Common.{arith}
use Rattle.soup_pieces.proofs.Searches.{found-here, found-further, found-nowhere}
use Rattle.soup_pieces.proofs.searching.find.Goals as goal

pub returns-then-s-at : goal.returns-then-s-at
returns-then-s-at c =
    let e = found-here c.args.byte c.args.s.now c.loop-at.at c.args.to c.loop-at-test.true c.requires.1 c.if-s-at.true in
    (omega (arith, e, c.loop-at.invariant.2), omega arith)

pub loop-at-preserved : goal.loop-at-preserved
loop-at-preserved c =
    let e = found-further c.args.byte c.args.s.now c.loop-at.at c.args.to c.loop-at-test.true c.requires.1 c.if-s-at.false in
    (omega arith, omega arith, omega (arith, e, c.loop-at.invariant.2))

pub returns : goal.returns
returns c =
    let e = found-nowhere c.args.byte c.args.s.now c.loop-at.at c.args.to c.loop-at-test.false in
    (omega (arith, e, c.loop-at.invariant.1, c.loop-at.invariant.2), c.loop-at.invariant.1)
