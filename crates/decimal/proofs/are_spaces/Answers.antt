-- `are_spaces` meets its contract: nothing but spaces so far, and in what is left.
use Rattle.std.proofs.Common.{◌∙◌}
use Rattle.decimal.proofs.Spaces.{blank-step, blank-end}
use Rattle.decimal.proofs.are_spaces.Goals as goal

pub loop-b-preserved : goal.loop-b-preserved
loop-b-preserved c = blank-step c.args.s.now c.loop-b.b-index c.loop-b.all c.loop-b-test.true ∙ c.loop-b.invariant

pub returns : goal.returns
returns c = blank-end _ _ _ c.loop-b-test.false ∙ c.loop-b.invariant
