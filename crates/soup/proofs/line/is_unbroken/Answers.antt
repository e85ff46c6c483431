-- `is_unbroken` meets its contract: no linefeed so far, and none in what is left.
use mathlib.Core.Path.{◌∙◌}
use Rattle.soup.proofs.Linefeed.{unbroken-step, unbroken-end}
use Rattle.soup.proofs.line.is_unbroken.Goals as goal

pub loop-b-preserved : goal.loop-b-preserved
loop-b-preserved c =
    unbroken-step c.args.s.now c.loop-b.b-index c.loop-b.whole c.loop-b-test.true ∙ c.loop-b.invariant

pub returns : goal.returns
returns c = unbroken-end _ _ _ c.loop-b-test.false ∙ c.loop-b.invariant
