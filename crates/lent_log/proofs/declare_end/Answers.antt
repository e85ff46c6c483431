-- What the log was asked first decides; the log that is answered is the one declared.
use mathlib.Core.Path.{◌∙◌}
use Rattle.wire.proofs.Checks.{passed-on}
use Rattle.lent_log.specs.Log.{declaring}
use Rattle.lent_log.proofs.Entering.{grows, end-closed}
use Rattle.lent_log.proofs.declare_end.Goals as goal

pub returns-in_err-may_grow : goal.returns-in_err-may_grow
returns-in_err-may_grow c =
    let a = c.args in
    passed-on c.from_residual.result c.from_residual.ensures.1
    ∙ rw (end-closed a.log a.bytes.now c.may_grow.ensures.grows c.in_err-may_grow.field-0.0 c.in_err-may_grow.was)

pub returns : goal.returns
unfolding declaring
returns c = let a = c.args in let g = grows a.log a.bytes.now c.may_grow.ensures.grows c.in_ok-may_grow.was in rw (g.0, g.1.0)
