use mathlib.Core.Path.{sym, ◌∙◌}
use Rattle.lent_log.proofs.Hanging.{hanging}
use Rattle.lent_log.proofs.may_grow.Goals as goal

pub returns-clause-bounded : goal.returns-clause-bounded
returns-clause-bounded c =
    let a = c.args in
    let h = hanging a.log a.bytes.now (sym c.hangs_together.ensures ∙ c.if-not-hangs_together.false) in
    (h.count, h.mark)
