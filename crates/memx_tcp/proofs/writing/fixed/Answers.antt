use mathlib.Core.Path.{sym, ◌∙◌}
use Rattle.memx_tcp.specs.Layout.{size}
use Rattle.memx_tcp.proofs.OfTypes.{stands-for, stands-for-none, unknown-fields}
use Rattle.memx_tcp.proofs.writing.fixed.Goals as goal

pub returns-in-Ok : goal.returns-in-Ok
returns-in-Ok c = rw (stands-for c.args.kind c.in-Ok.kind (sym c.try_from.ensures ∙ c.in-Ok.is)) c.fixed.ensures

pub returns-in-Err : goal.returns-in-Err
unfolding size
returns-in-Err c =
    let none = stands-for-none c.args.kind c.in-Err.field-0 (sym c.try_from.ensures ∙ c.in-Err.is) in
    rw (unknown-fields c.args.kind none.1)
