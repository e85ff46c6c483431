-- `hold_early` meets its contract: 12; else the messages are tried one by one, and the record notes what is held.
use Prim.Native.Nat.{◌+◌, ◌-◌}
use mathlib.Core.Bool.{false}
use Rattle.wire.proofs.Checks.{passed-on}
use Rattle.taking.proofs.Telling.{contradicted, heard}
use Rattle.taking.proofs.Trying.{early-clash, early-kept}
use Rattle.taking.proofs.early.hold_early.Goals as goal

pub returns-in_err-told : goal.returns-in_err-told
returns-in_err-told c =
    let a = c.args in
    let t = contradicted a.kept (a.batch.first + a.batch.count - 1) false (rw c.past.ensures at c.tell.ensures) c.in_err-told.was in
    rw (passed-on c.from_residual.result c.from_residual.ensures.1, t.1)
    (early-clash a.batch a.kept a.area.now c.requires.0 c.requires.1 t.0)

pub returns : goal.returns
returns c =
    let a = c.args in
    let t = heard a.kept (a.batch.first + a.batch.count - 1) false (rw c.past.ensures at c.tell.ensures) c.in_ok-told.was in
    rw t.1 (early-kept a.batch a.kept a.area.now c.requires.0 c.requires.1 _ _ t.0 c.hold_each-held.ensures)
