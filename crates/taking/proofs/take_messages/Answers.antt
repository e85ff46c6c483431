-- `take_messages` meets its contract: messages are early, nothing new, or in turn, and each way has its function.
use Rattle.taking.proofs.HandingOver.{tells-pass}
use Rattle.taking.proofs.Trying.{early-any}
use Rattle.taking.proofs.take_messages.Goals as goal

pub returns-then-kept-batch : goal.returns-then-kept-batch
returns-then-kept-batch c =
    let a = c.args in
    early-any a.batch a.kept a.area.now c.requires.0 c.if-kept-batch.true _ _ a.out.now
    c.hold_early.ensures

pub returns-then-past-kept : goal.returns-then-past-kept
returns-then-past-kept c =
    let a = c.args in
    tells-pass a.batch a.kept a.area.now a.out.now c.requires.0
    (rw c.past-past.ensures at c.if-past-kept.true) _ (rw c.past-past.ensures at c.pass.ensures)
