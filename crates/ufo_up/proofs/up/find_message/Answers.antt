-- `find_message` meets its contract: from block to block the walk comes to the place, or past it.
use mathlib.Core.Path.{sym, ◌∙◌}
use native.Mathlib.Omega.{arith}
use Rattle.wire.proofs.Checks.{passed-on}
use Rattle.ufo_up.proofs.UpFinding.{reaches-none, reaches_more, reaches-out, reaches-past, reaches_here}
use Rattle.ufo_up.proofs.up.find_message.Goals as goal

pub loop-at-init : goal.loop-at-init
loop-at-init c = reaches-none c.args.d.now c.args.place c.requires

pub loop-at-preserved : goal.loop-at-preserved
loop-at-preserved c =
    let a = c.args in
    (reaches_more a.d.now (λ i. (c.type_inv.d i).fits) a.place c.loop-at.at c.loop-at.invariant c.loop-at-test.true c.in_ok-at.field-0
    (sym c.next.ensures ∙ c.in_ok-at.was)).0

pub returns-in_err-at : goal.returns-in_err-at
returns-in_err-at c =
    let a = c.args in
    rw (reaches-out a.d.now (λ i. (c.type_inv.d i).fits) a.place c.loop-at.at c.loop-at.invariant c.in_err-at.field-0.0
    (sym c.next.ensures ∙ c.in_err-at.was))
    (passed-on c.from_residual.result c.from_residual.ensures.1)

pub returns-then-place-at : goal.returns-then-place-at
returns-then-place-at c =
    rw (reaches-past c.args.d.now (λ i. (c.type_inv.d i).fits) c.args.place c.loop-at.at c.loop-at.invariant (omega arith))

pub returns : goal.returns
returns c =
    rw (reaches_here c.args.d.now (λ i. (c.type_inv.d i).fits) c.args.place c.loop-at.at c.loop-at.invariant (omega arith))
    c.message_at.ensures
