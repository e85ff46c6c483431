-- `free_from` meets its contract: each turn frees the slot of one message more; once no slot is full the others change nothing.
use mathlib.Core.Path.{refl, sym, ◌∙◌}
use native.Mathlib.Omega.{arith}
use Rattle.held.specs.Slots.{freed_from}
use Rattle.held.proofs.Going.{freed-more, freed-all}
use Rattle.held.proofs.slots.free_from.Goals as goal

pub loop-ahead-init : goal.loop-ahead-init
unfolding freed_from
loop-ahead-init c = refl

pub returns-then-kept-eq0 : goal.returns-then-kept-eq0
returns-then-kept-eq0 c =
    let a = c.args in
    sym (freed-all a.held a.number c.loop-ahead.ahead a.count (omega arith) (sym c.loop-ahead.invariant ∙ c.if-kept-eq0.true))

pub loop-ahead-preserved : goal.loop-ahead-preserved
loop-ahead-preserved c =
    let a = c.args in
    rw (freed-more a.held a.number c.loop-ahead.ahead, c.free-kept.ensures, c.loop-ahead.invariant, c.slot_ahead.ensures.0)
