use Rattle.missing.specs.Missing.{is_held}
use Rattle.missing.proofs.Walking.{none-follows, one-follows}
use Rattle.missing.proofs.following.Goals as goal

pub returns-then-last-reach : goal.returns-then-last-reach
returns-then-last-reach c =
    let a = c.args in
    none-follows (is_held a.held a.next) a.next a.reach a.first c.last_of-last.result c.last_of-last.ensures c.if-last-reach.true

pub returns : goal.returns
returns c =
    let a = c.args in
    rw c.then_some.ensures
    (one-follows (is_held a.held a.next) a.next a.reach a.first c.last_of-last.result c.last_of-last.ensures c.past_held-begins.result
    c.past_held-begins.ensures)
