-- `ask` meets its contract: the record's 10, then the clock's word; and what follows from that is what is wished.
use mathlib.Core.Path.{◌≡◌, sym, ◌∙◌}
use mathlib.Core.Bool.{Bool}
use Rattle.wire.specs.Checks.{Verdict, refused, taken, ◌into◌, ◌told_by◌}
use Rattle.wire.proofs.Checks.{passed-on}
use Rattle.asking.specs.Asking.{wish, asking, asked_of}
use Rattle.asking.proofs.ask.Goals.{After-wait_over}
use Rattle.asking.proofs.ask.Goals as goal

-- what follows from the clock's word
goes_on : (c : After-wait_over) (v : Verdict Bool) → c.wait_over.result ≡ v → let a = c.args in
    asking a.kept a.sheet a.rule a.elapsed told_by asked_of ≡ ((v into λ late. taken (wish a.kept late)) told_by asked_of)
unfolding asking
goes_on c v e = rw (← c.hangs_together.ensures, c.if-not-hangs_together.false, ← c.wait_over.ensures, e)

pub returns-then-not-hangs_together : goal.returns-then-not-hangs_together
unfolding asking
returns-then-not-hangs_together c = rw (← c.hangs_together.ensures, c.if-not-hangs_together.true)

pub returns-in_err-late : goal.returns-in_err-late
returns-in_err-late c =
    passed-on c.from_residual.result c.from_residual.ensures.1
    ∙ sym (goes_on (goal.at.returns-in_err-late c).After-wait_over (refused c.in_err-late.field-0.0) c.in_err-late.was)

pub returns : goal.returns
returns c = rw c.wish.ensures (sym (goes_on (goal.at.returns c).After-wait_over (taken c.in_ok-late.late) c.in_ok-late.was))
