-- `standing_of` meets its contract: 10; then the first missing range, and where there is none whether an end was taken, decide.
use mathlib.Core.Path.{◌≡◌, sym, ◌∙◌}
use mathlib.Core.Bool.{true}
use Rattle.record.specs.Record.{hangs}
use Rattle.record.specs.Standing.{standing}
use Rattle.record.proofs.Lacking.{some-missing, none-complete, none-ongoing}
use Rattle.record.proofs.standing.standing_of.Goals.{Else-not-hangs_together}
use Rattle.record.proofs.standing.standing_of.Goals as goal

hung : (c : Else-not-hangs_together) → hangs c.args.kept ≡ true
hung c = sym c.hangs_together.ensures ∙ c.if-not-hangs_together.false

pub returns-then-not-hangs_together : goal.returns-then-not-hangs_together
unfolding standing
returns-then-not-hangs_together c = rw (← c.hangs_together.ensures, c.if-not-hangs_together.true)

pub returns-in-Some : goal.returns-in-Some
returns-in-Some c =
    let h = hung (goal.at.returns-in-Some c).Else-not-hangs_together in
    rw (some-missing c.args.kept h c.in-Some.first (sym c.at.ensures ∙ c.in-Some.is), c.count.ensures)

pub returns-in-None : goal.returns-in-None
returns-in-None c =
    let h = hung (goal.at.returns-in-None c).Else-not-hangs_together in
    sym (none-complete c.args.kept h (sym c.at.ensures ∙ c.in-None.is) c.if-kept.true)

pub returns-in-None-2 : goal.returns-in-None-2
returns-in-None-2 c =
    let h = hung (goal.at.returns-in-None-2 c).Else-not-hangs_together in
    sym (none-ongoing c.args.kept h (sym c.at.ensures ∙ c.in-None.is) c.if-kept.false)
