-- `message_at` meets its contract: the block at the place is found once (`finds-at`), and what its own bytes are told as is the answer.
use mathlib.Core.Path.{sym, ◌∙◌}
use Rattle.wire.proofs.Checks.{passed-on}
use Rattle.blocks.proofs.Found.{Found, finds}
use Rattle.ufo_up.proofs.UpMessage.{none-at, empty-at, told-as, refused-as}
use Rattle.ufo_up.proofs.up.message_at.Goals.{In_ok-block}
use Rattle.ufo_up.proofs.up.message_at.Goals as goal

-- the block that was found
finds-at : (c : In_ok-block) → Found c.args.d.now c.args.place c.in_ok-block.block
finds-at c =
    let a = c.args in
    finds a.d.now a.place c.in_ok-block.block (sym c.next.ensures ∙ c.in_ok-block.was)

pub returns-in_err-block : goal.returns-in_err-block
returns-in_err-block c =
    rw (none-at c.args.d.now c.args.place c.in_err-block.field-0.0 (sym c.next.ensures ∙ c.in_err-block.was))
    (passed-on c.from_residual.result c.from_residual.ensures.1)

pub returns-then-block-eq0 : goal.returns-then-block-eq0
returns-then-block-eq0 c =
    let a = c.args in
    rw (empty-at a.d.now a.place c.in_ok-block.block (finds-at (goal.at.returns-then-block-eq0 c).In_ok-block) c.if-block-eq0.true)

pub returns-in_err-message : goal.returns-in_err-message
returns-in_err-message c =
    let a = c.args in
    let f = finds-at (goal.at.returns-in_err-message c).In_ok-block in
    let r = c.from_residual-in_err-message in
    rw (refused-as a.d.now a.place c.in_ok-block.block f c.if-block-eq0.false _ _ (sym c.read_own.ensures ∙ c.in_err-message.was))
    (passed-on r.result r.ensures.1)

pub returns : goal.returns
returns c =
    let a = c.args in
    let f = finds-at (goal.at.returns c).In_ok-block in
    sym (told-as a.d.now a.place c.in_ok-block.block f c.if-block-eq0.false _ (sym c.read_own.ensures ∙ c.in_ok-message.was))
