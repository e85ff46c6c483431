-- The whole is sound exactly if what is left is, from the place where the last block ended; a turn goes one block on (`Passes`).
use mathlib.Core.Path.{sym, ◌∙◌}
use Rattle.blocks.proofs.NextBlock.{stands, missed}
use Rattle.lent_log.proofs.Passes.{long-turn, good_turn, torn-turn, last_turn}
use Rattle.lent_log.proofs.is_sound.Goals as goal

pub returns-in_default : goal.returns-in_default
returns-in_default c =
    let s = c.args.s.now in
    let l = c.loop in
    let f = stands s l.at c.next.ensures c.in-Ok.is in
    sym (l.invariant.1 ∙ long-turn s l.at c.args.count l.counter c.loop-test.true c.in-Ok.block f c.if-block-le-LONGEST_MESSAGE.false)

pub returns-in_default-2 : goal.returns-in_default-2
returns-in_default-2 c =
    let s = c.args.s.now in
    let l = c.loop in
    let f = missed s l.at c.in_default.field-0 (sym c.next.ensures ∙ c.in_default.is) in
    sym (l.invariant.1 ∙ torn-turn s l.at c.args.count l.counter c.loop-test.true l.invariant.0 f.1)

pub loop-preserved : goal.loop-preserved
loop-preserved c =
    let s = c.args.s.now in
    let l = c.loop in
    let f = stands s l.at c.next.ensures c.in-Ok.is in (
      rw f.ends f.inside,
      l.invariant.1 ∙ good_turn s l.at c.args.count l.counter c.loop-test.true c.in-Ok.block f c.if-block-le-LONGEST_MESSAGE.true,
    )

pub returns : goal.returns
returns c =
    let l = c.loop in
    sym (l.invariant.1 ∙ last_turn c.args.s.now l.at c.args.count l.counter c.loop-test.false l.invariant.0)
