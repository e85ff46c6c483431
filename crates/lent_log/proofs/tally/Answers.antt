-- What the count comes to is the count so far and what is left, from the place where the last block ended (`tally_from`); a turn goes one
-- block on.
use Prim.Native.Nat.{ℕ, suc, ◌-◌}
use mathlib.Core.Path.{ap, sym, ◌∙◌}
use mathlib.Core.Bool.{true, false}
use native.Mathlib.Nat.{sub-zero}
use native.Mathlib.Omega.{arith}
use lib.ListN.{length}
use Rattle.wire.proofs.Checks.{passed-on}
use Rattle.blocks.proofs.NextBlock.{stands, missed}
use Rattle.lent_log.specs.Log.{cut_all, to_the_end}
use Rattle.lent_log.proofs.Passes.{tally_from, tally-starts, tally-torn, tally-end, Turned, turned}
use Rattle.lent_log.proofs.tally.Goals.{In_ok-block}
use Rattle.lent_log.proofs.tally.Goals as goal

-- a turn that found a block
step : (c : In_ok-block) → Turned c.args.s.now c.loop-at.at c.loop-at.count c.loop-at.small c.in_ok-block.block
step c =
    let l = c.loop-at in
    turned c.args.s.now l.at l.count l.small l.invariant.1 c.in_ok-block.block (stands _ _ c.next.ensures c.in_ok-block.was)

pub loop-at-init : goal.loop-at-init
loop-at-init c =
    let s = c.args.s.now in (
      omega arith,
      omega arith,
      tally-starts (to_the_end s) ∙ ap (λ (n : ℕ). tally_from 0 true (cut_all (suc n) s)) (sym (sub-zero (length s))),
    )

pub loop-at-smaller : goal.loop-at-smaller
loop-at-smaller c = (step (goal.at.loop-at-smaller c).In_ok-block).less

pub loop-at-preserved : goal.loop-at-preserved
loop-at-preserved c =
    let t = step (goal.at.loop-at-preserved c).In_ok-block in
    (t.inside, t.counts, c.loop-at.invariant.2 ∙ t.same)

pub returns-in_err-block : goal.returns-in_err-block
returns-in_err-block c =
    let s = c.args.s.now in
    let l = c.loop-at in
    let f = missed s l.at c.in_err-block.field-0.0 (sym c.next.ensures ∙ c.in_err-block.was) in
    passed-on c.from_residual.result c.from_residual.ensures.1
    ∙ rw f.0 (sym (l.invariant.2 ∙ tally-torn s l.at (length s - l.count) l.count l.small c.loop-at-test.true f.1))

pub returns-then-not-small : goal.returns-then-not-small
returns-then-not-small c =
    let s = c.args.s.now in
    let l = c.loop-at in
    sym (l.invariant.2
    ∙ tally-end s l.at (length s - l.count) l.count l.small false c.if-not-small.true c.loop-at-test.false)

pub returns : goal.returns
returns c =
    let s = c.args.s.now in
    let l = c.loop-at in
    sym (l.invariant.2
    ∙ tally-end s l.at (length s - l.count) l.count l.small true c.if-not-small.false c.loop-at-test.false)
