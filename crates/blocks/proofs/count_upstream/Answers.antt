-- `count_upstream` meets its contract: at each turn the blocks counted, with those from the place on, are as many as from the start.
use Prim.Native.Nat.{ℕ, ◌+◌}
use mathlib.Core.Path.{◌≡◌, sym, ◌∙◌}
use native.Mathlib.Omega.{arith}
use Rattle.wire.proofs.Checks.{passed-on}
use Rattle.blocks.proofs.NextBlock.{stands, missed, tally-step, tally-torn, tally-empty, tally-end, count-some}
use Rattle.blocks.proofs.count_upstream.Goals as goal

no-sum : (n : ℕ) → n + 1 ≡ 0 → ⊥
no-sum n e = omega arith

pub loop-at-preserved : goal.loop-at-preserved
loop-at-preserved c =
    let s = c.args.s.now in
    let f = stands c.args.s.now c.loop-at.at c.next.ensures c.in_ok-block.was in
    let e = f.ends in
    let i = f.inside in (
      omega arith,
      omega arith,
      (λ z. absurd (no-sum c.loop-at.count z)),
      rw e (c.loop-at.invariant.3 ∙ tally-step s c.loop-at.at c.loop-at.count i (λ z. c.if-block-eq0.false (f.states ∙ z))),
    )

pub returns-in_err-block : goal.returns-in_err-block
returns-in_err-block c =
    let s = c.args.s.now in
    let f = missed s c.loop-at.at c.in_err-block.field-0.0 (sym c.next.ensures ∙ c.in_err-block.was) in
    passed-on c.from_residual.result c.from_residual.ensures.1
    ∙ rw f.0 (sym (count-some s (omega arith) ∙ c.loop-at.invariant.3 ∙ tally-torn s c.loop-at.at c.loop-at.count (omega arith) f.1))

pub returns-then-block-eq0 : goal.returns-then-block-eq0
returns-then-block-eq0 c =
    let s = c.args.s.now in
    let f = stands c.args.s.now c.loop-at.at c.next.ensures c.in_ok-block.was in
    sym (count-some s (omega arith) ∙ c.loop-at.invariant.3
    ∙ tally-empty s c.loop-at.at c.loop-at.count f.inside (sym f.states ∙ c.if-block-eq0.true))

pub returns : goal.returns
returns c =
    let s = c.args.s.now in
    sym (count-some s (omega arith) ∙ c.loop-at.invariant.3 ∙ tally-end s c.loop-at.at c.loop-at.count c.loop-at-test.false)
