-- `skip` meets its contract: from place to place the blocks that are left lead where all of them led from the start.
use Prim.Native.Nat.{ℕ, suc, ◌+◌, ◌-◌, ◌≤◌, ◌<◌}
use mathlib.Core.Path.{◌≡◌, ap, ◌∙◌, sym}
use native.Mathlib.Omega.{arith}
use Rattle.wire.proofs.Checks.{passed-on}
use Rattle.blocks.specs.Blocks.{place_after}
use Rattle.blocks.proofs.NextBlock.{stands, missed, place-step, place-torn, place_here, place-past}
use Rattle.blocks.proofs.skip.Goals as goal

some : (k n : ℕ) → n < k → k - n ≡ suc (k - (n + 1))
some k n h = omega arith

none : (k n : ℕ) → n ≤ k → k ≤ n → k - n ≡ 0
none k n h l = omega arith

pub loop-preserved : goal.loop-preserved
loop-preserved c =
    let s = c.args.s.now in
    let f = stands s c.loop.at c.next.ensures c.in_ok-at.was in
    let left = c.args.k - (c.loop.counter + 1) in (
      omega arith,
      c.loop.invariant.1 ∙ ap (λ (k : ℕ). place_after k s c.loop.at) (some c.args.k c.loop.counter c.loop-test.true)
          ∙ place-step s c.loop.at left f.inside ∙ ap (λ (t : ℕ). place_after left s t) (sym f.ends),
    )

pub returns-in_err-at : goal.returns-in_err-at
returns-in_err-at c =
    let s = c.args.s.now in
    let f = missed s c.loop.at c.in_err-at.field-0.0 (sym c.next.ensures ∙ c.in_err-at.was) in
    let e = c.loop.invariant.1 ∙ ap (λ (k : ℕ). place_after k s c.loop.at) (some c.args.k c.loop.counter c.loop-test.true)
    ∙ place-torn s c.loop.at (c.args.k - (c.loop.counter + 1)) f.1 in
    passed-on c.from_residual.result c.from_residual.ensures.1 ∙ rw (e, f.0)

pub returns-then-s-at : goal.returns-then-s-at
returns-then-s-at c =
    let l = c.loop.invariant in
    rw (l.1, none c.args.k c.loop.counter l.0 (omega arith), place-past c.args.s.now c.loop.at c.if-s-at.true)

pub returns : goal.returns
returns c =
    let l = c.loop.invariant in
    rw (l.1, none c.args.k c.loop.counter l.0 (omega arith), place_here c.args.s.now c.loop.at c.if-s-at.false)
