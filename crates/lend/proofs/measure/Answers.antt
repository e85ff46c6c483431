-- The whole pass is what is left of it from the place where the last block ended; a turn goes one block on, or stops it (`Measuring`).
use Prim.Native.Nat.{ℕ, suc, ◌+◌, ◌-◌, ◌<◌}
use mathlib.Core.Path.{◌≡◌, ap, sym, ◌∙◌}
use native.Mathlib.Nat.{sub-zero}
use native.Mathlib.Omega.{arith}
use Rattle.blocks.proofs.NextBlock.{Stands, stands, missed}
use Rattle.lend.specs.Answer.{run}
use Rattle.lend.proofs.Measuring.{run_on, run-torn, run-full, run-done}
use Rattle.lend.proofs.measure.Goals.{After-next, In-Ok}
use Rattle.lend.proofs.measure.Goals as goal

-- the block that a turn found
step : (c : In-Ok) → Stands c.args.s.now c.loop-k.end c.in-Ok.block
step c = stands _ _ c.next.ensures c.in-Ok.is

left : (n k : ℕ) → k < n → n - k ≡ suc (n - (k + 1))
left n k h = omega arith

-- in a turn one more is left
more : (c : After-next) → let a = c.args in let l = c.loop-k in
    run a.s.now a.at a.at 0 a.count ≡ run a.s.now a.at l.end l.k (suc (a.count - (l.k + 1)))
more c =
    let a = c.args in
    let l = c.loop-k in
    l.invariant.2 ∙ ap (run a.s.now a.at l.end l.k) (left a.count l.k c.loop-k-test.true)

pub loop-k-init : goal.loop-k-init
loop-k-init c = let a = c.args in (omega arith, omega arith, ap (run a.s.now a.at a.at 0) (sym (sub-zero a.count)))

pub overflow_sub-block : goal.overflow_sub-block
overflow_sub-block c = let f = step (goal.at.overflow_sub-block c).In-Ok in omega arith

pub loop-k-preserved : goal.loop-k-preserved
loop-k-preserved c =
    let at = goal.at.loop-k-preserved c in
    let f = step at.In-Ok in
    let l = c.loop-k in (
      omega arith,
      omega arith,
      rw f.ends (more at.After-next ∙ run_on c.args.s.now c.args.at l.end l.k _ f.inside (omega arith)),
    )

pub returns-in_default : goal.returns-in_default
returns-in_default c =
    let at = goal.at.returns-in_default c in
    let f = step at.In-Ok in
    let l = c.loop-k in
    sym (more at.After-next ∙ run-full c.args.s.now c.args.at l.end l.k _ (omega arith))

pub returns-in_default-2 : goal.returns-in_default-2
returns-in_default-2 c =
    let l = c.loop-k in
    let f = missed c.args.s.now l.end c.in_default.field-0 (sym c.next.ensures ∙ c.in_default.is) in
    sym (more (goal.at.returns-in_default-2 c).After-next ∙ run-torn c.args.s.now c.args.at l.end l.k _ f.1)

pub returns : goal.returns
returns c =
    let a = c.args in
    let l = c.loop-k in
    let all : l.k ≡ a.count = omega arith in
    let none : a.count - l.k ≡ 0 = omega arith in
    sym (l.invariant.2 ∙ rw (none, all) (run-done a.s.now a.at l.end a.count))
