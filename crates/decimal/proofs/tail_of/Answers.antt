-- `tail_of` keeps, turn by turn: the last k characters are digits, and what they come to is counted.
use Rattle.std.proofs.Common.{◌≡◌, get_or, ◌∙◌, arith}
use borrow.Author.Tests.{lt-leb}
use Rattle.decimal.proofs.Powers.{powers, power_at}
use Rattle.decimal.proofs.Ends.{none_yet, Turn, turn}
use Rattle.decimal.proofs.tail_of.Goals.{Else-d-gt9}
use Rattle.decimal.proofs.tail_of.Goals as goal

-- a turn, with the power that the table has at the digit's place
this-turn : (c : Else-d-gt9) → Turn c.args.s.now c.loop-k.k c.figure-d.result c.loop-k.value
    (get_or (powers 20 0) c.loop-k.k 0)
this-turn c =
    turn _ _ _ _ _ c.requires c.loop-k-test.true c.loop-k.invariant.1 c.loop-k.invariant.2 c.figure-d.ensures.0 c.figure-d.ensures.1
    c.if-d-gt9.false
    (power_at 20 _ (omega arith))

pub loop-k-init : goal.loop-k-init
loop-k-init c = let e = none_yet c.args.s.now c.requires in (omega arith, e.0, e.1)

pub returns-then-d-gt9 : goal.returns-then-d-gt9
returns-then-d-gt9 c =
    (c.loop-k.invariant.0, c.loop-k.invariant.1, c.loop-k.invariant.2, λ h. c.figure-d.ensures.0 ∙ lt-leb _ 9 c.if-d-gt9.true)

pub overflow_mul-value : goal.overflow_mul-value
overflow_mul-value c = omega (arith, (this-turn c).fits)

pub overflow_add-value : goal.overflow_add-value
overflow_add-value c = omega (arith, (this-turn c).fits)

pub loop-k-preserved : goal.loop-k-preserved
loop-k-preserved c = let u = this-turn c in (omega arith, u.more, u.sum)

pub returns : goal.returns
returns c =
    let all : c.loop-k.k ≡ 19 = omega arith in
    (omega arith, rw all at c.loop-k.invariant.1, rw all at c.loop-k.invariant.2, λ h. absurd (omega arith))
