-- `twenty` meets its contract: a first digit 0 adds nothing, 1 adds the last power if the bound is kept, and more is over it.
use Rattle.std.proofs.Common.{◌≡◌, ◌+◌, ◌-◌, ◌*◌, ◌^◌, ◌≤◌, one-mul, zero-add, zero-mul, arith, eqb-true, le-leb, leb-true}
use borrow.Author.Tests.{lt-leb}
use Rattle.wire.proofs.Tests.{both}
use Rattle.decimal.proofs.Ends.{over}
use Rattle.decimal.proofs.twenty.Goals.{Then-d-n}
use Rattle.decimal.proofs.twenty.Goals as goal

-- one time the last power, and no more than it leaves
taken : (c : Then-d-n) → (c.args.d ≡ 1) × (c.args.n ≤ 2 ^ 64 - 1 - 10 ^ 19)
taken c = let p = both _ _ c.if-d-n.true in (eqb-true _ 1 p.0, leb-true _ _ p.1)

pub returns-then-d-eq0 : goal.returns-then-d-eq0
returns-then-d-eq0 c =
    let a = c.args in
    rw (c.if-d-eq0.true, zero-mul, zero-add, le-leb a.n (2 ^ 64 - 1) (omega arith))

pub overflow_add-result : goal.overflow_add-result
overflow_add-result c = let h = taken (goal.at.overflow_add-result c).Then-d-n in omega arith

pub returns-then-d-n : goal.returns-then-d-n
returns-then-d-n c =
    let h = taken (goal.at.returns-then-d-n c).Then-d-n in
    rw (h.0, le-leb (1 * 10 ^ 19 + c.args.n) (2 ^ 64 - 1) (omega arith), one-mul)

pub returns-else-d-n : goal.returns-else-d-n
returns-else-d-n c =
    let a = c.args in
    rw (lt-leb (a.d * 10 ^ 19 + a.n) (2 ^ 64 - 1) (over a.d a.n c.if-d-eq0.false c.if-d-n.false))
