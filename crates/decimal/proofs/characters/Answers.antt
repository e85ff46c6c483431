-- `characters` meets its contract: from the last place on, the digits stored so far are those of the number, and spaces stand before them.
use Rattle.std.proofs.Common.{◌≡◌, ◌≤◌, suc, ◌-◌, refl, ◌∙◌, arith}
use Rattle.decimal.proofs.Stored.{last_stored, all-stored, next-stored, next-rest, room}
use Rattle.decimal.proofs.characters.Goals as goal

pub last_digit-requires : goal.last_digit-requires
last_digit-requires c = refl

pub loop-rest-init : goal.loop-rest-init
loop-rest-init c = (omega arith, refl, last_stored _ _ c.last_digit.ensures)

pub overflow_sub-i : goal.overflow_sub-i
overflow_sub-i c = room _ _ _ c.loop-rest.invariant.0 c.loop-rest.invariant.1 c.loop-rest-test.true (omega arith)

pub last_digit-requires-in-loop-rest : goal.last_digit-requires-in-loop-rest
last_digit-requires-in-loop-rest c = refl

pub bounds-s-i : goal.bounds-s-i
bounds-s-i c = omega arith

pub loop-rest-smaller : goal.loop-rest-smaller
loop-rest-smaller c = let p : 1 ≤ c.loop-rest.i = room _ _ _ c.loop-rest.invariant.0 c.loop-rest.invariant.1 c.loop-rest-test.true
    (omega arith) in omega arith

pub loop-rest-preserved : goal.loop-rest-preserved
loop-rest-preserved c =
    let p : 1 ≤ c.loop-rest.i = room _ _ _ c.loop-rest.invariant.0 c.loop-rest.invariant.1 c.loop-rest-test.true (omega arith) in
    let e : c.loop-rest.i ≡ suc (c.loop-rest.i - 1) = omega arith in (
      omega arith,
      next-rest _ _ _ c.loop-rest.invariant.0 c.loop-rest.invariant.1 c.loop-rest-test.true _ e,
      rw c.loop-rest.invariant.2
          (next-stored _ _ _ c.loop-rest.invariant.0 c.loop-rest.invariant.1 c.loop-rest-test.true _ _ e c.last_digit-in-loop-rest.ensures),
    )

pub returns : goal.returns
returns c = c.loop-rest.invariant.2 ∙ all-stored _ _ _ c.loop-rest.invariant.0 c.loop-rest.invariant.1 c.loop-rest-test.false
