use borrow.Author.Tests.{tests}
use mathlib.Core.Path.{sym}
use Rattle.std.proofs.Common.{rules, refl}
use Rattle.held.specs.Hanging.{placed, in_place}
use Rattle.held.proofs.Each.{every-answer}
use Rattle.held.proofs.Hangs.{none-in-place}
use Rattle.held.proofs.hanging.is_in_place.Goals as goal

pub returns-then-held-eq0 : goal.returns-then-held-eq0
returns-then-held-eq0 c = sym (rw c.if-held-eq0.true (none-in-place _ _))

pub returns : goal.returns
unfolding in_place
returns c =
    let a = c.args in
    every-answer 32 (placed a.held a.next a.top) _ _ _ _ c.all.ensures.ran refl
    (λ x q k. search (rules, tests)) (λ x q k. search (rules, tests))
