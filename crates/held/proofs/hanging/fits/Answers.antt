use borrow.Author.Tests.{tests}
use Rattle.std.proofs.Common.{rules, refl}
use Rattle.held.specs.Hanging.{fits}
use Rattle.held.proofs.Each.{every-answer}
use Rattle.held.proofs.hanging.fits.Goals as goal

pub returns : goal.returns
returns c =
    let a = c.args in
    every-answer 32 (fits a.held a.area.now) _ _ _ _ c.all.ensures.ran refl
    (λ x q k. search (rules, tests)) (λ x q k. search (rules, tests))
