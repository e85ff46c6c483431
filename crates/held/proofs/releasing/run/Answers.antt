-- `run` meets its contract: the first free slot ends the run, and where there is none it is as long as can be.
use mathlib.Core.Path.{◌≡◌, ◌∙◌}
use mathlib.Core.Bool.{true, false}
use Prim.Native.Nat.{◌+◌}
use borrow.Author.Tests.{tests}
use Rattle.std.proofs.Common.{rules}
use Rattle.std.proofs.lemmas.Iterator.{first_from_Range}
use Rattle.held.specs.Slots.{full}
use Rattle.held.specs.Releasing.{run}
use Rattle.held.proofs.Going.{run-is}
use Rattle.held.proofs.Releases.{run-within}
use Rattle.held.proofs.releasing.run.Goals.{After-unwrap_or}
use Rattle.held.proofs.releasing.run.Goals as goal

pub returns : goal.returns
returns c =
    let a = c.args in
    let e : c.unwrap_or.result ≡ run 31 a.held a.number =
    c.unwrap_or.ensures ∙ run-is a.held 31 a.number c.find.result
    (first_from_Range _ _ _ _ (λ i. full a.held (a.number + i) ≡ false) (λ i. full a.held (a.number + i) ≡ true) c.find.ensures.ran
    (λ x q k. search (rules, tests)) (λ x q k. search (rules, tests))) in
    (e, rw e (run-within 31 a.held a.number))
