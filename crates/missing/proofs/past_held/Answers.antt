-- `past_held` meets its contract: the held numbers end before the first that is not, and past N+31 nothing is held.
use Prim.Native.Nat.{◌+◌}
use mathlib.Core.Path.{◌≡◌}
use mathlib.Core.Bool.{true, false}
use borrow.Author.Tests.{tests}
use Rattle.std.proofs.Common.{rules}
use Rattle.std.proofs.lemmas.Iterator.{first_from_Range}
use Rattle.missing.specs.Missing.{is_held}
use Rattle.missing.proofs.Seeking.{past-found}
use Rattle.missing.proofs.past_held.Goals as goal

pub returns : goal.returns
returns c =
    let a = c.args in
    rw c.unwrap_or.ensures (past-found a.held a.next a.ahead c.find.result c.requires
    (first_from_Range _ _ _ _ (λ i. is_held a.held a.next (a.next + i) ≡ false) (λ i. is_held a.held a.next (a.next + i) ≡ true)
    c.find.ensures.ran (λ x q k. search (rules, tests)) (λ x q k. search (rules, tests))))
