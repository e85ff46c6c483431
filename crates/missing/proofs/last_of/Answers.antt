-- `last_of` meets its contract: a range ends before the first held number, and past N+31 nothing is held.
use Prim.Native.Nat.{◌+◌}
use mathlib.Core.Path.{◌≡◌}
use mathlib.Core.Bool.{true, false}
use native.Mathlib.Omega.{arith}
use borrow.Author.Tests.{tests}
use Rattle.std.proofs.Common.{rules}
use Rattle.std.proofs.lemmas.Iterator.{first_from_Range}
use Rattle.missing.specs.Missing.{is_held}
use Rattle.missing.proofs.Single.{none-held}
use Rattle.missing.proofs.Seeking.{last-found}
use Rattle.missing.proofs.last_of.Goals as goal

pub returns-then-held-eq0 : goal.returns-then-held-eq0
returns-then-held-eq0 c =
    let a = c.args in
    record {
      after = c.requires.0;
      within = omega arith;
      gap = λ k _ _. rw c.if-held-eq0.true (none-held a.next k);
      ends = λ l. absurd (omega arith);
    }

pub returns : goal.returns
returns c =
    let a = c.args in
    rw c.unwrap_or.ensures (last-found a.held a.next a.reach a.first c.min.result c.find.result c.min.ensures c.requires.0 c.requires.1
    (first_from_Range _ _ _ _ (λ i. is_held a.held a.next (a.next + (i + 1)) ≡ true) (λ i. is_held a.held a.next (a.next + (i + 1)) ≡ false)
    c.find.ensures.ran (λ x q k. search (rules, tests)) (λ x q k. search (rules, tests))))
