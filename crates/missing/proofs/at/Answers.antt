-- `at` meets its contract: the range at a place, from the start, is the one at a lower place from a later range on.
use Prim.Native.Nat.{◌+◌, ◌-◌}
use mathlib.Core.Path.{◌≡◌, sym, ◌∙◌}
use native.Mathlib.Omega.{arith}
use Rattle.missing.specs.Missing.{is_held}
use Rattle.missing.proofs.Single.{none_before}
use Rattle.missing.proofs.Walking.{from_next, none-missing, one_more, at-first}
use Rattle.missing.proofs.at.Goals as goal

pub returns-in_err-reach : goal.returns-in_err-reach
returns-in_err-reach c =
    let a = c.args in
    let n = c.in_err-reach.ensures in
    c.from_residual.ensures ∙ rw (none-missing a.held a.next a.top (omega arith))

pub loop-init : goal.loop-init
loop-init c =
    let a = c.args in
    let e = c.in_ok-reach.ensures in
    let s : a.place - 0 ≡ a.place = omega arith in
    (rw (from_next a.held a.next a.top e.0, s), omega arith, none_before a.held a.next (a.next + 0) (omega arith))

pub returns : goal.returns
returns c =
    let a = c.args in
    let l = c.loop.invariant in
    let so = is_held a.held a.next in
    let e : c.in_ok-reach.reach ≡ a.top - a.next = c.in_ok-reach.ensures.1 in
    let r = one_more so a.next (a.top - a.next) c.loop.first c.last_of.result (rw e at c.last_of.ensures) in
    sym (l.0 ∙ at-first _ _ _ (a.place - c.loop.counter) r (omega arith))
