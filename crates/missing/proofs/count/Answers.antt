-- `count` meets its contract: each turn counts the range that begins next; those behind it are still to be counted. There are few.
use Prim.Native.Nat.{◌+◌, ◌-◌}
use mathlib.Core.Path.{◌≡◌}
use native.Mathlib.Omega.{arith}
use lib.ListN.{length, drop}
use Rattle.missing.specs.Missing.{is_held}
use Rattle.missing.specs.Runs.{Begins, ranges_from}
use Rattle.missing.proofs.Single.{none_before}
use Rattle.missing.proofs.Few.{at-most-17}
use Rattle.missing.proofs.Walking.{from_next, none-missing, some-range}
use Rattle.missing.proofs.count.Goals.{In-Some}
use Rattle.missing.proofs.count.Goals as goal

pub returns-then-top-next : goal.returns-then-top-next
returns-then-top-next c = let a = c.args in rw (none-missing a.held a.next a.top c.if-top-next.true)

pub loop-begins-init : goal.loop-begins-init
loop-begins-init c =
    let a = c.args in
    let e = none_before a.held a.next (a.next + 0) (omega arith) in (
      rw (from_next a.held a.next a.top c.if-top-next.false) (some-range (is_held a.held a.next) a.next (a.top - a.next) 0 (omega arith) e),
      omega arith,
      e,
    )

-- where the next range begins
begins : (c : In-Some) → let a = c.args in
    Begins (is_held a.held a.next) a.next (a.top - a.next) c.loop-begins.first c.in-Some.begins
begins c = rw c.in-Some.is at c.following.ensures

-- it is one of those that are still to be counted
counts : (c : In-Some) → let a = c.args in
    let so = is_held a.held a.next in
    length (drop 1 (ranges_from so a.next (a.top - a.next) c.loop-begins.first))
    ≡ 1 + length (drop 1 (ranges_from so a.next (a.top - a.next) c.in-Some.begins))
counts c =
    let a = c.args in
    let b = begins c in
    rw b.others (some-range (is_held a.held a.next) a.next (a.top - a.next) c.in-Some.begins b.within b.free)

pub overflow_add-ranges : goal.overflow_add-ranges
overflow_add-ranges c =
    let a = c.args in
    record { fits = omega (arith, counts c, c.loop-begins.invariant.0, at-most-17 a.held a.next a.top) }

pub loop-begins-smaller : goal.loop-begins-smaller
loop-begins-smaller c = omega (arith, counts c)

pub loop-begins-preserved : goal.loop-begins-preserved
loop-begins-preserved c =
    let b = begins c in
    (omega (arith, counts c, c.loop-begins.invariant.0), b.within, b.free)
