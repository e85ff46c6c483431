-- `deliver` meets its contract: what is held and next is laid behind the room of the packet's own, and then these before it.
use mathlib.Core.Path.{◌≡◌, sym, ◌∙◌}
use Prim.Native.Nat.{◌+◌, ◌-◌, ◌≤◌}
use native.Mathlib.Omega.{arith}
use lib.ListN.{length}
use Rattle.wire.specs.Checks.{taken}
use Rattle.wire.proofs.Checks.{passed-on}
use Rattle.blocks.specs.Blocks.{place_after}
use Rattle.blocks.proofs.Skipping.{place_inside}
use Rattle.taking.proofs.Delivering.{hands_none, hands-back, hands-over, let-fits}
use Rattle.taking.proofs.deliver.deliver.Goals.{In_ok-from, In_ok-more}
use Rattle.taking.proofs.deliver.deliver.Goals as goal

-- the place that skipping reached
place-so : (c : In_ok-from) → let a = c.args in
    (place_after a.k a.batch.datagram.now a.batch.place ≡ taken c.in_ok-from.from) × (c.in_ok-from.from ≤ length a.batch.datagram.now)
place-so c =
    let a = c.args in
    let e = sym c.skip.ensures ∙ c.in_ok-from.was in
    (e, place_inside a.k a.batch.datagram.now a.batch.place c.in_ok-from.from e)

-- what was let go fits behind the packet's own
fits-so : (c : In_ok-more) → let a = c.args in
    let own = length a.batch.datagram.now - c.in_ok-from.from in
    (own + c.in_ok-more.more.bytes ≤ length a.out.now) × (length c.release.new.out ≡ length a.out.now)
fits-so c =
    let a = c.args in
    let own = length a.batch.datagram.now - c.in_ok-from.from in
    let-fits a.held a.area.now (a.batch.first + a.batch.count) own a.out.now c.in_ok-more.more _ (rw (c.in_ok-more.was, c.past.ensures) at
    c.release.ensures)

pub overflow_sub-own : goal.overflow_sub-own
overflow_sub-own c = (place-so (goal.at.overflow_sub-own c).In_ok-from).1

pub returns-in_err-from : goal.returns-in_err-from
returns-in_err-from c =
    let a = c.args in
    rw (passed-on c.from_residual.result c.from_residual.ensures.1)
    (hands_none a.k a.batch.datagram.now a.batch.place a.held a.area.now (a.batch.first + a.batch.count) a.out.now _ (sym c.skip.ensures ∙
    c.in_err-from.was))

pub returns-in_err-more : goal.returns-in_err-more
returns-in_err-more c =
    let a = c.args in
    let r = c.from_residual-in_err-more in
    rw (passed-on r.result r.ensures.1)
    (hands-back a.k a.batch.datagram.now a.batch.place a.held a.area.now (a.batch.first + a.batch.count) a.out.now _ (place-so
    (goal.at.returns-in_err-more c).In_ok-from).0
    _ _ (rw (c.in_err-more.was, c.past.ensures) at c.release.ensures))

pub copy-requires : goal.copy-requires
copy-requires c =
    let w = (place-so (goal.at.copy-requires c).In_ok-from).1 in
    let f = fits-so (goal.at.copy-requires c).In_ok-more in
    (omega (arith, f.0, f.1), omega arith)

pub overflow_add-result : goal.overflow_add-result
overflow_add-result c =
    let f = fits-so (goal.at.overflow_add-result c).In_ok-more in
    omega (arith, f.0)

pub returns : goal.returns
returns c =
    let a = c.args in
    let at = goal.at.returns c in
    hands-over a.k a.batch.datagram.now a.batch.place a.held a.area.now (a.batch.first + a.batch.count) a.out.now _ (place-so
    at.In_ok-from).0 _ _ _
    (rw (c.in_ok-more.was, c.past.ensures) at c.release.ensures) c.copy.ensures
