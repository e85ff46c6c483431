-- `hand_over_own` meets its contract: 12; else what is delivered, all of it the packet's own, has room or not, and the record follows.
use Prim.Native.Nat.{◌+◌, ◌-◌}
use mathlib.Core.Bool.{false}
use native.Mathlib.Omega.{arith}
use lib.ListN.{length, drop}
use Rattle.wire.specs.Reply.{within, Settled}
use Rattle.wire.proofs.Checks.{passed-on}
use Rattle.wire.proofs.Settling.{settled-by}
use Rattle.blocks.specs.Blocks.{frames}
use Rattle.reports.specs.Reports.{blocks_from}
use Rattle.taking.proofs.Telling.{contradicted, heard}
use Rattle.taking.proofs.HandingOver.{hands-own, tells-clash, tells-own}
use Rattle.taking.proofs.hand_over_own.Goals.{After-deliver_own}
use Rattle.taking.proofs.hand_over_own.Goals as goal

settled : (c : After-deliver_own) → let a = c.args in
    Settled (within (length a.out.now)
    (frames (drop (a.kept.next.0 - a.batch.first) (blocks_from a.batch.datagram.now a.batch.place a.batch.count))))
    a.out.now c.deliver_own.result c.deliver_own.new.out
settled c =
    let a = c.args in
    settled-by (hands-own a.batch (a.kept.next.0 - a.batch.first) (length a.out.now) (omega arith)) c.deliver_own.ensures

pub returns-in_err-told : goal.returns-in_err-told
returns-in_err-told c =
    let a = c.args in
    let t = contradicted a.kept (a.batch.first + a.batch.count - 1) false (rw c.past-past.ensures at c.tell.ensures) c.in_err-told.was in
    rw (passed-on c.from_residual.result c.from_residual.ensures.1, t.1) (tells-clash a.batch a.kept a.area.now a.out.now t.0)

pub returns-in_err-bytes : goal.returns-in_err-bytes
returns-in_err-bytes c =
    let a = c.args in
    let t = heard a.kept (a.batch.first + a.batch.count - 1) false (rw c.past-past.ensures at c.tell.ensures) c.in_ok-told.was in
    let r = c.from_residual-in_err-bytes in
    rw (passed-on r.result r.ensures.1)
    (tells-own a.batch a.kept a.area.now a.out.now c.requires.1 c.requires.2 t.0 c.requires.0 _ _
    (rw c.in_err-bytes.was at (settled (goal.at.returns-in_err-bytes c).After-deliver_own)))

pub returns : goal.returns
returns c =
    let a = c.args in
    let t = heard a.kept (a.batch.first + a.batch.count - 1) false (rw c.past-past.ensures at c.tell.ensures) c.in_ok-told.was in
    rw (t.1, c.past-past.ensures)
    (tells-own a.batch a.kept a.area.now a.out.now c.requires.1 c.requires.2 t.0 c.requires.0 _ _
    (rw c.in_ok-bytes.was at (settled (goal.at.returns c).After-deliver_own)))
