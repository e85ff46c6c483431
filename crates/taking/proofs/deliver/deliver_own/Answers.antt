-- `deliver_own` meets its contract: the blocks before N are skipped, and those from there on are copied, if they have room.
use mathlib.Core.Path.{◌≡◌, sym, ◌∙◌}
use native.Mathlib.Omega.{arith}
use Rattle.wire.specs.Checks.{taken}
use Rattle.wire.proofs.Checks.{passed-on}
use Rattle.blocks.specs.Blocks.{place_after}
use Rattle.blocks.proofs.Skipping.{place_inside}
use Rattle.taking.proofs.Delivering.{own-none, own_back, own-over}
use Rattle.taking.proofs.deliver.deliver_own.Goals.{In_ok-from}
use Rattle.taking.proofs.deliver.deliver_own.Goals as goal

-- the place that was reached
stands : (c : In_ok-from) → let a = c.args in place_after a.k a.batch.datagram.now a.batch.place ≡ taken c.in_ok-from.from
stands c = sym c.skip.ensures ∙ c.in_ok-from.was

pub overflow_sub-bytes : goal.overflow_sub-bytes
overflow_sub-bytes c =
    let a = c.args in
    place_inside a.k a.batch.datagram.now a.batch.place _ (stands (goal.at.overflow_sub-bytes c).In_ok-from)

pub returns-in_err-from : goal.returns-in_err-from
returns-in_err-from c =
    let a = c.args in
    rw (passed-on c.from_residual.result c.from_residual.ensures.1)
    (own-none a.k a.batch.datagram.now a.batch.place a.out.now _ (sym c.skip.ensures ∙ c.in_err-from.was))

pub returns-then-out-bytes : goal.returns-then-out-bytes
returns-then-out-bytes c =
    let a = c.args in
    own_back a.k a.batch.datagram.now a.batch.place a.out.now _ (stands (goal.at.returns-then-out-bytes c).In_ok-from) c.if-out-bytes.true

pub copy-requires : goal.copy-requires
copy-requires c =
    let a = c.args in
    let h = place_inside a.k a.batch.datagram.now a.batch.place _ (stands (goal.at.copy-requires c).In_ok-from) in
    omega arith

pub returns : goal.returns
returns c =
    let a = c.args in
    own-over a.k a.batch.datagram.now a.batch.place a.out.now _ (stands (goal.at.returns c).In_ok-from) _ c.if-out-bytes.false
    c.copy.ensures
