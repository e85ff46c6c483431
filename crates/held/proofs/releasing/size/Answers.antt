-- `size` meets its contract: each turn counts the block of one message more.
use Prim.Native.Nat.{◌+◌}
use mathlib.Core.Path.{◌≡◌, sym, ◌∙◌}
use native.Mathlib.Omega.{arith}
use Rattle.wire.specs.Fields.{Bytes}
use Rattle.blocks.specs.Blocks.{stated}
use Rattle.held.specs.Slots.{slot_of, slot_at}
use Rattle.held.proofs.Going.{none-sized, has-room, size-lean, size-more}
use Rattle.held.proofs.releasing.size.Goals.{After-stated}
use Rattle.held.proofs.releasing.size.Goals as goal

bytes : (c : After-stated) → Bytes c.args.area.now
bytes c i = (c.type_inv.area i).fits

states : (c : After-stated) → c.stated.result ≡ stated (slot_at c.args.area.now (slot_of (c.args.number + c.loop-ahead.ahead)))
states c = rw c.slot_ahead.ensures.0 at c.stated.ensures

pub loop-ahead-init : goal.loop-ahead-init
loop-ahead-init c = sym (none-sized c.args.area.now c.args.number)

pub overflow_add-bytes-in-loop-ahead : goal.overflow_add-bytes-in-loop-ahead
overflow_add-bytes-in-loop-ahead c =
    let a = c.args in
    let few = c.requires.few in
    let room = has-room a.area.now (bytes c) a.number a.messages c.requires c.loop-ahead.ahead c.loop-ahead-test.true in
    let lean = size-lean a.area.now (bytes c) a.number a.messages c.requires c.loop-ahead.ahead c.loop-ahead-test.true in
    record { fits = omega (arith, states c) }

pub loop-ahead-preserved : goal.loop-ahead-preserved
loop-ahead-preserved c =
    let a = c.args in
    sym (size-more a.area.now (bytes c) a.number a.messages c.requires c.loop-ahead.ahead c.loop-ahead-test.true
    ∙ rw (states c, c.loop-ahead.invariant))
