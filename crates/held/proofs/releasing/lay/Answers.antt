-- `lay` meets its contract: each turn lays the block of one message more behind the others.
use Prim.Native.Nat.{◌+◌, ◌≤◌}
use mathlib.Core.Path.{◌≡◌, sym, ◌∙◌}
use native.Mathlib.Omega.{arith}
use lib.ListN.{length}
use Rattle.wire.specs.Fields.{Bytes}
use Rattle.blocks.specs.Blocks.{stated}
use Rattle.held.specs.Slots.{slot_of, slot_at}
use Rattle.held.proofs.Going.{none-sized, none-laid, has-room, size-more, size-within, lay-more}
use Rattle.held.proofs.releasing.lay.Goals.{After-stated-bytes}
use Rattle.held.proofs.releasing.lay.Goals as goal

bytes : (c : After-stated-bytes) → Bytes c.args.area.now
bytes c i = (c.type_inv.area i).fits

states : (c : After-stated-bytes) → c.stated-bytes.result ≡ stated (slot_at c.args.area.now (slot_of (c.args.number + c.loop-ahead.ahead)))
states c = rw c.slot_ahead-slot.ensures.0 at c.stated-bytes.ensures

-- there is room for the block
within : (c : After-stated-bytes) → c.loop-ahead.to + (2 + c.stated-bytes.result) ≤ length c.args.out.now
within c =
    let a = c.args in
    let w = size-within a.area.now (bytes c) a.number a.messages c.requires.0 c.loop-ahead.ahead c.loop-ahead-test.true in
    omega (arith, states c, c.loop-ahead.invariant.1, c.requires.1)

pub loop-ahead-init : goal.loop-ahead-init
loop-ahead-init c =
    let a = c.args in
    (sym (none-laid a.area.now a.number a.out.now a.at), omega (arith, none-sized a.area.now a.number))

pub copy-requires : goal.copy-requires
copy-requires c =
    let a = c.args in
    let p = (goal.at.copy-requires c).After-stated-bytes in
    let w = within p in
    let room = has-room a.area.now (bytes p) a.number a.messages c.requires.0 c.loop-ahead.ahead c.loop-ahead-test.true in
    let long = c.requires.0.long in
    (omega arith, omega (arith, states p, c.slot_ahead-slot.ensures.1))

pub overflow_add-to : goal.overflow_add-to
overflow_add-to c = let w = within (goal.at.overflow_add-to c).After-stated-bytes in omega arith

pub loop-ahead-preserved : goal.loop-ahead-preserved
loop-ahead-preserved c =
    let a = c.args in
    let p = (goal.at.loop-ahead-preserved c).After-stated-bytes in (
      c.copy.ensures
          ∙ rw (c.loop-ahead.invariant.0, c.loop-ahead.invariant.1, states p, c.slot_ahead-slot.ensures.0)
          (lay-more a.area.now (bytes p) a.number a.messages c.requires.0 c.loop-ahead.ahead c.loop-ahead-test.true a.out.now a.at),
      omega (
        arith,
        states p,
        c.loop-ahead.invariant.1,
        size-more a.area.now (bytes p) a.number a.messages c.requires.0 c.loop-ahead.ahead c.loop-ahead-test.true,
      ),
    )
