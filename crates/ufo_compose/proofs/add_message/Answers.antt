-- What stands in the output is read first (`begun`). Behind it the reply is the message's own, in the part of the output that is left
-- (`behind`): what the writer did there, given back, settles the whole.
use Prim.Native.Nat.{◌-◌}
use mathlib.Core.List.{◌++◌}
use mathlib.Core.Path.{◌≡◌, sym, ◌∙◌}
use native.Mathlib.Omega.{arith}
use borrow.Rule.Slice.PartMut.{mid_of, mid_len}
use lib.ListN.{length, take, length-take}
use Rattle.wire.specs.Checks.{taken, ◌into◌}
use Rattle.wire.specs.declared.refusal.Refusal.TheVariants.{Overlong, Framing}
use Rattle.wire.proofs.Checks.{passed-on, told-refused}
use Rattle.wire.proofs.Settling.{refuses, settled-by}
use Rattle.ufo_up.proofs.UpPacket.{was-taken}
use Rattle.ufo_up_write.specs.WriteUp.{reply}
use Rattle.ufo_compose.specs.Compose.{message_of, so_far, add_reply}
use Rattle.ufo_compose.proofs.Adding.{Begun, begun-short, add-past, add-refused, add-over, add-behind}
use Rattle.ufo_compose.proofs.Given.{given-refused, given-written, given_inside}
use Rattle.ufo_compose.proofs.add_message.Goals.{Else-room-size_of, In_ok-read_so_far}
use Rattle.ufo_compose.proofs.add_message.Goals as goal

-- the output's first bytes are taken so far
begun : (c : In_ok-read_so_far) → let a = c.args in Begun a.out.now a.used
begun c =
    let a = c.args in
    record {
      inside = c.if-out-used.false;
      bytes = λ k. (c.slice_known-1.given k).fits;
      begun = was-taken (so_far (take a.used a.out.now)) c.in_ok-read_so_far.field-0 (sym c.read_so_far.ensures ∙ c.in_ok-read_so_far.was);
    }

-- and the message goes behind them
behind : (c : Else-room-size_of) → Begun c.args.out.now c.args.used → let a = c.args in
    let m = message_of a.message a.«data».now in
    let out = a.out.now in
    add_reply m out a.used ≡ reply m (length (mid_of a.used (length out - a.used) out)) into (λ b. taken (take a.used out ++ b))
behind c b =
    let a = c.args in
    let out = a.out.now in
    rw (mid_len a.used (length out) out (omega arith))
    (add-behind out a.used b (message_of a.message a.«data».now) (omega (arith, c.size_of.ensures, c.if-room-size_of.false)))

pub returns-then-out-used : goal.returns-then-out-used
returns-then-out-used c =
    let a = c.args in
    refuses _ _ Framing (add-past (message_of a.message a.«data».now) a.out.now a.used c.if-out-used.true)

pub slice_bounds-read_so_far-end-2 : goal.slice_bounds-read_so_far-end-2
slice_bounds-read_so_far-end-2 c =
    let a = c.args in
    rw (length-take a.used a.out.now) (omega arith)

pub returns-in_err-read_so_far : goal.returns-in_err-read_so_far
returns-in_err-read_so_far c =
    let a = c.args in
    let why = c.in_err-read_so_far.field-0.0 in
    let was = told-refused (so_far (take a.used a.out.now)) length why (sym c.read_so_far.ensures ∙ c.in_err-read_so_far.was) in
    rw (passed-on c.from_residual.result c.from_residual.ensures.1)
    (refuses _ _ why (add-refused (message_of a.message a.«data».now) a.out.now a.used why (omega arith) was))

pub overflow_sub-room : goal.overflow_sub-room
overflow_sub-room c = let a = c.args in begun-short a.out.now a.used (begun c)

pub returns-then-room-size_of : goal.returns-then-room-size_of
returns-then-room-size_of c =
    let a = c.args in
    refuses _ _ Overlong (add-over a.out.now a.used (begun (goal.at.returns-then-room-size_of c).In_ok-read_so_far)
    (message_of a.message a.«data».now) (omega (arith, c.size_of.ensures, c.if-room-size_of.true)))

pub overflow_add-result : goal.overflow_add-result
overflow_add-result c =
    let l = given_inside c.args.out.now _ c.args.used (omega arith) _ _ c.in_ok-added.added c.in_ok-added.was
    c.write_message.ensures (omega arith) in
    omega (arith, l)

pub returns-in_err-added : goal.returns-in_err-added
returns-in_err-added c =
    let a = c.args in
    let at = goal.at.returns-in_err-added c in
    let r = c.from_residual-in_err-added in
    rw (passed-on r.result r.ensures.1) (settled-by (sym (behind at.Else-room-size_of (begun at.In_ok-read_so_far)))
    (given-refused a.out.now _ a.used (omega arith) _ _ c.in_err-added.field-0.0 c.in_err-added.was c.write_message.ensures))

pub returns : goal.returns
returns c =
    let a = c.args in
    let at = goal.at.returns c in
    settled-by (sym (behind at.Else-room-size_of (begun at.In_ok-read_so_far)))
    (given-written a.out.now _ a.used (omega arith) _ _ c.in_ok-added.added c.in_ok-added.was c.write_message.ensures)
