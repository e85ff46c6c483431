-- Each return lays the room's answer flat (`Flattening`). Of a packet its fields are asked for besides, and they are those of the bytes at
-- the buffer's start (`Handing`).
use mathlib.Core.Path.{sym, ap, ◌∙◌}
use lib.Seq.{length-take-le}
use Rattle.wire.specs.Checks.{taken}
use Rattle.soup_pieces.specs.declared.Taken.{Taken}
use Rattle.flat_pieces.proofs.Flattening.{flattens}
use Rattle.flat_pieces.proofs.Handing.{AsRead, as_read}
use Rattle.flat_pieces.proofs.take.Goals.{In-Ok-Packet}
use Rattle.flat_pieces.proofs.take.Goals as goal

is_read : (c : In-Ok-Packet)
    → AsRead c.in-Ok-Packet.packet c.in-Ok-Packet.bytes c.verdict.new.buffer
is_read c =
    let a = c.args in
    as_read a.given a.place c.verdict.ensures (c.in-Ok-Packet.is ∙ ap (λ (t : Taken). taken t) c.in-Ok-Packet.field-0-is)

pub slice_bounds-with_fields-end : goal.slice_bounds-with_fields-end
slice_bounds-with_fields-end c = (is_read (goal.at.slice_bounds-with_fields-end c).In-Ok-Packet).fits

pub slice_bounds-with_fields-end-in-Ok-Packet : goal.slice_bounds-with_fields-end-in-Ok-Packet
slice_bounds-with_fields-end-in-Ok-Packet c = sym
    (length-take-le _ _ (is_read (goal.at.slice_bounds-with_fields-end-in-Ok-Packet c).In-Ok-Packet).fits)

pub with_fields-requires : goal.with_fields-requires
with_fields-requires c =
    (rw (c.up_to-flat.ensures, c.none_ended-none.ensures), (is_read (goal.at.with_fields-requires c).In-Ok-Packet).says)

pub returns-in-Err : goal.returns-in-Err
returns-in-Err c =
    flattens c.verdict.ensures (rw (c.in-Err.is, ← c.number.ensures, c.none_ended-none.ensures))

pub returns-in-Ok-UsedUp : goal.returns-in-Ok-UsedUp
returns-in-Ok-UsedUp c =
    flattens c.verdict.ensures (rw (c.in-Ok-UsedUp.is, c.in-Ok-UsedUp.field-0-is, c.up_to.ensures, c.none_ended-none.ensures))

pub returns-in-Ok-Packet : goal.returns-in-Ok-Packet
returns-in-Ok-Packet c =
    flattens c.verdict.ensures
    (rw (
      c.in-Ok-Packet.is,
      c.in-Ok-Packet.field-0-is,
      c.with_fields.ensures,
      c.number_of.ensures,
      c.up_to-flat.ensures,
      c.none_ended-none.ensures,
    ))

pub returns-in-Ok-Unfit : goal.returns-in-Ok-Unfit
returns-in-Ok-Unfit c =
    flattens c.verdict.ensures
    (rw (
      c.in-Ok-Unfit.is,
      c.in-Ok-Unfit.field-0-is,
      c.number-in-Ok-Unfit.ensures,
      c.up_to-flat-in-Ok-Unfit.ensures,
      c.none_ended-none.ensures,
    ))
