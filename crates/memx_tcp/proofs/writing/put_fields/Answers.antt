-- What is stored one after another is laid out so: of each type by computation.
use mathlib.Core.Path.{◌≡◌}
use Rattle.wire.specs.Fields.{bytes_of}
use Rattle.memx_tcp.specs.Layout.{fields_of}
use Rattle.memx_tcp.specs.Packet.{laid}
use Rattle.memx_tcp.specs.Writing.{values_of}
use Rattle.memx_tcp.proofs.writing.put_fields.Goals as goal

pub returns-in-ReplayBegin : goal.returns-in-ReplayBegin
unfolding fields_of laid bytes_of values_of
returns-in-ReplayBegin c =
    let kind : c.args.p.kind ≡ 5 = rw c.in-ReplayBegin.is at c.requires.0 in
    rw (c.put4.ensures, c.put8-in-ReplayBegin.ensures, kind)

pub returns-in-StreamBegin : goal.returns-in-StreamBegin
unfolding fields_of laid bytes_of values_of
returns-in-StreamBegin c =
    let kind : c.args.p.kind ≡ 8 = rw c.in-StreamBegin.is at c.requires.0 in
    rw (c.put8-in-StreamBegin-2.ensures, c.put8-in-StreamBegin.ensures, kind)

pub returns-in-Replay : goal.returns-in-Replay
unfolding fields_of laid bytes_of values_of
returns-in-Replay c =
    let kind : c.args.p.kind ≡ 101 = rw c.in-Replay.is at c.requires.0 in
    rw (c.put4-in-Replay.ensures, c.put8-in-Replay-2.ensures, c.put8-in-Replay.ensures, kind)

pub returns-in-Stream : goal.returns-in-Stream
unfolding fields_of laid bytes_of values_of
returns-in-Stream c =
    let kind : c.args.p.kind ≡ 103 = rw c.in-Stream.is at c.requires.0 in
    rw (c.put8-in-Stream-2.ensures, c.put8-in-Stream.ensures, kind)
