-- `write_end` meets its contract: what the reader would refuse, then 9, then the packet.
use Prim.Native.Nat.{◌-◌, ◌^◌}
use mathlib.Core.Path.{refl}
use borrow.Author.Tests.{le-leb, lt-leb}
use lib.ListN.{length}
use native.Mathlib.Omega.{arith}
use Rattle.wire.specs.Fields.{bytes_of}
use Rattle.wire.specs.declared.refusal.Refusal.TheVariants.{Bound, Room}
use Rattle.wire.proofs.Settling.{refuses, writes}
use Rattle.ufo.specs.Down.{write, end}
use Rattle.ufo_write.proofs.DownReplies.{end-reply}
use Rattle.ufo_write.proofs.write_end.Goals as goal

pub returns-then-number-ge-HIGHEST : goal.returns-then-number-ge-HIGHEST
returns-then-number-ge-HIGHEST c =
    rw (end-reply, lt-leb c.args.total.0 (2 ^ 32 - 2) (omega arith)) (refuses _ _ Bound refl)

pub returns-then-out-lt5 : goal.returns-then-out-lt5
unfolding bytes_of
returns-then-out-lt5 c =
    let a = c.args in
    rw (end-reply, le-leb a.total.0 (2 ^ 32 - 2) (omega arith), lt-leb 5 (length a.out.now) c.if-out-lt5.true) (refuses _ _ Room refl)

pub returns : goal.returns
unfolding bytes_of
returns c =
    let a = c.args in
    rw (end-reply, le-leb a.total.0 (2 ^ 32 - 2) (omega arith), le-leb 5 (length a.out.now) c.if-out-lt5.false)
    (writes _ _ (write (end a.total.0)) _ 5 refl refl c.if-out-lt5.false c.put4.ensures)
