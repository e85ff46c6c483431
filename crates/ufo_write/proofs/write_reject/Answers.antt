-- `write_reject` meets its contract: what the reader would refuse, then 9, then the packet.
use mathlib.Core.Path.{refl}
use borrow.Author.Tests.{le-leb, lt-leb}
use lib.ListN.{length}
use Rattle.wire.proofs.Tests.{one-of-test, one-of-fails}
use Rattle.wire.specs.declared.refusal.Refusal.TheVariants.{Form, Room}
use Rattle.wire.proofs.Settling.{refuses, writes}
use Rattle.ufo.specs.Down.{write, reject}
use Rattle.ufo_write.proofs.DownReplies.{reject-reply}
use Rattle.ufo_write.proofs.write_reject.Goals as goal

pub returns-then-out-lt2 : goal.returns-then-out-lt2
returns-then-out-lt2 c =
    let a = c.args in
    rw (reject-reply, one-of-test a.reason 65 83 c.in-65.is, lt-leb 2 (length a.out.now) c.if-out-lt2.true)
    (refuses _ _ Room refl)

pub returns-else-out-lt2 : goal.returns-else-out-lt2
returns-else-out-lt2 c =
    let a = c.args in
    rw (reject-reply, one-of-test a.reason 65 83 c.in-65.is, le-leb 2 (length a.out.now) c.if-out-lt2.false)
    (writes _ _ (write (reject a.reason)) _ 2 refl refl c.if-out-lt2.false refl)

pub returns-in_default : goal.returns-in_default
returns-in_default c =
    rw (reject-reply, one-of-fails c.args.reason 65 83 c.in_default.in_default-own.rest.1) (refuses _ _ Form refl)
