use mathlib.Core.Path.{sym}
use lib.ListN.{length}
use Rattle.wire.proofs.Settling.{settled-by}
use Rattle.ufo_up.specs.Up.{logout}
use Rattle.ufo_up_write.proofs.UpReplies.{reply-fit}
use Rattle.ufo_up_write.proofs.write_logout.Goals as goal

pub returns : goal.returns
returns c =
    settled-by (sym (reply-fit logout (length c.args.out.now) tt)) c.write_alone.ensures
