use mathlib.Core.Path.{sym}
use lib.ListN.{length}
use Rattle.wire.proofs.Settling.{settled-by}
use Rattle.ufo_up.specs.Up.{heartbeat}
use Rattle.ufo_up_write.proofs.UpReplies.{reply-fit}
use Rattle.ufo_up_write.proofs.write_heartbeat.Goals as goal

pub returns : goal.returns
returns c =
    settled-by (sym (reply-fit heartbeat (length c.args.out.now) tt)) c.write_alone.ensures
