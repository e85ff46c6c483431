use mathlib.Core.Path.{◌∙◌}
use lib.ListN.{replicate}
use Rattle.names.specs.Names.{user_bytes}
use Rattle.names.proofs.Packing.{length-user_bytes}
use Rattle.wire.proofs.Settling.{replaced}
use Rattle.names.proofs.user_bytes.Goals as goal

pub returns : goal.returns
returns c =
    let u = c.args.u in
    c.put_user.ensures ∙ replaced (user_bytes u) (replicate 6 0) (length-user_bytes u)
