use mathlib.Core.Path.{◌∙◌}
use lib.ListN.{replicate}
use Rattle.names.specs.Names.{name_bytes}
use Rattle.names.proofs.Packing.{length-name_bytes}
use Rattle.wire.proofs.Settling.{replaced}
use Rattle.names.proofs.name_bytes.Goals as goal

pub returns : goal.returns
returns c =
    let n = c.args.n in
    c.put_name.ensures ∙ replaced (name_bytes n) (replicate 10 0) (length-name_bytes n)
