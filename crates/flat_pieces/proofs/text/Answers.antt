use mathlib.Core.Path.{sym, ◌∙◌}
use lib.ListN.{length-replicate}
use Rattle.wire.proofs.Settling.{replaced}
use Rattle.wire.proofs.Width.{length_part}
use Rattle.flat_pieces.proofs.text.Goals as goal

pub returns : goal.returns
returns g c =
    c.copy.ensures
    ∙ replaced _ _ (length_part c.args.at g.row.N c.args.s.now c.requires ∙ sym (length-replicate g.row.N 0))
