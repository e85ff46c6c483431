use mathlib.Core.Path.{ap, ◌∙◌}
use Rattle.names.proofs.Packing.{name-again}
use Rattle.names.specs.Names.{name_bytes}
use Rattle.flat.proofs.name.name_of.Goals as goal

pub returns : goal.returns
returns c = let e = c.get_name.ensures in (e, ap name_bytes e ∙ name-again c.args.bytes.now c.fits-bytes c.told-bytes)
