use mathlib.Core.Path.{ap, ◌∙◌}
use Rattle.names.proofs.Packing.{user-again}
use Rattle.names.specs.Names.{user_bytes}
use Rattle.flat.proofs.name.user_of.Goals as goal

pub returns : goal.returns
returns c = let e = c.get_user.ensures in (e, ap user_bytes e ∙ user-again c.args.bytes.now c.fits-bytes c.told-bytes)
