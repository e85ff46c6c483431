use mathlib.Core.Path.{◌≡◌}
use mathlib.Core.Bool.{◌&&◌}
use lib.ListN.{drop}
use Rattle.soup.specs.Read.{unbroken}
use Rattle.soup.proofs.line.is_unbroken.Given as goal

abbrev pub invariant-loop-b : goal.invariant-loop-b
invariant-loop-b l = l.whole && unbroken (drop l.b-index l.s) ≡ unbroken l.s
