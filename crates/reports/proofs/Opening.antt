-- A name opens a record exactly if it is lawful in `A`.
-- Assumes nothing.
use mathlib.Core.Path.{◌≡◌, refl}
use mathlib.Core.Bool.{not}
use mathlib.Core.List.{[], ◌∷◌}
use mathlib.Core.Logic.{◌↔◌}
use native.Mathlib.Omega.{arith}
use Rattle.wire.specs.Checks.{taken, ◌else◌}
use Rattle.wire.specs.declared.kinds.Name.{Name}
use Rattle.wire.specs.declared.refusal.Refusal.TheVariants.{Form, Absent}
use Rattle.wire.proofs.Checks.{all-passed}
use Rattle.wire.proofs.Tests.{failed}
use Rattle.names.specs.Names.{name_bytes}
use Rattle.names.proofs.Packing.{length-name_bytes}
use Rattle.text.specs.Text.{text_then_spaces, blank}
use Rattle.ufo.specs.Down as ufo
use Rattle.record.specs.Record.{fresh, opening}
use Rattle.record.specs.declared.Session.TheVariants.{Ufo}

pub opens-as-in-A : (name : Name) → (opening name ≡ taken (fresh (Ufo name))) ↔ ufo.Fit (ufo.accept (name_bytes name) 1)
opens-as-in-A name = (lawful, opens) where
  lawful : opening name ≡ taken (fresh (Ufo name)) → ufo.FitAccept (name_bytes name) 1
  lawful e =
      let checks = (text_then_spaces (name_bytes name) else Form) ∷ (not (blank (name_bytes name)) else Absent) ∷ [] in
      let p = (all-passed checks (taken (fresh (Ufo name))) (fresh (Ufo name)) e).0 in
      record { ten = length-name_bytes name; letters = p.0; named = failed refl p.1.0; some = omega arith; bound = omega arith }

  opens : ufo.FitAccept (name_bytes name) 1 → opening name ≡ taken (fresh (Ufo name))
  opens f = rw (f.letters, f.named)
