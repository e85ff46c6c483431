-- Numbers begin at 1: a record that would wait for message 0 is refused as broken, and an opened one waits for message 1.
-- Assumes nothing.
use mathlib.Core.Path.{◌≡◌, refl, ap, sym}
use mathlib.Core.Bool.{false, not}
use mathlib.Core.List.{[], ◌∷◌}
use Rattle.wire.specs.Checks.{refused, taken, ◌else◌}
use Rattle.wire.specs.declared.kinds.Name.{Name}
use Rattle.wire.specs.declared.kinds.SessionId.{SessionId}
use Rattle.wire.specs.declared.refusal.Refusal.TheVariants.{Form, Absent, Broken}
use Rattle.wire.proofs.Checks.{all-passed, taken-same}
use Rattle.names.specs.Names.{name_bytes}
use Rattle.text.specs.Text.{text_then_spaces, blank}
use Rattle.record.specs.Record.{fresh, opening, hangs}
use Rattle.record.specs.Standing.{standing}
use Rattle.record.specs.declared.Record.{Record}
use Rattle.record.specs.declared.Session.TheVariants.{Ufo, Memx}

module _ (r : Record) (zero : r.next.0 ≡ 0) where
  pub nought-is-broken : hangs r ≡ false
  unfolding hangs
  nought-is-broken = rw zero

  pub nought-never-stands : standing r ≡ refused Broken
  unfolding standing
  nought-never-stands = rw nought-is-broken

pub opened-from-one : (name : Name) (r : Record) → opening name ≡ taken r → r.next.0 ≡ 1
opened-from-one name r e =
    let checks = (text_then_spaces (name_bytes name) else Form) ∷ (not (blank (name_bytes name)) else Absent) ∷ [] in
    let same = taken-same (fresh (Ufo name)) r (all-passed checks (taken (fresh (Ufo name))) r e).1 in
    sym (ap (λ (k : Record). k.next.0) same)

pub memx-opened-from-one : (id : SessionId) → (fresh (Memx id)).next.0 ≡ 1
memx-opened-from-one id = refl
