-- A record that is told a top, and perhaps the end, is contradicted, or it notes both.
-- Assumes nothing.
use Prim.Native.Nat.{ℕ}
use mathlib.Core.List.{[], ◌∷◌}
use mathlib.Core.Path.{◌≡◌, refl, sym, ◌∙◌}
use mathlib.Core.Bool.{Bool, true, false, not}
use Rattle.wire.specs.Checks.{Verdict, refused, taken, ◌else◌, checked}
use Rattle.wire.specs.declared.refusal.Refusal.{Refusal}
use Rattle.wire.specs.declared.refusal.Refusal.TheVariants.{Contradiction}
use Rattle.wire.proofs.Tests.{by-test}
use Rattle.wire.proofs.Checks.{not-both, taken-same, refused-same}
use Rattle.record.specs.declared.Record.{Record}
use Rattle.taking.specs.Taking.{clash, told}

-- by the answer u of telling it the top t
module _ (r : Record) (t : ℕ) (final : Bool) where
  abbrev pub noted : Record
  noted = told r r.next.0 r.held t final

  abbrev pub telling : Verdict Record
  telling = checked ((not (clash r t final) else Contradiction) ∷ []) (taken noted)

  pub contradicted : {u : Verdict Record} {why : Refusal} → u ≡ telling → u ≡ refused why → (clash r t final ≡ true) × (why ≡ Contradiction)
  contradicted {u = u} {why = why} e f =
      by-test (clash r t final)
      (λ q. (q, sym (refused-same Contradiction why (rw q at (sym e ∙ f)))))
      (λ q. not-both (taken noted) why noted (rw q at (sym e ∙ f)) refl)

  pub heard : {u : Verdict Record} {x : Record} → u ≡ telling → u ≡ taken x → (clash r t final ≡ false) × (x ≡ noted)
  heard {u = u} {x = x} e f =
      by-test (clash r t final)
      (λ q. not-both (refused Contradiction) Contradiction x refl (rw q at (sym e ∙ f)))
      (λ q. (q, sym (taken-same noted x (rw q at (sym e ∙ f)))))
