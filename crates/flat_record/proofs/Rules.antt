-- A rule byte that the header doesn't have is refused as 15, after every 10 and before anything else.
-- Assumes nothing.
use Prim.Native.Nat.{◌<◌}
use mathlib.Core.Path.{◌≡◌, refl}
use mathlib.Core.Bool.{Bool, true, false}
use mathlib.Core.List.{[], ◌∷◌}
use lib.Ieee.{Float, round, lt}
use native.Mathlib.Omega.{arith}
use borrow.Author.Tests.{ne_eqb}
use Rattle.wire.specs.Checks.{Verdict, refused, taken, ◌else◌, checked, ◌into◌}
use Rattle.wire.specs.declared.refusal.Refusal.TheVariants.{Broken, Range}
use Rattle.clock.specs.Milliseconds.{whole}
use Rattle.clock.specs.Sheet.{sound}
use Rattle.clock.specs.Patience.{in_range, waiting}
use Rattle.clock.specs.declared.sheet.Sheet.{Sheet}
use Rattle.clock.specs.declared.patience.Patience.TheVariants.{Fixed}
use Rattle.record.specs.Record.{hangs}
use Rattle.asking.specs.Asking.{wish, asking}
use Rattle.record.specs.declared.Record.{Record}
use Rattle.flat_clock.specs.Waiting.{rule_of}
use Rattle.flat_clock.specs.declared.FlatPatience.{FlatPatience}

-- a refusal stands, whatever would come after it
stands : {A B : Type 0} (a b : Bool) (f : A → Verdict B)
    → checked ((a else Broken) ∷ []) (checked ((b else Broken) ∷ []) (refused Range) into f)
    ≡ checked ((a else Broken) ∷ (b else Broken) ∷ []) (refused Range)
stands true true f = refl
stands true false f = refl
stands false b f = refl

module _ (p : FlatPatience) (unknown : 2 < p.rule) where
  taken-for : rule_of p ≡ Fixed (whole 0)
  taken-for = rw (ne_eqb p.rule 0 (λ e. omega arith), ne_eqb p.rule 1 (λ e. omega arith), ne_eqb p.rule 2 (λ e. omega arith))

  out_of_range : in_range (rule_of p) ≡ false
  unfolding round lt
  out_of_range = rw taken-for

  pub no-wait : (s : Sheet) → waiting s (rule_of p) ≡ checked ((sound s else Broken) ∷ []) (refused Range)
  no-wait s = rw out_of_range

  pub no-request : (r : Record) (s : Sheet) (elapsed : Float)
      → asking r s (rule_of p) elapsed ≡ checked ((hangs r else Broken) ∷ (sound s else Broken) ∷ []) (refused Range)
  unfolding asking
  no-request r s elapsed = rw out_of_range (stands (hangs r) (sound s) (λ late. taken (wish r late)))
