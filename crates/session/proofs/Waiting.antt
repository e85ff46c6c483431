-- A wait ends: it is above 0 and at most 60,000, so it may itself be what has elapsed, and then it is over.
-- Assumes nothing.
use Rattle.std.specs.Prelude.{Some}
use Rattle.std.proofs.lemmas.Float.{le_refl, le_of_lt, le_left, le_trans, lt_of_lt_of_le, T_from_true}
use mathlib.Core.Path.{◌≡◌}
use mathlib.Core.List.{[], ◌∷◌}
use mathlib.Core.Bool.{true}
use lib.Dec.{T}
use lib.Ieee.{Float, round, le, lt}
use lib.Ieee.Bits.{is_true}
use lib.Ieee.Fits.{and_i, and_l, and_r}
use Rattle.wire.specs.Checks.{taken, ◌else◌}
use Rattle.wire.specs.declared.refusal.Refusal.TheVariants.{Broken, Range}
use Rattle.wire.proofs.Checks.{all-passed}
use Rattle.wire.proofs.Tests.{impossible}
use Rattle.clock.specs.Milliseconds.{whole, between}
use Rattle.clock.specs.Sheet.{sound}
use Rattle.clock.specs.Patience.{in_range, measured, clamped, wait_under, waiting, within_day, wait_over}
use Rattle.clock.specs.declared.sheet.Sheet.{Sheet}
use Rattle.clock.specs.declared.patience.Patience.{Patience}
use Rattle.clock.specs.declared.patience.Patience.TheVariants.{Never, Fixed, Measured}
use Rattle.clock.proofs.Waits.{wait-between}

-- what is above 0 and at most 60,000 may have elapsed, and is at least itself
lasts : (w : Float) → T (lt (whole 0) w) → T (le w (whole 60000)) → (within_day w ≡ true) × (le w w ≡ true)
lasts w p h =
    let longer : T (le (whole 60000) (whole 86400000)) = unfold le round in tt in
    let day : T (le w (whole 86400000)) = le_trans w (whole 60000) (whole 86400000) h longer in
    let from : T (le (whole 0) w) = le_of_lt (whole 0) w p in (
      is_true (within_day w) (and_i (le (whole 0) w) (le w (whole 86400000)) from day),
      is_true (le w w) (le_refl w (le_left w (whole 60000) h)),
    )

lasts-so : (sheet : Sheet) (rule : Patience) (w : Float) → sound sheet ≡ true → in_range rule ≡ true → wait_under sheet rule ≡ Some w
    → (within_day w ≡ true) × (le w w ≡ true)
lasts-so sheet Never w s r e = impossible cc
lasts-so sheet (Fixed v) w s r e =
    let t = T_from_true (in_range (Fixed v)) r in
    let same : v ≡ w = cc in
    rw (← same) (lasts v (and_l (lt (whole 0) v) (le v (whole 60000)) t) (and_r (lt (whole 0) v) (le v (whole 60000)) t))
lasts-so sheet (Measured floor ceiling) w s r e =
    let v : Float = clamped floor ceiling (measured sheet) in
    let t = T_from_true (in_range (Measured floor ceiling)) r in
    let b = and_r (lt (whole 0) floor) (between floor ceiling (whole 60000)) t in
    let c = T_from_true (between floor v ceiling) (wait-between sheet floor ceiling s r) in
    let above = lt_of_lt_of_le (whole 0) floor v (and_l (lt (whole 0) floor) (between floor ceiling (whole 60000)) t)
    (and_l (le floor v) (le v ceiling) c) in
    let within = le_trans v ceiling (whole 60000) (and_r (le floor v) (le v ceiling) c)
    (and_r (le floor ceiling) (le ceiling (whole 60000)) b) in
    let same : v ≡ w = cc in
    rw (← same) (lasts v above within)

pub wait-ends : (sheet : Sheet) (rule : Patience) (w : Float) → waiting sheet rule ≡ taken (Some w) → wait_over sheet rule w ≡ taken true
wait-ends sheet rule w e =
    let p = all-passed ((sound sheet else Broken) ∷ (in_range rule else Range) ∷ []) (taken (wait_under sheet rule)) (Some w) e in
    let u : wait_under sheet rule ≡ Some w = cc p.1 in
    let d = lasts-so sheet rule w p.0.0 p.0.1.0 u in
    rw (p.0.0, p.0.1.0, d.0, u, d.1)
