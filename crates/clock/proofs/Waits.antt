-- The measured wait of a sound sheet lies between the floor and the ceiling.
-- Assumes nothing.
use Rattle.std.specs.Prelude.{if◌then◌else◌}
use Rattle.std.specs.Float.{NotNan}
use Rattle.std.proofs.lemmas.Float.{le_refl, le_of_not-lt, le_left, le_right, T_from_true}
use mathlib.Core.Path.{◌≡◌}
use Prim.Native.Nat.{ℕ, ◌^◌, ◌≤◌}
use mathlib.Core.Bool.{Bool, true, false, not}
use lib.IntN.{pos}
use lib.Ieee.{Float, round, binary64, mul, is_nan, le, lt}
use lib.Ieee.Fits.{and_i, and_l, and_r}
use lib.Ieee.Bits.{is_true}
use lib.Dec.{T, lit≤}
use Rattle.clock.proofs.Upto.{Upto, to-between}
use Rattle.clock.proofs.Rounding.{mul-upto, add-upto}
use Rattle.clock.proofs.Sound.{lawful-upto}
use Rattle.clock.specs.Milliseconds.{whole, between, lawful}
use Rattle.clock.specs.Sheet.{sound}
use Rattle.clock.specs.Patience.{in_range, measured, clamped}
use Rattle.clock.specs.declared.sheet.Sheet.{Sheet}
use Rattle.clock.specs.declared.patience.Patience.TheVariants.{Measured}

clamp-between : (floor ceiling w : Float) → T (le floor ceiling) → NotNan w → T (between floor (clamped floor ceiling w) ceiling)
clamp-between floor ceiling w h n =
    go (lt w floor) (lt ceiling w) (le_of_not-lt w floor n (le_left floor ceiling h)) (le_of_not-lt ceiling w (le_right floor ceiling h) n)
  where
    go : (p q : Bool) → (T (not p) → T (le floor w)) → (T (not q) → T (le w ceiling))
        → T (between floor (if p then floor else if q then ceiling else w) ceiling)
    go true q f g = and_i (le floor floor) (le floor ceiling) (le_refl floor (le_left floor ceiling h)) h
    go false true f g = and_i (le floor ceiling) (le ceiling ceiling) h (le_refl ceiling (le_right floor ceiling h))
    go false false f g = and_i (le floor w) (le w ceiling) (f tt) (g tt)

counted : (x : Float) (b : ℕ) → b ≤ 2 ^ 53 → Upto b x → NotNan x
counted x b B h = le_right (whole 0) x (and_l (le (whole 0) x) (le x (whole b)) (to-between x b B h))

measured-counts : (s : Sheet) → T (sound s) → NotNan (measured s)
unfolding round is_nan
measured-counts s h = go s.mean s.spread s.timed h
  where
    go : (m d : Float) (t : Bool) → T (sound (record { mean = m; spread = d; timed = t }))
        → NotNan (measured (record { mean = m; spread = d; timed = t }))
    go m d true h =
        counted (measured (record { mean = m; spread = d; timed = true })) 300000 (lit≤ tt)
        (add-upto m (mul binary64 (whole 4) d) 60000 240000 (lit≤ tt)
        (lawful-upto m (and_l (lawful m) (lawful d) h))
        (mul-upto 1 (pos 2) d 60000 240000 (lit≤ tt) (lit≤ tt) (lawful-upto d (and_r (lawful m) (lawful d) h))))
    go m d false h = tt

pub wait-between : (s : Sheet) (floor ceiling : Float) → sound s ≡ true → in_range (Measured floor ceiling) ≡ true
    → between floor (clamped floor ceiling (measured s)) ceiling ≡ true
wait-between s floor ceiling h k =
    let r = and_r (lt (whole 0) floor) (between floor ceiling (whole 60000)) (T_from_true (in_range (Measured floor ceiling)) k) in
    is_true (between floor (clamped floor ceiling (measured s)) ceiling)
    (clamp-between floor ceiling (measured s) (and_l (le floor ceiling) (le ceiling (whole 60000)) r)
    (measured-counts s (T_from_true (sound s) h)))
