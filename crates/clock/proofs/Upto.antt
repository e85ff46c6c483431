-- A number from 0 to b, by its size; and that the comparisons with 0 and b say the same of it.
-- Assumes nothing.
use mathlib.Core.Path.{◌≡◌, refl, sym, ap, subst}
use Prim.Native.Nat.{ℕ, zero, suc, ◌*◌, ◌^◌, ◌≤◌, ◌<◌}
use native.Mathlib.Nat.{lt_irrefl, zero-lt-suc, mul-pos}
use native.Mathlib.Omega.{arith}
use mathlib.Core.Bool.{Bool, true, false, true≢false}
use lib.IntN.{ℤ}
use lib.Dec.{T, lit<}
use lib.Ieee.{Float, nan, inf, fin, binary64, up, down, round, le}
use lib.Ieee.Fits.{up_pos, down_pos, and_i, and_l, and_r}
use lib.Ieee.Exact.{HasValue}
use lib.Ieee.Back.{round_whole}
use lib.Ieee.Order.{transfer, le_of_values}
use Rattle.std.proofs.lemmas.Bool.Decides.{nat_tests}
use Rattle.clock.specs.Milliseconds.{whole, between}

-- a zero may have either sign
abbrev pub Upto : ℕ → Float → Type 0
Upto b nan = ⊥
Upto b (inf s) = ⊥
Upto b (fin true m e) = m ≡ 0
Upto b (fin false m e) = m * up e ≤ b * down e

pub zero-upto : (s : Bool) (m : ℕ) (e : ℤ) (b : ℕ) → m ≡ 0 → Upto b (fin s m e)
zero-upto true m e b h = h
zero-upto false m e b h = omega (arith, ap (λ (k : ℕ). k * up e) h)

pub first-zero : (m u : ℕ) → 0 < u → m * u ≡ 0 → m ≡ 0
first-zero zero u h e = refl
first-zero (suc m) u h e = absurd (lt_irrefl 0 (subst (λ (k : ℕ). 0 < k) e (mul-pos (zero-lt-suc m) h)))

-- ---- between 0 and y, whose value is b

inside : (x y : Float) (b : ℕ) → HasValue y false b 1 → T (le (whole 0) x) → T (le x y) → Upto b x
unfolding le round
inside nan y b v h k = absurd h
inside (inf true) y b v h k = absurd h
inside (inf false) nan b v h k = absurd v
inside (inf false) (inf t) b v h k = absurd v
inside (inf false) (fin t n d) b v h k = absurd k
inside (fin true m e) y b v h k = first-zero m (up e) (up_pos e) (grind (arith, nat_tests))
inside (fin false m e) nan b v h k = absurd v
inside (fin false m e) (inf t) b v h k = absurd v
inside (fin false m e) (fin true n d) b v h k = absurd (true≢false v.0)
inside (fin false m e) (fin false n d) b v h k =
    omega (
      arith,
      transfer (m * up e) b (down e) 1 (m * up e) (n * up d) (down e) (down d) (down_pos e) (down_pos d) refl (sym v.1)
          (grind (arith, nat_tests)),
    )

from_zero : (x : Float) (b : ℕ) → Upto b x → T (le (whole 0) x)
unfolding le round
from_zero nan b h = absurd h
from_zero (inf s) b h = absurd h
from_zero (fin true m e) b h = let z = ap (λ (k : ℕ). k * up e) h in grind (arith, nat_tests)
from_zero (fin false m e) b h = le_of_values (whole 0) (fin false m e) 0 1 (m * up e) (down e) (lit< tt) (down_pos e) (refl, refl)
    (refl, refl) (omega arith)

up_to : (x y : Float) (b : ℕ) → HasValue y false b 1 → Upto b x → T (le x y)
unfolding le
up_to nan y b v h = absurd h
up_to (inf s) y b v h = absurd h
up_to (fin s m e) nan b v h = absurd v
up_to (fin s m e) (inf t) b v h = absurd v
up_to (fin s m e) (fin true n d) b v h = absurd (true≢false v.0)
up_to (fin true m e) (fin false n d) b v h = grind (arith, nat_tests)
up_to (fin false m e) (fin false n d) b v h = le_of_values (fin false m e) (fin false n d) (m * up e) (down e) b 1 (down_pos e) (lit< tt)
    (refl, refl) v (omega arith)

-- f64 holds every whole number up to 2 ^ 53
pub of-between : (x : Float) (b : ℕ) → b ≤ 2 ^ 53 → T (between (whole 0) x (whole b)) → Upto b x
of-between x b B h = inside x (whole b) b (round_whole binary64 false b B) (and_l (le (whole 0) x) (le x (whole b)) h)
    (and_r (le (whole 0) x) (le x (whole b)) h)

pub to-between : (x : Float) (b : ℕ) → b ≤ 2 ^ 53 → Upto b x → T (between (whole 0) x (whole b))
to-between x b B h = and_i (le (whole 0) x) (le x (whole b)) (from_zero x b h) (up_to x (whole b) b (round_whole binary64 false b B) h)
