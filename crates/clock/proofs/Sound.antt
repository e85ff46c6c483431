-- The desk never breaks its own sheet: after a lawful sample a sound sheet is sound.
-- Assumes nothing.
use mathlib.Core.Path.{◌≡◌}
use Prim.Native.Nat.{ℕ, ◌+◌, ◌*◌, ◌^◌, ◌≤◌}
use native.Mathlib.Omega.{arith}
use mathlib.Core.Bool.{Bool, true, false}
use lib.IntN.{ℤ, negsuc}
use lib.Ieee.{Float, fin, binary64, up, down, round, mul, div}
use lib.Ieee.Fits.{and_i, and_l, and_r}
use lib.Ieee.Bits.{is_true}
use lib.Dec.{T, lit≤}
use denote.Floats.{passes}
use Rattle.clock.specs.Milliseconds.{decimal, whole, lawful}
use Rattle.clock.specs.Sheet.{sound, weighed, apart, smoothed}
use Rattle.clock.specs.declared.sheet.Sheet.{Sheet}
use Rattle.clock.proofs.Upto.{Upto, of-between, to-between}
use Rattle.clock.proofs.Rounding.{mul-upto, add-upto, half-upto, apart-upto}

pub lawful-upto : (x : Float) → T (lawful x) → Upto 60000 x
lawful-upto x h = of-between x 60000 (lit≤ tt) h

upto-lawful : (x : Float) → Upto 60000 x → T (lawful x)
upto-lawful x h = to-between x 60000 (lit≤ tt) h

-- one weight takes 60,000 to a, the other to b
weighed-upto : (p : ℕ) (d : ℤ) (a : ℕ) (q : ℕ) (e : ℤ) (b : ℕ) (x y : Float)
    → a + b ≤ 2 ^ 53 → p * up d * 60000 ≤ a * down d → q * up e * 60000 ≤ b * down e
    → Upto 60000 x → Upto 60000 y → Upto (a + b) (weighed (fin false p d) x (fin false q e) y)
weighed-upto p d a q e b x y B v w h k =
    add-upto (mul binary64 (fin false p d) x) (mul binary64 (fin false q e) y) a b B (mul-upto p d x 60000 a (omega arith) v h)
    (mul-upto q e y 60000 b (omega arith) w k)

-- 0.875 is 7 / 8, and 0.125 is 1 / 8
mean-upto : (m r : Float) → Upto 60000 m → Upto 60000 r → Upto 60000 (weighed (decimal 875 1000) m (decimal 125 1000) r)
unfolding round
mean-upto m r h k = weighed-upto 7 (negsuc 2) 52500 1 (negsuc 2) 7500 m r (lit≤ tt) (lit≤ tt) (lit≤ tt) h k

-- 0.75 is 3 / 4, and 0.25 is 1 / 4
spread-upto : (s d : Float) → Upto 60000 s → Upto 60000 d → Upto 60000 (weighed (decimal 75 100) s (decimal 25 100) d)
unfolding round
spread-upto s d h k = weighed-upto 3 (negsuc 1) 45000 1 (negsuc 1) 15000 s d (lit≤ tt) (lit≤ tt) (lit≤ tt) h k

both : (m d : Float) → Upto 60000 m → Upto 60000 d → T (sound (record { mean = m; spread = d; timed = true }))
both m d h k = and_i (lawful m) (lawful d) (upto-lawful m h) (upto-lawful d k)

kept : (m d : Float) (t : Bool) (r : Float) → T (sound (record { mean = m; spread = d; timed = t })) → Upto 60000 r
    → T (sound (smoothed (record { mean = m; spread = d; timed = t }) r))
unfolding smoothed
kept m d true r h k =
    let M = lawful-upto m (and_l (lawful m) (lawful d) h) in
    let D = lawful-upto d (and_r (lawful m) (lawful d) h) in
    both (weighed (decimal 875 1000) m (decimal 125 1000) r) (weighed (decimal 75 100) d (decimal 25 100) (apart m r))
    (mean-upto m r M k)
    (spread-upto d (apart m r) D (apart-upto m r 60000 (lit≤ tt) M k))
kept m d false r h k = both r (div binary64 r (whole 2)) k (half-upto r 60000 (lit≤ tt) k)

pub stays-sound : (s : Sheet) (r : Float) → sound s ≡ true → lawful r ≡ true → sound (smoothed s r) ≡ true
stays-sound s r h k = is_true (sound (smoothed s r))
    (kept s.mean s.spread s.timed r (passes (sound s) h) (lawful-upto r (passes (lawful r) k)))
