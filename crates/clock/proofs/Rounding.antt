-- Numbers from 0 to b stay there under the clock's arithmetic, since rounding keeps the order.
-- Assumes nothing.
use Rattle.std.specs.Prelude.{if◌then◌else◌}
use mathlib.Core.Path.{◌≡◌, refl, sym, ap, ◌∙◌, subst}
use mathlib.Core.Logic.{◌⊎◌, inl, inr}
use Prim.Native.Nat.{ℕ, zero, suc, ◌+◌, ◌-◌, ◌*◌, ◌^◌, ◌≤◌, ◌<◌}
use native.Mathlib.Nat.{mul-pos, mul-le-mul_left, mul-le-mul_right, zero-mul}
use native.Mathlib.Omega.{arith}
use mathlib.Core.Bool.{Bool, true, false, not, cond, false≢true}
use lib.IntN.{ℤ}
use lib.Dec.{T, ltb, lit<}
use lib.Ieee.{Float, nan, inf, fin, binary64, low, emax, up, down, odd, units, round, sum, add, sub, mul, div, neg, le, lt}
use lib.Ieee.Fits.{up_pos, down_pos, and_i, round_is}
use lib.Ieee.Exact.{HasValue, round_exact}
use lib.Ieee.Order.{round_mono}
use Rattle.std.proofs.lemmas.Bool.Decides.{nat_tests}
use Rattle.clock.specs.Milliseconds.{whole}
use Rattle.clock.specs.Sheet.{apart}
use Rattle.clock.proofs.Upto.{Upto, zero-upto, first-zero, of-between}

minus-zero : (x : Float) (b c : ℕ) → 0 < c → HasValue x true 0 c → Upto b x
minus-zero nan b c C v = absurd v
minus-zero (inf s) b c C v = absurd v
minus-zero (fin s m e) b c C v = zero-upto s m e b (first-zero m (up e) (up_pos e) (first-zero (m * up e) c C (omega (arith, v.1))))

plus : {k : ℕ} → false ≡ true → k ≡ 0
plus t = absurd (false≢true t)

-- a fraction a / c of at most b, which is negative only if it is 0
pub round-upto : (s : Bool) (a b c : ℕ) → 0 < c → b ≤ 2 ^ 53 → a ≤ b * c → (s ≡ true → a ≡ 0) → Upto b (round binary64 s a c)
round-upto false a b c C B h z =
    let x = round binary64 false a c in
    of-between x b B (and_i (le (whole 0) x) (le x (whole b)) (round_mono binary64 0 1 a c (lit< tt) C (omega arith))
    (round_mono binary64 a c b 1 C (lit< tt) (omega arith)))
round-upto true a b c C B h z =
    subst (λ (k : ℕ). Upto b (round binary64 true k c)) (sym (z refl))
    (minus-zero (round binary64 true 0 c) b c C (round_exact binary64 true 0 c 0 0 C (lit< tt) (lit< tt) (sym (zero-mul c))))

neg-units : (q k : ℕ) → neg (units binary64 true q k) ≡ units binary64 false q k
unfolding neg units odd
neg-units q k = go q (ltb (q * 2 ^ k) (2 ^ (low binary64 + suc (emax binary64))))
  where
    go : (q : ℕ) (t : Bool) → neg (cond t (odd 54 true q k (low binary64)) (inf true)) ≡ cond t (odd 54 false q k (low binary64))
        (inf false)
    go zero true = refl
    go (suc q) true = refl
    go q false = refl

neg-round : (a c : ℕ) → neg (round binary64 true a c) ≡ round binary64 false a c
neg-round a c = ap neg (round_is binary64 true a c) ∙ neg-units _ _ ∙ sym (round_is binary64 false a c)

-- ---- a product, a sum, a distance

-- times a weight w, where w a ≤ b
pub mul-upto : (p : ℕ) (d : ℤ) (x : Float) (a b : ℕ) → b ≤ 2 ^ 53 → p * up d * a ≤ b * down d → Upto a x
    → Upto b (mul binary64 (fin false p d) x)
unfolding mul
mul-upto p d nan a b B k h = absurd h
mul-upto p d (inf s) a b B k h = absurd h
mul-upto p d (fin true m e) a b B k h =
    let z : p * up d * (m * up e) ≡ 0 = omega (arith, ap (λ (i : ℕ). p * up d * (i * up e)) h) in
    round-upto true (p * up d * (m * up e)) b (down d * down e) (mul-pos (down_pos d) (down_pos e)) B (omega arith) (λ t. z)
mul-upto p d (fin false m e) a b B k h =
    round-upto false (p * up d * (m * up e)) b (down d * down e) (mul-pos (down_pos d) (down_pos e)) B
    (omega (arith, mul-le-mul_left (p * up d) h, mul-le-mul_right (down e) k))
    plus

cond-upto : (t : Bool) (x y : Float) (b : ℕ) → Upto b x → Upto b y → Upto b (cond t x y)
cond-upto true x y b h k = h
cond-upto false x y b h k = k

sum-upto : (s t : Bool) (m n c b : ℕ) → 0 < c → b ≤ 2 ^ 53 → m + n ≤ b * c → (s ≡ true → m ≡ 0) → (t ≡ true → n ≡ 0)
    → Upto b (sum binary64 s m t n c)
unfolding sum
sum-upto false false m n c b C B h y z = round-upto false (m + n) b c C B h plus
sum-upto true true m n c b C B h y z = round-upto true (m + n) b c C B h (λ t. omega (arith, y t, z t))
sum-upto false true m n c b C B h y z =
    cond-upto (ltb m n) (round binary64 true (n - m) c) (round binary64 false (m - n) c) b
    (round-upto true (n - m) b c C B (omega arith) (λ t. omega (arith, z t)))
    (round-upto false (m - n) b c C B (omega arith) plus)
sum-upto true false m n c b C B h y z =
    cond-upto (ltb m n) (round binary64 false (n - m) c) (round binary64 (ltb n m) (m - n) c) b
    (round-upto false (n - m) b c C B (omega arith) plus)
    (round-upto (ltb n m) (m - n) b c C B (omega arith) (λ t. omega (arith, y refl)))

signed : (s : Bool) (m : ℕ) (e : ℤ) (b k : ℕ) → Upto b (fin s m e) → (m * up e * k ≤ b * (down e * k)) × (s ≡ true → m * up e * k ≡ 0)
signed true m e b k h = let z : m * up e * k ≡ 0 = omega (arith, ap (λ (i : ℕ). i * up e * k) h) in (omega arith, λ t. z)
signed false m e b k h = (omega (arith, mul-le-mul_right k h), plus)

pub add-upto : (x y : Float) (a b : ℕ) → a + b ≤ 2 ^ 53 → Upto a x → Upto b y → Upto (a + b) (add binary64 x y)
unfolding add
add-upto nan y a b B h k = absurd h
add-upto (inf s) y a b B h k = absurd h
add-upto (fin s m e) nan a b B h k = absurd k
add-upto (fin s m e) (inf t) a b B h k = absurd k
add-upto (fin s m e) (fin t n d) a b B h k =
    let p = signed s m e a (down d) h in
    let q = signed t n d b (down e) k in
    sum-upto s t (m * up e * down d) (n * up d * down e) (down e * down d) (a + b) (mul-pos (down_pos e) (down_pos d)) B
    (omega (arith, p.0, q.0)) p.1 q.1

pub half-upto : (x : Float) (b : ℕ) → b ≤ 2 ^ 53 → Upto b x → Upto b (div binary64 x (whole 2))
unfolding div round
half-upto nan b B h = absurd h
half-upto (inf s) b B h = absurd h
half-upto (fin true m e) b B h = let p = signed true m e b 1 h in round-upto true (m * up e * 1) b (2 * down e)
    (mul-pos (lit< tt) (down_pos e)) B (omega (arith, p.1 refl)) p.1
half-upto (fin false m e) b B h = round-upto false (m * up e * 1) b (2 * down e) (mul-pos (lit< tt) (down_pos e)) B (omega arith) plus

-- d or its opposite is a number from 0 to b
abbrev Near : ℕ → Float → Type 0
Near b d = Upto b d ⊎ Upto b (neg d)

negative : (a b c : ℕ) → 0 < c → b ≤ 2 ^ 53 → a ≤ b * c → Near b (round binary64 true a c)
negative a b c C B h = inr (subst (Upto b) (sym (neg-round a c)) (round-upto false a b c C B h plus))

difference : (s t : Bool) (m n c b : ℕ) → 0 < c → b ≤ 2 ^ 53 → m ≤ b * c → n ≤ b * c → (s ≡ true → m ≡ 0) → (t ≡ true → n ≡ 0)
    → Near b (sum binary64 s m (not t) n c)
unfolding sum
difference false false m n c b C B h k y z = go (ltb m n)
  where
    go : (t : Bool) → Near b (cond t (round binary64 true (n - m) c) (round binary64 false (m - n) c))
    go true = negative (n - m) b c C B (omega arith)
    go false = inl (round-upto false (m - n) b c C B (omega arith) plus)
difference true false m n c b C B h k y z = negative (m + n) b c C B (omega (arith, y refl))
difference false true m n c b C B h k y z = inl (sum-upto false false m n c b C B (omega (arith, z refl)) y plus)
difference true true m n c b C B h k y z = inl (sum-upto true false m n c b C B (omega (arith, y refl)) y plus)

size : (s : Bool) (m : ℕ) (e : ℤ) (b : ℕ) → Near b (fin s m e) → Upto b (fin false m e)
unfolding neg
size true m e b (inl z) = zero-upto false m e b z
size true m e b (inr h) = h
size false m e b (inl h) = h
size false m e b (inr z) = zero-upto false m e b z

if-upto : (t : Bool) (x y : Float) (b : ℕ) → (T t → Upto b x) → (T (not t) → Upto b y) → Upto b (if t then x else y)
if-upto true x y b h k = h tt
if-upto false x y b h k = k tt

absolute : (d : Float) (b : ℕ) → Near b d → Upto b (if lt d (whole 0) then neg d else d)
unfolding lt neg round
absolute nan b (inl h) = absurd h
absolute nan b (inr h) = absurd h
absolute (inf s) b (inl h) = absurd h
absolute (inf s) b (inr h) = absurd h
absolute (fin true m e) b h =
    if-upto (ltb 0 (m * up e * 1 + 0 * down e)) (fin false m e) (fin true m e) b (λ t. size true m e b h)
    (λ f. first-zero m (up e) (up_pos e) (grind (arith, nat_tests)))
absolute (fin false m e) b h =
    if-upto (ltb (m * up e * 1) (0 * down e)) (fin true m e) (fin false m e) b
    (λ t. absurd (grind (arith, nat_tests)))
    (λ f. size false m e b h)

pub apart-upto : (x y : Float) (b : ℕ) → b ≤ 2 ^ 53 → Upto b x → Upto b y → Upto b (apart x y)
unfolding sub
apart-upto nan y b B h k = absurd h
apart-upto (inf s) y b B h k = absurd h
apart-upto (fin s m e) nan b B h k = absurd k
apart-upto (fin s m e) (inf t) b B h k = absurd k
apart-upto (fin s m e) (fin t n d) b B h k =
    let p = signed s m e b (down d) h in
    let q = signed t n d b (down e) k in
    absolute (sub binary64 (fin s m e) (fin t n d)) b
    (difference s t (m * up e * down d) (n * up d * down e) (down e * down d) b (mul-pos (down_pos e) (down_pos d)) B p.0
    (omega (arith, q.0)) p.1 q.1)
