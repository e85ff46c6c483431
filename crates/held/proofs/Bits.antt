-- Bit by bit: a number is its last bit and its half, so what is added or taken away at one bit leaves the others.
-- Assumes nothing.
use Prim.Native.Nat.{ℕ, zero, suc, ◌+◌, ◌-◌, ◌*◌, ◌/◌, ◌%◌, ◌^◌, ◌≤◌, ◌<◌}
use mathlib.Core.Path.{◌≡◌, refl, ap, sym, ◌∙◌}
use mathlib.Core.Bool.{true, false, not, ◌&&◌, ◌||◌, or-false, or-true, and-true, and-false}
use native.Mathlib.Nat.{pow-suc}
use native.Mathlib.Omega.{arith}
use borrow.Author.Tests.{eq-eqb, ne_eqb, eqb-true, eqb-false}
use lib.Pow.{shr-shr}
use lib.Dec.{eqb-zero-suc, eqb-suc-zero, eqb-suc-suc}
use Rattle.wire.specs.Checks.{◌is◌}
use Rattle.held.specs.Slots.{is_full}

-- the first bit, and the one after
first_bit : (h : ℕ) → is_full h 0 ≡ (h % 2 is 1)
first_bit h = let e : h / 1 ≡ h = omega arith in ap (λ (x : ℕ). x % 2 is 1) e

pub next_bit : (h i : ℕ) → is_full h (suc i) ≡ is_full (h / 2) i
next_bit h i =
    let e : 1 + i ≡ suc i = omega arith in
    ap (λ (x : ℕ). h / 2 ^ x % 2 is 1) (sym e) ∙ ap (λ (x : ℕ). x % 2 is 1) (sym (shr-shr h 1 i))

-- twice a power of two
doubled : (i : ℕ) → 2 ^ suc i ≡ 2 ^ i * 2
doubled i = pow-suc 2 i

even : (h : ℕ) → (h % 2 is 1) ≡ false → h % 2 ≡ 0
even h e = let n = eqb-false (h % 2) 1 e in omega arith

odd : (h : ℕ) → (h % 2 is 1) ≡ true → h % 2 ≡ 1
odd h e = eqb-true (h % 2) 1 e

halved : (h p : ℕ) → (h + p * 2) / 2 ≡ h / 2 + p
halved h p = omega arith

last-stays : (h p : ℕ) → (h + p * 2) % 2 ≡ h % 2
last-stays h p = omega arith

-- a bit that is 0 is set by adding its power of two
pub set-bit : (i j h : ℕ) → is_full h i ≡ false → is_full (h + 2 ^ i) j ≡ (is_full h j || j is i)
set-bit zero zero h e =
    let z = even h (sym (first_bit h) ∙ e) in
    let o : (h + 1) % 2 ≡ 1 = omega arith in
    first_bit (h + 1) ∙ eq-eqb ((h + 1) % 2) 1 o ∙ sym (or-true (is_full h 0))
set-bit zero (suc j) h e =
    let z = even h (sym (first_bit h) ∙ e) in
    let o : (h + 1) / 2 ≡ h / 2 = omega arith in
    rw (next_bit (h + 1) j, next_bit h j, o, eqb-suc-zero j, or-false (is_full (h / 2) j))
set-bit (suc i) zero h e =
    rw (doubled i, first_bit (h + 2 ^ i * 2), first_bit h, last-stays h (2 ^ i), eqb-zero-suc i, or-false (h % 2 is 1))
set-bit (suc i) (suc j) h e =
    rw (doubled i, next_bit (h + 2 ^ i * 2) j, next_bit h j, halved h (2 ^ i), eqb-suc-suc j i)
    (set-bit i j (h / 2) (sym (next_bit h i) ∙ e))

-- there is room for it
pub set-fits : (w i h : ℕ) → h < 2 ^ w → i < w → is_full h i ≡ false → h + 2 ^ i < 2 ^ w
set-fits zero i h l k e = omega arith
set-fits (suc w) zero h l k e =
    let z = even h (sym (first_bit h) ∙ e) in
    let d = doubled w in
    omega arith
set-fits (suc w) (suc i) h l k e =
    let d = doubled w in
    let b = doubled i in
    let r = set-fits w i (h / 2) (omega arith) (omega arith) (sym (next_bit h i) ∙ e) in
    omega arith

-- a bit that is 1 has its power of two to give
pub bit-within : (i h : ℕ) → is_full h i ≡ true → 2 ^ i ≤ h
bit-within zero h e = let o = odd h (sym (first_bit h) ∙ e) in omega arith
bit-within (suc i) h e = let b = doubled i in let r = bit-within i (h / 2) (sym (next_bit h i) ∙ e) in omega arith

-- and is cleared by taking it away
pub clear-bit : (i j h : ℕ) → is_full h i ≡ true → is_full (h - 2 ^ i) j ≡ (is_full h j && not (j is i))
clear-bit zero zero h e =
    let z = odd h (sym (first_bit h) ∙ e) in
    let o : (h - 1) % 2 ≡ 0 = omega arith in
    first_bit (h - 1) ∙ ne_eqb ((h - 1) % 2) 1 (λ q. omega arith) ∙ sym (and-false (is_full h 0))
clear-bit zero (suc j) h e =
    let z = odd h (sym (first_bit h) ∙ e) in
    let o : (h - 1) / 2 ≡ h / 2 = omega arith in
    rw (next_bit (h - 1) j, next_bit h j, o, eqb-suc-zero j, and-true (is_full (h / 2) j))
clear-bit (suc i) zero h e =
    let l = bit-within (suc i) h e in
    let d = doubled i in
    let s : (h - 2 ^ i * 2) % 2 ≡ h % 2 = omega arith in
    rw (d, first_bit (h - 2 ^ i * 2), first_bit h, s, eqb-zero-suc i, and-true (h % 2 is 1))
clear-bit (suc i) (suc j) h e =
    let l = bit-within (suc i) h e in
    let d = doubled i in
    let s : (h - 2 ^ i * 2) / 2 ≡ h / 2 - 2 ^ i = omega arith in
    rw (d, next_bit (h - 2 ^ i * 2) j, next_bit h j, s, eqb-suc-suc j i) (clear-bit i j (h / 2) (sym (next_bit h i) ∙ e))

-- nought has no bit
pub no-bit : (i : ℕ) → is_full 0 i ≡ false
no-bit zero = refl
no-bit (suc i) = next_bit 0 i ∙ no-bit i
