-- The bitmap of full slots: filling or freeing one slot leaves the others, and freeing a run of messages frees exactly their slots.
-- Assumes nothing.
use Prim.Native.Nat.{ℕ, zero, suc, ◌+◌, ◌*◌, ◌%◌, ◌^◌, ◌<◌}
use mathlib.Core.Path.{◌≡◌, refl, sym, ◌∙◌}
use mathlib.Core.Bool.{Bool, true, false, not, ◌&&◌, ◌||◌, and-true, and-false, or-true, or-false, true≢false}
use native.Mathlib.Omega.{arith}
use borrow.Author.Tests.{eq-eqb, ne_eqb, eqb-true, eqb-false}
use lib.Dec.{eqb}
use lib.Pow.{shl_exact}
use Rattle.wire.specs.Checks.{◌is◌}
use Rattle.wire.proofs.Tests.{by-test, and_left, both}
use Rattle.held.specs.Slots.{slot_of, is_full, full, filled, freed, freed_from}
use Rattle.held.specs.Hanging.{every}
use Rattle.held.proofs.Bits.{set-bit, clear-bit, no-bit}

-- a slot that is filled is full, and one that is freed is not; any other is as it was
pub full-filled : (held i j : ℕ) → is_full (filled held i) j ≡ (is_full held j || j is i)
full-filled held i j =
    by-test (is_full held i)
    (λ e.
    rw e (by-test (eqb j i)
    (λ q. rw (q, or-true (is_full held j)) (rw (← eqb-true j i q) at e))
    (λ q. rw q (sym (or-false (is_full held j))))))
    (λ e. rw e (set-bit i j held e))

pub full-freed : (held i j : ℕ) → is_full (freed held i) j ≡ (is_full held j && not (j is i))
full-freed held i j =
    by-test (is_full held i)
    (λ e. rw e (clear-bit i j held e))
    (λ e.
    rw e (by-test (eqb j i)
    (λ q. rw (q, and-false (is_full held j)) (rw (← eqb-true j i q) at e))
    (λ q. rw q (sym (and-true (is_full held j))))))

pub none-full : (i : ℕ) → is_full 0 i ≡ false
none-full = no-bit

pub freed-empty : (i : ℕ) → freed 0 i ≡ 0
freed-empty i = rw (no-bit i)

pub freed-none : (k m : ℕ) → freed_from k 0 m ≡ 0
unfolding freed_from
freed-none zero m = refl
freed-none (suc k) m = rw (freed-empty (slot_of m)) (freed-none k (suc m))

-- freeing one run, then the one behind it
pub freed-add : (a b held m : ℕ) → freed_from (a + b) held m ≡ freed_from b (freed_from a held m) (m + a)
unfolding freed_from
freed-add zero b held m = let z : 0 + b ≡ b = omega arith in let y : m + 0 ≡ m = omega arith in rw (z, y)
freed-add (suc a) b held m =
    let s : suc a + b ≡ suc (a + b) = omega arith in
    let t : m + suc a ≡ suc m + a = omega arith in
    rw (s, t) (freed-add a b (freed held (slot_of m)) (suc m))

-- what is full after it was full before
pub freed-was : (k held m n : ℕ) → full (freed_from k held m) n ≡ true → full held n ≡ true
unfolding freed_from
freed-was zero held m n e = e
freed-was (suc k) held m n e =
    let f = freed-was k (freed held (slot_of m)) (suc m) n e in
    and_left (full held n) (not (slot_of n is slot_of m)) (sym (full-freed held (slot_of m) (slot_of n)) ∙ f)

-- and a slot that is free stays so
pub free_stays : (k held m n : ℕ) → full held n ≡ false → full (freed_from k held m) n ≡ false
free_stays k held m n e = by-test (full (freed_from k held m) n) (λ q. absurd (true≢false (sym (freed-was k held m n q) ∙ e))) (λ q. q)

-- the slots of the run are free
pub freed-gone : (k held m j : ℕ) → j < k → full (freed_from k held m) (m + j) ≡ false
unfolding freed_from
freed-gone zero held m j h = absurd (omega arith)
freed-gone (suc k) held m zero h =
    let y : m + 0 ≡ m = omega arith in
    rw y (free_stays k (freed held (slot_of m)) (suc m) m
    (rw (full-freed held (slot_of m) (slot_of m), eq-eqb (slot_of m) (slot_of m) refl) (and-false (full held m))))
freed-gone (suc k) held m (suc j) h =
    let t : m + suc j ≡ suc m + j = omega arith in
    rw t (freed-gone k (freed held (slot_of m)) (suc m) j (omega arith))

-- and no others: a message whose slot is none of theirs
pub freed-stays : (k held m n : ℕ) → ((j : ℕ) → j < k → (slot_of n ≡ slot_of (m + j)) → ⊥) → full (freed_from k held m) n ≡ full held n
unfolding freed_from
freed-stays zero held m n f = refl
freed-stays (suc k) held m n f =
    let y : m + 0 ≡ m = omega arith in
    let d : (slot_of n is slot_of m) ≡ false = ne_eqb (slot_of n) (slot_of m) (rw y at (f 0 (omega arith))) in
    let s : full (freed held (slot_of m)) n ≡ full held n = rw (full-freed held (slot_of m) (slot_of n), d) (and-true (full held n)) in
    freed-stays k (freed held (slot_of m)) (suc m) n (λ j h. rw (moved m j) (f (suc j) (omega arith))) ∙ s
  where
    moved : (m j : ℕ) → suc m + j ≡ m + suc j
    moved m j = omega arith

-- messages fewer than 32 apart have slots apart
pub slots_apart : (m j : ℕ) → 0 < j → j < 32 → (slot_of (m + j) ≡ slot_of m) → ⊥
slots_apart m j a b e = omega arith

pub every_true : (n : ℕ) (p : ℕ → Bool) → every n p ≡ true → (i : ℕ) → i < n → p i ≡ true
unfolding every
every_true zero p e i h = absurd (omega arith)
every_true (suc n) p e i h =
    let q = both (p n) (every n p) e in
    by-test (eqb i n) (λ s. rw (eqb-true i n s) q.0) (λ s. every_true n p q.1 i (omega (arith, eqb-false i n s)))

pub every-so : (n : ℕ) (p : ℕ → Bool) → ((i : ℕ) → i < n → p i ≡ true) → every n p ≡ true
unfolding every
every-so zero p f = refl
every-so (suc n) p f = rw (f n (omega arith)) (every-so n p (λ i h. f i (omega arith)))

-- a bit of 32, as the machine makes it
pub power : (i : ℕ) → i < 32 → 1 * 2 ^ i % 2 ^ 32 ≡ 2 ^ i
power i h = shl_exact {a = 1} 1 i 32 (omega arith) (omega arith) ∙ (let e : 1 * 2 ^ i ≡ 2 ^ i = omega arith in e)
