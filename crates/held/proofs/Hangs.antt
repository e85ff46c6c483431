-- A bitmap in place and a sound area, told as facts; and that both stay so where slots fall free.
-- Assumes nothing.
use Prim.Native.Nat.{ℕ, zero, suc, ◌+◌, ◌%◌, ◌≤◌, ◌<◌}
use mathlib.Core.Path.{◌≡◌, refl, ap, sym, ◌∙◌}
use mathlib.Core.List.{List}
use mathlib.Core.Bool.{Bool, true, false, not, ◌&&◌, ◌||◌, true≢false}
use native.Mathlib.Omega.{arith}
use borrow.Author.Tests.{le-leb, leb-true, leb-false}
use lib.Dec.{leb}
use lib.ListN.{length}
use Rattle.wire.proofs.Tests.{by-test, both}
use Rattle.blocks.specs.Blocks.{stated}
use Rattle.held.specs.Slots.{area_size, longest, slot_of, is_full, full, freed_from, slot_at}
use Rattle.held.specs.Hanging.{every, placed, in_place, fits, sound}
use Rattle.held.proofs.Bitmap.{none-full, freed-was, freed-gone, every_true, every-so}

-- what a full one says, of a test that lets free ones pass
if-full : (f b : Bool) → not f || b ≡ true → f ≡ true → b ≡ true
if-full f b e q = rw q at e

or-free : (f b : Bool) → (f ≡ true → b ≡ true) → not f || b ≡ true
or-free true b g = g refl
or-free false b g = refl

-- a full slot stands for one of N+1 to N+31, and not for one above T
abbrev pub Placed : (held next top : ℕ) → Type 0
Placed held next top = (d : ℕ) → d < 32 → full held (next + d) ≡ true → (1 ≤ d) × (next + d ≤ top)

module _ (held next top : ℕ) where
  pub in_place_lem : in_place held next top ≡ true → Placed held next top
  unfolding in_place
  in_place_lem e d h f =
      let p = if-full (full held (next + d)) (leb 1 d && leb (next + d) top) (every_true 32 (placed held next top) e d h) f in
      let b = both (leb 1 d) (leb (next + d) top) p in
      (leb-true 1 d b.0, leb-true (next + d) top b.1)

  pub in-place-so : Placed held next top → in_place held next top ≡ true
  unfolding in_place
  in-place-so p =
      every-so 32 (placed held next top)
      (λ d h. or-free (full held (next + d)) (leb 1 d && leb (next + d) top)
      (λ f. let q = p d h f in rw (le-leb 1 d q.0, le-leb (next + d) top q.1)))

-- a higher T does no harm
pub in-place-higher : (held next top more : ℕ) → top ≤ more → in_place held next top ≡ true → in_place held next more ≡ true
in-place-higher held next top more l e =
    in-place-so held next more (λ d h f. let q = in_place_lem held next top e d h f in (q.0, omega arith))

-- nothing held is in place
pub none-in-place : (next top : ℕ) → in_place 0 next top ≡ true
none-in-place next top = in-place-so 0 next top (λ d h f. absurd (true≢false (sym f ∙ none-full (slot_of (next + d)))))

module _ (held next top : ℕ) (e : in_place held next top ≡ true) where
  -- N's own slot is free
  pub next-free : full held next ≡ false
  next-free =
      let z : next + 0 ≡ next = omega arith in
      by-test (full held next) (λ f. absurd (none (in_place_lem held next top e 0 (omega arith) (rw z f)).0)) (λ f. f) where
        none : 1 ≤ 0 → ⊥
        none l = omega arith

  -- what is full after the slots from N on fell free stands for the same number as before
  pub still-numbered : (n d : ℕ) → d < 32 → full (freed_from n held next) (next + n + d) ≡ true
      → (n + d < 32) × (1 ≤ n + d) × (next + n + d ≤ top)
  still-numbered n d h f =
      by-test (leb 32 (n + d))
      (λ q.
      let l = leb-true 32 (n + d) q in
      let r : ℕ = (n + d) % 32 in
      let s : slot_of (next + r) ≡ slot_of (next + n + d) = same next n d in
      absurd (true≢false (sym f ∙ ap (is_full (freed_from n held next)) (sym s) ∙ freed-gone n held next r (omega arith))))
      (λ q.
      let l = leb-false 32 (n + d) q in
      let s : next + n + d ≡ next + (n + d) = omega arith in
      let p = in_place_lem held next top e (n + d) (omega arith) (rw (← s) (freed-was n held next (next + n + d) f)) in
      (omega arith, p.0, omega (arith, p.1))) where
        same : (a b c : ℕ) → (a + (b + c) % 32) % 32 ≡ (a + b + c) % 32
        same a b c = omega arith

  -- so a bitmap stays in place where the slots of the n messages from N on fall free and N moves on by n, to a free slot
  pub freed-in-place : (n : ℕ) → full (freed_from n held next) (next + n) ≡ false → in_place (freed_from n held next) (next + n) top ≡ true
  freed-in-place n z =
      in-place-so (freed_from n held next) (next + n) top
      (λ d h f. (from_one d f, (still-numbered n d h f).2)) where
        from_one : (d : ℕ) → full (freed_from n held next) (next + n + d) ≡ true → 1 ≤ d
        from_one zero f = let y : next + n + 0 ≡ next + n = omega arith in absurd (true≢false (sym (rw y at f) ∙ z))
        from_one (suc d) f = omega arith

-- the area has 32 slots, and every full one fits
pub record Fits (held : ℕ) (area : List ℕ) : Type 0 where
  pub enough : area_size ≤ length area
  pub each : (i : ℕ) → i < 32 → is_full held i ≡ true → stated (slot_at area i) ≤ longest

module _ (held : ℕ) (area : List ℕ) where
  pub sound-fits : sound held area ≡ true → Fits held area
  unfolding sound
  sound-fits e =
      let b = both (leb area_size (length area)) (every 32 (fits held area)) e in
      record {
        enough = leb-true area_size (length area) b.0;
        each = λ i h f. leb-true (stated (slot_at area i)) longest
            (if-full (is_full held i) (leb (stated (slot_at area i)) longest) (every_true 32 (fits held area) b.1 i h) f);
      }

  pub fits-sound : Fits held area → sound held area ≡ true
  unfolding sound
  fits-sound p =
      rw (le-leb area_size (length area) p.enough)
      (every-so 32 (fits held area) (λ i h. or-free (is_full held i) (leb (stated (slot_at area i)) longest)
      (λ f. le-leb (stated (slot_at area i)) longest (p.each i h f))))

  -- the slot of a message
  pub fits-at : Fits held area → (m : ℕ) → full held m ≡ true → stated (slot_at area (slot_of m)) ≤ longest
  fits-at p m f = p.each (slot_of m) (omega arith) f

  -- a sound area stays so where slots fall free
  pub freed-fits : (k m : ℕ) → Fits held area → Fits (freed_from k held m) area
  freed-fits k m p = record { enough = p.enough; each = λ i h f. p.each i h (was i h f) } where
    was : (i : ℕ) → i < 32 → is_full (freed_from k held m) i ≡ true → is_full held i ≡ true
    was i h f = let s : slot_of i ≡ i = omega arith in rw s at (freed-was k held m i (rw s f))

pub freed-sound : (held : ℕ) (area : List ℕ) (k m : ℕ) → sound held area ≡ true → sound (freed_from k held m) area ≡ true
freed-sound held area k m e = fits-sound (freed_from k held m) area (freed-fits held area k m (sound-fits held area e))

-- nothing held fits into any area that is large enough
pub none-sound : (area : List ℕ) → area_size ≤ length area → sound 0 area ≡ true
none-sound area l = fits-sound 0 area (record { enough = l; each = λ i h f. absurd (true≢false (sym f ∙ none-full i)) })
