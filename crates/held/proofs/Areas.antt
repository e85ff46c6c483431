-- The area's slots: what is stored in one leaves the blocks of the others, and reads back as what was stored.
-- Assumes nothing.
use Prim.Native.Nat.{ℕ, zero, suc, ◌+◌, ◌*◌, ◌≤◌, ◌<◌}
use mathlib.Core.Path.{◌≡◌, refl, ap, sym, ◌∙◌}
use mathlib.Core.List.{List, [], ◌∷◌, ◌++◌, append_assoc}
use native.Mathlib.Omega.{arith}
use borrow.Author.Tests.{leb-true, leb-false}
use lib.Dec.{leb}
use lib.ListN.{length, take, drop, set}
use lib.Seq.{sets, sets-eq, take-take, take-set-le, drop-set-lt, drop_at, get_or-take, length-take-le}
use Rattle.wire.proofs.Tests.{by-test}
use Rattle.wire.proofs.Width.{be-two}
use Rattle.blocks.specs.Blocks.{frame, stated, first}
use Rattle.blocks.proofs.Frames.{length-frame, front-stated, front-first}
use Rattle.held.specs.Slots.{area_size, longest, slot_of, slot_at, held_message}

-- what is stored from a place on leaves what stands before it, and what stands behind it
take-sets : (n : ℕ) (s : List ℕ) (at : ℕ) (bs : List ℕ) → n ≤ at → take n (sets s at bs) ≡ take n s
take-sets n s at [] h = refl
take-sets n s at (b ∷ bs) h = take-sets n (set s at b) (suc at) bs (omega arith) ∙ take-set-le n s at b h

drop-sets : (n : ℕ) (s : List ℕ) (at : ℕ) (bs : List ℕ) → at + length bs ≤ n → drop n (sets s at bs) ≡ drop n s
drop-sets n s at [] h = refl
drop-sets n s at (b ∷ bs) h = drop-sets n (set s at b) (suc at) bs (omega arith) ∙ drop-set-lt n s at b (omega arith)

-- a part from a place on
part : (i n : ℕ) (s : List ℕ) → take n (drop i s) ≡ drop i (take (i + n) s)
part zero n s = let e : 0 + n ≡ n = omega arith in rw e
part (suc i) n [] = let e : suc i + n ≡ suc (i + n) = omega arith in rw e (nothing n) where
  nothing : (n : ℕ) → ◌≡◌ {A = List ℕ} (take n []) []
  nothing zero = refl
  nothing (suc n) = refl
part (suc i) n (x ∷ s) = let e : suc i + n ≡ suc (i + n) = omega arith in rw e (part i n s)

-- a block that a slot has room for lies in the slot's 1,472 bytes
slot-stated : (s : List ℕ) → stated (take 1472 s) ≡ stated s
slot-stated s =
    rw (be-two (take 1472 s) 0, be-two s 0, get_or-take 1472 s 0 0 (omega arith), get_or-take 1472 s (0 + 1) 0 (omega arith))

slot-first : (s : List ℕ) → stated s ≤ longest → first (take 1472 s) ≡ first s
slot-first s h =
    let n : ℕ = stated s in
    let a : n ≤ 1470 = h in
    rw (slot-stated s, part 2 n (take 1472 s), take-take (2 + n) 1472 s (omega arith), part 2 n s)

module _ (a b : List ℕ) (same : take 1472 a ≡ take 1472 b) where
  same-stated : stated a ≡ stated b
  same-stated = sym (slot-stated a) ∙ ap (λ (s : List ℕ). stated s) same ∙ slot-stated b

  same_first : stated b ≤ longest → first a ≡ first b
  same_first h = sym (slot-first a (rw same-stated h)) ∙ ap (λ (s : List ℕ). first s) same ∙ slot-first b h

-- one slot stored, and another
module _ (area bs : List ℕ) (i j : ℕ) (apart : (i ≡ j) → ⊥) (small : length bs ≤ 1472) where
  other-slot : take 1472 (slot_at (sets area (1472 * i) bs) j) ≡ take 1472 (slot_at area j)
  other-slot =
      by-test (leb i j)
      (λ e.
      let l = leb-true i j e in
      ap (take 1472) (drop-sets (1472 * j) area (1472 * i) bs (omega arith)))
      (λ e.
      let l = leb-false i j e in
      let front = part (1472 * j) 1472 in
      rw (front (sets area (1472 * i) bs), take-sets (1472 * j + 1472) area (1472 * i) bs (omega arith), front area))

  pub other-stated : stated (slot_at (sets area (1472 * i) bs) j) ≡ stated (slot_at area j)
  other-stated = same-stated (slot_at (sets area (1472 * i) bs) j) (slot_at area j) other-slot

  pub other-first : stated (slot_at area j) ≤ longest → first (slot_at (sets area (1472 * i) bs) j) ≡ first (slot_at area j)
  other-first = same_first (slot_at (sets area (1472 * i) bs) j) (slot_at area j) other-slot

-- the stored slot reads back
module _ (area message : List ℕ) (i : ℕ) (h : i < 32) (fits : length message ≤ longest) (enough : area_size ≤ length area) where
  stored-slot : slot_at (sets area (1472 * i) (frame message)) i ≡ frame message ++ drop (1472 * i + length (frame message)) area
  stored-slot =
      let l = length-frame message in
      let at : ℕ = 1472 * i in
      let a : at ≤ length area = omega arith in
      let behind = drop (at + length (frame message)) area in
      ap (drop at) (sets-eq (frame message) area at (omega arith) ∙ append_assoc (take at area) (frame message) behind)
      ∙ drop_at (take at area) (frame message ++ behind) at (length-take-le at area a)

  pub stored-stated : stated (slot_at (sets area (1472 * i) (frame message)) i) ≡ length message
  stored-stated = rw stored-slot (front-stated message (drop (1472 * i + length (frame message)) area) (omega arith))

  pub stored-first : first (slot_at (sets area (1472 * i) (frame message)) i) ≡ message
  stored-first = rw stored-slot (front-first message (drop (1472 * i + length (frame message)) area) (omega arith))

-- and so by number
pub stored-message : (area message : List ℕ) (m : ℕ) → length message ≤ longest → area_size ≤ length area
    → held_message (sets area (1472 * slot_of m) (frame message)) m ≡ message
stored-message area message m fits enough = stored-first area message (slot_of m) (omega arith) fits enough
