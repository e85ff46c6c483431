-- Releasing held messages: a run of full slots stops at a free one, what goes out is what the slots hold, and it is not long.
-- Assumes nothing.
use Prim.Native.Nat.{ℕ, zero, suc, ◌+◌, ◌*◌, ◌≤◌, ◌<◌}
use mathlib.Core.Path.{◌≡◌, refl, ap, ◌∙◌}
use mathlib.Core.List.{List, []}
use mathlib.Core.Bool.{Bool, true, false}
use native.Mathlib.Omega.{arith}
use borrow.Author.Tests.{leb-true, leb-false}
use lib.Dec.{leb}
use lib.ListN.{length, get_or, drop, length-take}
use Rattle.wire.proofs.Tests.{by-test}
use Rattle.blocks.specs.Blocks.{frames, stated, first}
use Rattle.blocks.proofs.Frames.{length-frames, frames-none}
use Rattle.held.specs.Slots.{longest, slot_of, is_full, full, freed_from, slot_at, held_message}
use Rattle.held.specs.Hanging.{in_place}
use Rattle.held.specs.Releasing.{run, held_from, released}
use Rattle.held.proofs.Bitmap.{freed-add, freed-gone, free_stays}
use Rattle.held.proofs.Hangs.{next-free, still-numbered, freed-in-place, Fits, fits-at}

-- a run: so many are full, and the next is not, unless there are no more to look at
pub run-within : (n held m : ℕ) → run n held m ≤ n
unfolding run
run-within zero held m = omega arith
run-within (suc n) held m =
    by-test (full held m) (λ e. rw e (omega (arith, run-within n held (suc m)))) (λ e. rw e (omega arith))

pub run-full : (n held m j : ℕ) → j < run n held m → full held (m + j) ≡ true
unfolding run
run-full zero held m j h = absurd (omega arith)
run-full (suc n) held m j h =
    by-test (full held m) (λ e. by j e (rw e at h) (run-full n held (suc m))) (λ e. absurd (none (rw e at h))) where
      none : j < 0 → ⊥
      none l = omega arith

      by : (j : ℕ) → full held m ≡ true → j < suc (run n held (suc m))
          → ((j : ℕ) → j < run n held (suc m) → full held (suc m + j) ≡ true)
          → full held (m + j) ≡ true
      by zero e l more = let y : m + 0 ≡ m = omega arith in rw y e
      by (suc j) e l more = let t : m + suc j ≡ suc m + j = omega arith in rw t (more j (omega arith))

pub run-stops : (n held m : ℕ) → run n held m < n → full held (m + run n held m) ≡ false
unfolding run
run-stops zero held m h = absurd (omega arith)
run-stops (suc n) held m h =
    by-test (full held m)
    (λ e.
    let l : suc (run n held (suc m)) < suc n = rw e at h in
    let t : m + suc (run n held (suc m)) ≡ suc m + run n held (suc m) = omega arith in
    rw (e, t) (run-stops n held (suc m) (omega arith)))
    (λ e. let y : m + 0 ≡ m = omega arith in rw (e, y) e)

-- where the first is free, the run is empty
pub run_none : (n held m : ℕ) → full held m ≡ false → run n held m ≡ 0
unfolding run
run_none zero held m e = refl
run_none (suc n) held m e = rw e

-- what is held, by its place
pub length-held : (k : ℕ) (area : List ℕ) (m : ℕ) → length (held_from k area m) ≡ k
unfolding held_from
length-held zero area m = refl
length-held (suc k) area m = ap suc (length-held k area (suc m))

pub held_at : (k : ℕ) (area : List ℕ) (m j : ℕ) → j < k → get_or (held_from k area m) j [] ≡ held_message area (m + j)
unfolding held_from
held_at zero area m j h = absurd (omega arith)
held_at (suc k) area m zero h = let y : m + 0 ≡ m = omega arith in rw y
held_at (suc k) area m (suc j) h = let t : m + suc j ≡ suc m + j = omega arith in rw t (held_at k area (suc m) j (omega arith))

-- a message is no longer than its block states
first_short : (s : List ℕ) → length (first s) ≤ stated s
first_short s = omega (arith, length-take (stated s) (drop 2 s))

-- so many messages, each in a slot that it fits, take at most so many slots of bytes
module _ (area : List ℕ) where
  pub held-lean : (k m : ℕ) → ((j : ℕ) → j < k → stated (slot_at area (slot_of (m + j))) ≤ longest)
      → length (frames (held_from k area m)) ≤ 1472 * k
  unfolding held_from
  held-lean zero m f = omega (arith, frames-none)
  held-lean (suc k) m f =
      let y : m + 0 ≡ m = omega arith in
      let s = rw y at (f 0 (omega arith)) in
      let more = held-lean k (suc m) (λ j h. moved m j (f (suc j) (omega arith))) in
      omega (arith, length-frames (held_message area m) (held_from k area (suc m)), first_short (slot_at area (slot_of m))) where
        moved : (m j : ℕ) → stated (slot_at area (slot_of (m + suc j))) ≤ longest → stated (slot_at area (slot_of (suc m + j))) ≤ longest
        moved m j h = let t : suc m + j ≡ m + suc j = omega arith in rw t h

-- what is released from message m on
module _ (held : ℕ) (area : List ℕ) (m : ℕ) where
  pub length-released : length (released held area m) ≡ run 31 held m
  length-released = length-held (run 31 held m) area m

  -- where the next slot is free, nothing is
  pub released-none : full held m ≡ false → released held area m ≡ []
  unfolding held_from
  released-none e = rw (run_none 31 held m e)

  module _ (p : Fits held area) where
    fitting : (j : ℕ) → j < run 31 held m → stated (slot_at area (slot_of (m + j))) ≤ longest
    fitting j h = fits-at held area p (m + j) (run-full 31 held m j h)

    -- at most 31 slots of bytes
    pub released-lean : length (frames (released held area m)) ≤ 45632
    released-lean = let l = held-lean area (run 31 held m) m fitting in let r = run-within 31 held m in omega arith

-- k messages go out from N on, and then what is held from there on
module _ (held next top k : ℕ) (e : in_place held next top ≡ true) where
  abbrev r : ℕ
  r = run 31 (freed_from k held next) (next + k)

  -- the slots of all of them fall free
  pub freed-both : freed_from (k + r) held next ≡ freed_from r (freed_from k held next) (next + k)
  freed-both = freed-add k r held next

  -- each number that is released was held
  pub released-numbered : (j : ℕ) → j < r → (k + j < 32) × (1 ≤ k + j) × (next + k + j ≤ top)
  released-numbered j h =
      let w = run-within 31 (freed_from k held next) (next + k) in
      still-numbered held next top e k j (omega arith) (run-full 31 (freed_from k held next) (next + k) j h)

  -- where none of them goes out, none is held
  none-released : k ≡ 0 → r ≡ 0
  none-released z = run_none 31 (freed_from k held next) (next + k) (first-free k z) where
    first-free : (n : ℕ) → n ≡ 0 → full (freed_from n held next) (next + n) ≡ false
    first-free n z = let y : next + 0 ≡ next = omega arith in rw (z, y) (free_stays 0 held next next (next-free held next top e))

  -- a run of 31 stops at the slot of the last of them
  stops : (b : Bool) → leb 31 r ≡ b → (n : ℕ) → k ≡ n → full (freed_from k held next) (next + k + r) ≡ false
  stops false q n z = run-stops 31 (freed_from k held next) (next + k) (leb-false 31 r q)
  stops true q zero z = absurd (lone (leb-true 31 r q) (none-released z)) where
    lone : 31 ≤ r → r ≡ 0 → ⊥
    lone a b = omega arith
  stops true q (suc n) z =
      let a = leb-true 31 r q in
      let b = run-within 31 (freed_from k held next) (next + k) in
      ap (is_full (freed_from k held next)) (wraps (omega arith)) ∙ freed-gone k held next n (omega arith) where
        wraps : r ≡ 31 → slot_of (next + k + r) ≡ slot_of (next + n)
        wraps q = omega arith

  -- and N moves on to a free slot
  pub released-free : full (freed_from (k + r) held next) (next + (k + r)) ≡ false
  released-free =
      let s : next + (k + r) ≡ next + k + r = omega arith in
      rw (freed-both, s) (free_stays r (freed_from k held next) (next + k) (next + k + r) (stops (leb 31 r) refl k refl))

  pub released-in-place : in_place (freed_from (k + r) held next) (next + (k + r)) top ≡ true
  released-in-place = freed-in-place held next top e (k + r) released-free

  -- not past T, if the k are not
  pub released-near : next + k ≤ top + 1 → next + (k + r) ≤ top + 1
  released-near l = by r refl where
    by : (n : ℕ) → r ≡ n → next + (k + r) ≤ top + 1
    by zero z = omega arith
    by (suc n) z = omega (arith, (released-numbered n (omega arith)).2)
