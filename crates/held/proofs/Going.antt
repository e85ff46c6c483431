-- One turn more of a loop over slots, told of the definitions: message after message, from a number on.
-- Assumes nothing.
use Prim.Native.Nat.{ℕ, zero, suc, ◌+◌, ◌-◌, ◌*◌, ◌≤◌, ◌<◌}
use mathlib.Core.Path.{◌≡◌, refl, ap, sym, ◌∙◌}
use mathlib.Core.List.{List, ◌∷◌, ◌++◌}
use mathlib.Core.Bool.{true, false}
use native.Mathlib.Omega.{arith}
use borrow.Author.Tests.{le-leb}
use lib.ListN.{length, take, length-drop, length-append}
use lib.Seq.{sets, take_at}
use Rattle.std.specs.Prelude.{Option, Some, None}
use Rattle.std.specs.Option.{MatchOption, unwrap_or}
use Rattle.wire.specs.Fields.{Bytes}
use Rattle.wire.proofs.Width.{bytes_drop, sets-append}
use Rattle.blocks.specs.Blocks.{frame, frames, stated, there, first, rest}
use Rattle.blocks.proofs.Frames.{length-frame, length-first, frames-one, frames-append, framed-again}
use Rattle.held.specs.Slots.{longest, slot_of, full, freed, freed_from, slot_at, held_message}
use Rattle.held.specs.Hanging.{sound}
use Rattle.held.specs.Releasing.{run, held_from, Fitting}
use Rattle.held.proofs.Bitmap.{freed-add, freed-none}
use Rattle.held.proofs.Hangs.{sound-fits, fits-at}
use Rattle.held.proofs.Releases.{run-within, run-full, held-lean}

-- ---- one slot more falls free

module _ (held m k : ℕ) where
  pub freed-more : freed_from (k + 1) held m ≡ freed (freed_from k held m) (slot_of (m + k))
  unfolding freed_from
  freed-more = freed-add k 1 held m

  -- where none is full any more, the others change nothing
  pub freed-all : (n : ℕ) → k ≤ n → freed_from k held m ≡ 0 → freed_from n held m ≡ 0
  freed-all n h e =
      let s : k + (n - k) ≡ n = omega arith in
      let f : freed_from n held m ≡ freed_from (n - k) (freed_from k held m) (m + k) = rw s at (freed-add k (n - k) held m) in
      rw (f, e) (freed-none (n - k) (m + k))

-- ---- the first free slot ends a run

module _ (held : ℕ) where
  run-until : (n m i : ℕ) → i < n → full held (m + i) ≡ false → ((j : ℕ) → j < i → full held (m + j) ≡ true) → run n held m ≡ i
  unfolding run
  run-until zero m i h e f = absurd (omega arith)
  run-until (suc n) m zero h e f = let z : m + 0 ≡ m = omega arith in rw (rw z at e)
  run-until (suc n) m (suc i) h e f =
      let z : m + 0 ≡ m = omega arith in
      let s : m + suc i ≡ suc m + i = omega arith in
      rw (rw z at (f 0 (omega arith)))
      (ap suc (run-until n (suc m) i (omega arith) (rw s at e) (λ j l. shift m j (f (suc j) (omega arith))))) where
        shift : (m j : ℕ) → full held (m + suc j) ≡ true → full held (suc m + j) ≡ true
        shift m j e = let s : suc m + j ≡ m + suc j = omega arith in rw s e

  run-all : (n m : ℕ) → ((j : ℕ) → j < n → full held (m + j) ≡ true) → run n held m ≡ n
  unfolding run
  run-all zero m f = refl
  run-all (suc n) m f =
      let z : m + 0 ≡ m = omega arith in
      rw (rw z at (f 0 (omega arith))) (ap suc (run-all n (suc m) (λ j l. shift m j (f (suc j) (omega arith))))) where
        shift : (m j : ℕ) → full held (m + suc j) ≡ true → full held (suc m + j) ≡ true
        shift m j e = let s : suc m + j ≡ m + suc j = omega arith in rw s e

  pub run-is : (n m : ℕ) (free : Option ℕ)
      → MatchOption free ((k : ℕ) → 0 ≤ k → k < n → full held (m + k) ≡ true)
      (λ i. (0 ≤ i) × (i < n) × (full held (m + i) ≡ false) × ((k : ℕ) → 0 ≤ k → k < i → full held (m + k) ≡ true))
      → unwrap_or free n ≡ run n held m
  run-is n m None h = sym (run-all n m (λ j l. h j (omega arith) l))
  run-is n m (Some i) h = sym (run-until n m i h.1 h.2 (λ j l. h.3 j (omega arith) l))

pub run_fits : (held : ℕ) (area : List ℕ) (m : ℕ) → sound held area ≡ true → Fitting area m (run 31 held m)
run_fits held area m e =
    let f = sound-fits held area e in
    record { few = run-within 31 held m; long = f.enough; room = λ j h. fits-at held area f (m + j) (run-full 31 held m j h) }

-- ---- one message more is released

held-add : (a b : ℕ) (area : List ℕ) (m : ℕ) → held_from (a + b) area m ≡ held_from a area m ++ held_from b area (m + a)
unfolding held_from
held-add zero b area m = let z : 0 + b ≡ b = omega arith in let y : m + 0 ≡ m = omega arith in rw (z, y)
held-add (suc a) b area m =
    let s : suc a + b ≡ suc (a + b) = omega arith in
    let t : m + suc a ≡ suc m + a = omega arith in
    rw (s, t) (ap (λ (ms : List (List ℕ)). held_message area m ∷ ms) (held-add a b area (suc m)))

frames-add : (a b : ℕ) (area : List ℕ) (m : ℕ)
    → frames (held_from (a + b) area m) ≡ frames (held_from a area m) ++ frames (held_from b area (m + a))
frames-add a b area m = ap frames (held-add a b area m) ∙ frames-append (held_from a area m) (held_from b area (m + a))

-- of count messages from number m on, whose slots have room for what they state, the one behind the first k
module _ (area : List ℕ) (bytes : Bytes area) (m count : ℕ) (f : Fitting area m count) (k : ℕ) (h : k < count) where
  abbrev slot : List ℕ
  slot = slot_at area (slot_of (m + k))

  abbrev size : ℕ
  size = 2 + stated slot

  pub has-room : stated slot ≤ longest
  has-room = f.room k h

  whole-there : there slot ≡ true
  whole-there = let r = has-room in let l = f.long in le-leb size (length slot) (rw length-drop (omega arith))

  block : frame (first slot) ≡ take size slot
  block =
      let l : length (frame (first slot)) ≡ size = length-frame (first slot) ∙ ap (λ (n : ℕ). 2 + n) (length-first slot whole-there) in
      sym (ap (take size) (sym (framed-again slot whole-there (bytes_drop (1472 * slot_of (m + k)) area bytes)))
      ∙ take_at (frame (first slot)) (rest slot) size l)

  one-more : frames (held_from (k + 1) area m) ≡ frames (held_from k area m) ++ take size slot
  unfolding held_from
  one-more = frames-add k 1 area m ∙ ap (λ (s : List ℕ). frames (held_from k area m) ++ s) (frames-one (first slot) ∙ block)

  one-long : length (frames (held_from 1 area (m + k))) ≡ size
  unfolding held_from
  one-long = ap length (frames-one (first slot)) ∙ length-frame (first slot) ∙ ap (λ (n : ℕ). 2 + n) (length-first slot whole-there)

  pub size-more : length (frames (held_from (k + 1) area m)) ≡ length (frames (held_from k area m)) + size
  size-more =
      ap length (frames-add k 1 area m) ∙ length-append (frames (held_from k area m)) (frames (held_from 1 area (m + k)))
      ∙ ap (λ (n : ℕ). length (frames (held_from k area m)) + n) one-long

  -- so far no more than so many slots of bytes
  pub size-lean : length (frames (held_from k area m)) ≤ 1472 * k
  size-lean = held-lean area k m (λ j l. f.room j (omega arith))

  -- and with this one no more than all of them
  pub size-within : length (frames (held_from k area m)) + size ≤ length (frames (held_from count area m))
  size-within =
      let s : k + 1 + (count - (k + 1)) ≡ count = omega arith in
      let e : length (frames (held_from count area m))
      ≡ length (frames (held_from (k + 1) area m)) + length (frames (held_from (count - (k + 1)) area (m + (k + 1)))) =
      rw s at (ap length (frames-add (k + 1) (count - (k + 1)) area m)
      ∙ length-append (frames (held_from (k + 1) area m)) (frames (held_from (count - (k + 1)) area (m + (k + 1))))) in
      omega (arith, size-more)

  pub lay-more : (out : List ℕ) (at : ℕ)
      → sets (sets out at (frames (held_from k area m))) (at + length (frames (held_from k area m))) (take size slot)
      ≡ sets out at (frames (held_from (k + 1) area m))
  lay-more out at = sets-append out at (frames (held_from k area m)) (take size slot) ∙ ap (sets out at) (sym one-more)

-- none is released so far
module _ (area : List ℕ) (m : ℕ) where
  pub none-sized : length (frames (held_from 0 area m)) ≡ 0
  unfolding frames held_from
  none-sized = refl

  pub none-laid : (out : List ℕ) (at : ℕ) → sets out at (frames (held_from 0 area m)) ≡ out
  unfolding frames held_from
  none-laid out at = refl
