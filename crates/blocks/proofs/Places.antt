-- The place of the k-th block of some messages, and what stands there; what holds of each message, at a place and in a part.
-- Assumes nothing.
use Prim.Native.Nat.{ℕ, zero, suc, ◌+◌, ◌≤◌, ◌<◌}
use mathlib.Core.List.{List, [], ◌∷◌, ◌++◌}
use mathlib.Core.Path.{◌≡◌, ap, ◌∙◌}
use native.Mathlib.Nat.{not-suc-le-zero}
use native.Mathlib.Numerals.{add-one}
use native.Mathlib.Omega.{arith}
use borrow.Author.Tests.{leb-true, leb-false}
use lib.ListN.{length, take, drop, get_or, length-append, take-append-drop}
use lib.Seq.{drop-cons, take-suc, take_all}
use lib.Dec.{leb}
use Rattle.wire.proofs.Tests.{by-test}
use Rattle.wire.proofs.Width.{length-bytes_of}
use Rattle.blocks.specs.Blocks.{frame, frames, Each}
use Rattle.blocks.proofs.Frames.{length-frame, frames-append}

module _ (P : List ℕ → Type 0) where
  pub each_at : (ms : List (List ℕ)) (k : ℕ) → Each P ms → k < length ms → P (get_or ms k [])
  each_at [] k e h = absurd (not-suc-le-zero h)
  each_at (m ∷ ms) zero e h = e.0
  each_at (m ∷ ms) (suc k) e h = each_at ms k e.1 (omega arith)

  pub each_take : (k : ℕ) (ms : List (List ℕ)) → Each P ms → Each P (take k ms)
  each_take zero ms h = tt
  each_take (suc k) [] h = tt
  each_take (suc k) (m ∷ ms) h = (h.0, each_take k ms h.1)

  pub each-drop : (k : ℕ) (ms : List (List ℕ)) → Each P ms → Each P (drop k ms)
  each-drop zero ms h = h
  each-drop (suc k) [] h = tt
  each-drop (suc k) (m ∷ ms) h = each-drop k ms h.1

-- the place of the k-th block
abbrev pub placed : List (List ℕ) → ℕ → ℕ
placed ms k = length (frames (take k ms))

-- the blocks of the first messages, and then those of the others
pub frames-split : (k : ℕ) (ms : List (List ℕ)) → frames ms ≡ frames (take k ms) ++ frames (drop k ms)
frames-split k ms = rw (← frames-append (take k ms) (drop k ms), take-append-drop k ms)

module _ (ms : List (List ℕ)) (k : ℕ) where
  pub placed-next : k < length ms → placed ms (k + 1) ≡ placed ms k + 2 + length (get_or ms k [])
  unfolding frames
  placed-next h =
      rw (add-one, take-suc ms k [] h, frames-append) (simp (length-append, length-bytes_of) (omega arith))

  pub frames-around : k < length ms → frames ms ≡ frames (take k ms) ++ (frame (get_or ms k []) ++ frames (drop (k + 1) ms))
  unfolding frames
  frames-around h = frames-split k ms ∙ rw (drop-cons ms k [] h, add-one)

  -- the place tells whether there are more
  pub not-all : placed ms k < length (frames ms) → k < length ms
  not-all l =
      by-test (leb (length ms) k)
      (λ q.
      let e : placed ms k ≡ length (frames ms) = ap (λ (s : List (List ℕ)). length (frames s)) (take_all k ms (leb-true (length ms) k q)) in
      absurd (omega arith))
      (leb-false (length ms) k)

  pub all : length (frames ms) ≤ placed ms k → length ms ≤ k
  all l =
      by-test (leb (length ms) k) (leb-true (length ms) k)
      (λ q.
      let t = frame (get_or ms k []) ++ frames (drop (k + 1) ms) in
      let e : length (frames ms) ≡ placed ms k + length t = rw length-append at (ap length (frames-around (leb-false (length ms) k q))) in
      absurd (omega (arith, length-append (frame (get_or ms k [])) (frames (drop (k + 1) ms)), length-frame (get_or ms k []))))
