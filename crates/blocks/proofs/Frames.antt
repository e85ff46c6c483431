-- Messages framed one after the other: lengths, joining, and the block at the front.
-- Assumes nothing.
use Prim.Native.Nat.{ℕ, zero, suc, ◌+◌, ◌≤◌, ◌<◌, ◌^◌}
use mathlib.Core.List.{List, [], ◌∷◌, ◌++◌, append_assoc, append-nil}
use mathlib.Core.Path.{◌≡◌, refl, sym}
use mathlib.Core.Bool.{true, false}
use native.Mathlib.Omega.{arith}
use borrow.Author.Tests.{le-leb, leb-true, ne_eqb}
use lib.ListN.{length, drop, length-append, take-append-drop}
use lib.Seq.{sets, drop-drop, take_at, drop_at}
use lib.Dec.{eqb}
use Rattle.wire.specs.Fields.{bytes_of, Bytes}
use Rattle.wire.proofs.Width.{be-bytes_of, bytes_of-be, bytes-bytes_of, bytes_drop, bytes_take, bytes-append, length-bytes_of, length_part}
use Rattle.wire.proofs.Width.{part-again, sets-after}
use Rattle.blocks.specs.Blocks.{frame, frames, stated, there, first, rest, Each, Short}

pub length-frame : (m : List ℕ) → length (frame m) ≡ 2 + length m
length-frame m = rw (length-append, length-bytes_of)

pub length-frames : (m : List ℕ) (ms : List (List ℕ)) → length (frames (m ∷ ms)) ≡ 2 + length m + length (frames ms)
unfolding frames
length-frames m ms = rw (length-append, length-frame)

pub frames-none : length (frames []) ≡ 0
unfolding frames
frames-none = refl

pub frames-drop : (n : ℕ) (ms : List (List ℕ)) → length (frames (drop n ms)) ≤ length (frames ms)
frames-drop zero ms = omega arith
frames-drop (suc n) [] = omega arith
frames-drop (suc n) (m ∷ ms) = omega (arith, frames-drop n ms, length-frames m ms)

-- one message
pub frames-one : (m : List ℕ) → frames (m ∷ []) ≡ frame m
unfolding frames
frames-one m = append-nil (frame m)

pub length-one : (m : List ℕ) → length (frames (m ∷ [])) ≡ 2 + length m
length-one m = rw (frames-one m) (length-frame m)

-- its length, and then the message, stored at a place are its block
pub stored_one : (s m : List ℕ) (at : ℕ) → sets (sets s at (bytes_of 2 (length m))) (at + 2) m ≡ sets s at (frames (m ∷ []))
stored_one s m at =
    rw (frames-one m) (sets-after s at 2 (bytes_of 2 (length m)) m (length-bytes_of 2 (length m)))

pub frames-append : (a b : List (List ℕ)) → frames (a ++ b) ≡ frames a ++ frames b
unfolding frames
frames-append [] b = refl
frames-append (m ∷ a) b = rw (frames-append a b) (sym (append_assoc (frame m) (frames a) (frames b)))

-- messages that lie in less than 65,536 bytes are short
pub short-frames : (ms : List (List ℕ)) → length (frames ms) < 2 ^ 16 → Each Short ms
short-frames [] h = tt
short-frames (m ∷ ms) h = let l = length-frames m ms in (omega arith, short-frames ms (omega arith))

pub bytes-frames : (ms : List (List ℕ)) → Each Bytes ms → Bytes (frames ms)
unfolding frames
bytes-frames [] h = λ i. omega arith
bytes-frames (m ∷ ms) h =
    bytes-append (frame m) (frames ms) (bytes-append (bytes_of 2 (length m)) m (bytes-bytes_of 2 (length m)) h.0) (bytes-frames ms h.1)

-- the block at the front of what was framed
module _ (m t : List ℕ) (h : Short m) where
  pub front-stated : stated (frame m ++ t) ≡ length m
  front-stated = rw append_assoc (be-bytes_of 2 (length m) (m ++ t) h)

  after-length : drop 2 (frame m ++ t) ≡ m ++ t
  after-length = rw append_assoc (drop_at (bytes_of 2 (length m)) (m ++ t) 2 (length-bytes_of 2 (length m)))

  pub front-there : there (frame m ++ t) ≡ true
  front-there =
      rw front-stated (le-leb (2 + length m) (length (frame m ++ t)) (rw (length-append, length-frame) (omega arith)))

  pub front-first : first (frame m ++ t) ≡ m
  front-first = rw (front-stated, after-length, take_at m t (length m) refl)

  pub front_rest : rest (frame m ++ t) ≡ t
  front_rest = rw (front-stated, ← drop-drop (length m) 2 (frame m ++ t), after-length, drop_at m t (length m) refl)

-- a block that is all there has two bytes or more; framed again, it stands before what follows it
module _ (s : List ℕ) (e : there s ≡ true) where
  pub there-some : eqb (length s) 0 ≡ false
  there-some = let l = leb-true (2 + stated s) (length s) e in ne_eqb (length s) 0 (λ z. omega arith)

  pub length-first : length (first s) ≡ stated s
  length-first =
      let l = leb-true (2 + stated s) (length s) e in
      length_part 2 (stated s) s (omega arith)

  pub framed-again : Bytes s → frame (first s) ++ rest s ≡ s
  framed-again b =
      let l = leb-true (2 + stated s) (length s) e in
      rw (length-first, bytes_of-be 2 s b (omega arith), append_assoc, part-again 2 (stated s) s, take-append-drop)

pub bytes-first : (s : List ℕ) → Bytes s → Bytes (first s)
bytes-first s b = bytes_take (stated s) (drop 2 s) (bytes_drop 2 s b)
