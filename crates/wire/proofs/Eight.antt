-- A field of up to eight bytes through a number of eight: read from the end of eight bytes that begin with noughts, and written from there.
-- Assumes nothing.
use Rattle.std.specs.Int.{from_be_bytes, to_be_bytes}
use Rattle.std.proofs.lemmas.List.{length-replicate, take-replicate}
use Rattle.std.proofs.lemmas.Nat.{be_bytes_8}
use Prim.Native.Nat.{ℕ, zero, suc, ◌+◌, ◌-◌, ◌*◌, ◌/◌, ◌%◌, ◌^◌, ◌≤◌, ◌<◌}
use mathlib.Core.Path.{◌≡◌, refl, ap, sym, ◌∙◌}
use mathlib.Core.List.{List, [], ◌∷◌, ◌++◌}
use native.Mathlib.Nat.{mod-eq_of_lt, not-suc-le-zero, le_of_suc-le-suc}
use native.Mathlib.Omega.{arith}
use mir.Syntax.{w64}
use lib.ListN.{length, take, drop, replicate, length-drop}
use lib.Seq.{drop_at, drop-drop, get_or-drop, sets, take_all}
use borrow.Rule.Slice.PartMut.{put_mid}
use Rattle.wire.specs.Fields.{be, bytes_of}
use Rattle.wire.proofs.Width.{be-add, be-last, bytes_of-add, bytes-bytes_of, length-bytes_of, length_part}
use Rattle.wire.proofs.Settling.{copied, stored_at}

-- the number that the library reads in eight bytes
whole : (b : List ℕ) → from_be_bytes w64 b ≡ be 8 b
unfolding be
whole b = simp (get_or-drop, drop-drop) (omega arith)

-- and the eight bytes that it spells
bytes-whole : (n : ℕ) → n < 2 ^ 64 → to_be_bytes w64 n ≡ bytes_of 8 n
bytes-whole n h =
    be_bytes_8 (bytes_of 8 n) n (length-bytes_of 8 n) (bytes-bytes_of 8 n)
    (sym (whole (bytes_of 8 n) ∙ be-last 8 n h))

be-noughts : (k : ℕ) (t : List ℕ) → be k (replicate k 0 ++ t) ≡ 0
unfolding be
be-noughts zero t = refl
be-noughts (suc k) t = rw (be-noughts k t) (omega arith)

be-front : (k : ℕ) (s t : List ℕ) → k ≤ length s → be k (take k s ++ t) ≡ be k s
unfolding be
be-front zero s t h = refl
be-front (suc k) [] t h = absurd (not-suc-le-zero h)
be-front (suc k) (x ∷ s) t h = rw (be-front k s t (le_of_suc-le-suc h))

-- read from the end of bytes that begin with noughts
read-at-end : (j k : ℕ) (s t : List ℕ) → k ≤ length s → be (j + k) (replicate j 0 ++ (take k s ++ t)) ≡ be k s
read-at-end j k s t h =
    let front = be-noughts j (take k s ++ t) in
    rw (
      be-add j k (replicate j 0 ++ (take k s ++ t)),
      front,
      drop_at (replicate j 0) (take k s ++ t) j (length-replicate j 0),
      be-front k s t h,
    ) (omega arith)

-- written from there
written-at-end : (j k n : ℕ) → n < 2 ^ (8 * (j + k)) → n < 2 ^ (8 * k) → drop j (bytes_of (j + k) n) ≡ bytes_of k n
written-at-end j k n h l =
    let m = n / 2 ^ (8 * k) in
    rw (bytes_of-add j k n h, drop_at (bytes_of j m) (bytes_of k (n % 2 ^ (8 * k))) j (length-bytes_of j m), mod-eq_of_lt l)

abbrev noughts : List ℕ
noughts = replicate 8 0

-- what is read, and what is stored, by way of a number of eight bytes
module _ (k : ℕ) (h : k ≤ 8) where
  eight : 8 - k + k ≡ 8
  eight = omega arith

  same : 8 - k + k - (8 - k) ≡ 8 - (8 - k)
  same = omega arith

  pub is-read : (s last : List ℕ) (at : ℕ) → at + k ≤ length s → last ≡ take (at + k - at) (drop at s)
      → from_be_bytes w64 (put_mid (8 - k) (8 - (8 - k)) noughts last) ≡ be k (drop at s)
  is-read s last at i e =
      let f = take k (drop at s) in
      let l : length f ≡ k = length_part at k s i in
      let zeros : length noughts ≡ 8 = refl in
      let first : take (8 - k) noughts ≡ replicate (8 - k) 0 = take-replicate (8 - k) 8 0 (omega arith) in
      let stored : put_mid (8 - k) (8 - k + k - (8 - k)) noughts last ≡ replicate (8 - k) 0 ++ (f ++ drop (8 - k + length f) noughts) =
      copied noughts s (8 - k) at k (omega arith) i last e ∙ stored_at noughts f (8 - k) (omega arith)
      ∙ ap (λ (x : List ℕ). x ++ (f ++ drop (8 - k + length f) noughts)) first in
      whole (put_mid (8 - k) (8 - (8 - k)) noughts last)
      ∙ ap (λ (m : ℕ). be 8 (put_mid (8 - k) m noughts last)) (sym same)
      ∙ ap (be 8) stored
      ∙ ap (λ (m : ℕ). be m (replicate (8 - k) 0 ++ (f ++ drop (8 - k + length f) noughts))) (sym eight)
      ∙ read-at-end (8 - k) k (drop at s) (drop (8 - k + length f) noughts) (rw length-drop (omega arith))

  pub is-stored : (d last : List ℕ) (at n : ℕ) → at + k ≤ length d → n < 2 ^ 64 → n < 2 ^ (8 * k)
      → last ≡ take (8 - (8 - k)) (drop (8 - k) (to_be_bytes w64 n)) → put_mid at (at + k - at) d last ≡ sets d at (bytes_of k n)
  is-stored d last at n i fits l e =
      let b = to_be_bytes w64 n in
      let part : drop (8 - k) b ≡ bytes_of k n = ap (λ (x : List ℕ). drop (8 - k) x) (bytes-whole n fits)
      ∙ ap (λ (m : ℕ). drop (8 - k) (bytes_of m n)) (sym eight) ∙ written-at-end (8 - k) k n (rw eight fits) l in
      let room : length b ≡ 8 = ap length (bytes-whole n fits) ∙ length-bytes_of 8 n in
      copied d b at (8 - k) k i (omega arith) last (e ∙ ap (λ (m : ℕ). take m (drop (8 - k) b)) (sym same))
      ∙ ap (sets d at) (ap (take k) part ∙ take_all k (bytes_of k n) (omega (arith, length-bytes_of k n)))
