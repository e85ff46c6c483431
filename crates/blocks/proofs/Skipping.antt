-- Skipping k blocks leads past the first k messages, and from there the blocks of the others stand.
-- Assumes nothing.
use Prim.Native.Nat.{ℕ, zero, suc, ◌+◌, ◌-◌, ◌≤◌, ◌<◌}
use mathlib.Core.List.{List, [], ◌∷◌, ◌++◌}
use mathlib.Core.Path.{◌≡◌, refl, ap, sym, ◌∙◌}
use native.Mathlib.Nat.{add-zero, not-suc-le-zero}
use native.Mathlib.Omega.{arith}
use borrow.Author.Tests.{leb-true, leb-false}
use lib.ListN.{length, take, drop, get_or, length-drop}
use lib.Seq.{drop_at}
use lib.Dec.{leb}
use Rattle.wire.specs.Checks.{taken}
use Rattle.wire.specs.declared.refusal.Refusal.TheVariants.{Framing}
use Rattle.wire.specs.Fields.{Bytes}
use Rattle.wire.proofs.Tests.{by-test}
use Rattle.wire.proofs.Checks.{not-both}
use Rattle.wire.proofs.Width.{bytes_drop}
use Rattle.blocks.specs.Blocks.{frame, frames, stated, first, torn, whole, cut, messages_of, end_at, place_after, Each}
use Rattle.blocks.specs.Blocks.{Short}
use Rattle.blocks.proofs.NextBlock.{place-step, place-torn, place_here, place-past, rest_at}
use Rattle.blocks.proofs.Frames.{length-frames, front-stated, length-first}
use Rattle.blocks.proofs.Places.{each_at, placed, placed-next, frames-around}
use Rattle.blocks.proofs.Cutting.{not-torn, stepped, frames-cut}

-- what whole blocks from p on say of the first of them: it lies inside, and the others stand after it
pub record SteppedAt (s : List ℕ) (p n : ℕ) (ms : List (List ℕ)) : Type 0 where
  pub inside : end_at s p ≤ length s
  pub ends : end_at s p ≡ p + 2 + length (first (drop p s))
  pub others : List (List ℕ)
  pub are : ms ≡ first (drop p s) ∷ others
  pub cuts : cut n (drop (end_at s p) s) ≡ whole others

pub stepped-at : (n : ℕ) (s : List ℕ) (p : ℕ) (ms : List (List ℕ)) → cut (suc n) (drop p s) ≡ whole ms → SteppedAt s p n ms
stepped-at n s p ms e =
    let t = stepped n (drop p s) ms e in
    let q = leb-true (2 + stated (drop p s)) (length (drop p s)) t.is-there in
    record {
      inside = omega (arith, length-drop p s);
      ends = rw (length-first (drop p s) t.is-there);
      others = t.others;
      are = t.are;
      cuts = rw (← rest_at s p) t.cuts;
    }

-- where no block is left, none stands
pub none-at : (s : List ℕ) (p : ℕ) (ms : List (List ℕ)) → cut 0 (drop p s) ≡ whole ms → (ms ≡ []) × (length s < end_at s p)
unfolding cut
none-at s p ms e = by (drop p s) refl where
  by : (t : List ℕ) → drop p s ≡ t → (ms ≡ []) × (length s < end_at s p)
  by [] d = (ap messages_of (sym (rw d at e)), omega (arith, rw length-drop at (ap length d)))
  by (x ∷ t) d = not-torn torn ms refl (rw d at e)

-- where the first k of some messages end, from p on
abbrev pub past : ℕ → ℕ → List (List ℕ) → ℕ
past p k ms = p + placed ms k

pub record Skipped (s : List ℕ) (p k n : ℕ) (ms : List (List ℕ)) : Type 0 where
  pub place : place_after k s p ≡ taken (past p k ms)
  pub inside : past p k ms ≤ length s
  pub others : cut (n - k) (drop (past p k ms) s) ≡ whole (drop k ms)

pub skipped : (k n : ℕ) (s : List ℕ) (p : ℕ) (ms : List (List ℕ)) → p ≤ length s → cut n (drop p s) ≡ whole ms → k ≤ n → Skipped s p k n ms
unfolding frames
skipped zero n s p ms h e l =
    let same : n - 0 ≡ n = omega arith in
    record { place = rw (add-zero p) (place_here s p h); inside = rw (add-zero p) h; others = rw (same, add-zero p) e }
skipped (suc k) zero s p ms h e l = absurd (not-suc-le-zero l)
skipped (suc k) (suc n) s p ms h e l =
    let t = stepped-at n s p ms e in
    let more = skipped k n s (end_at s p) t.others t.inside t.cuts (omega arith) in
    let same : past p (suc k) ms ≡ past (end_at s p) k t.others = ap (past p (suc k)) t.are
    ∙ omega (arith, t.ends, length-frames (first (drop p s)) (take k t.others)) in
    let fewer : suc n - suc k ≡ n - k = omega arith in
    let left : drop (suc k) ms ≡ drop k t.others = ap (drop (suc k)) t.are in
    record {
      place = place-step s p k t.inside ∙ rw same more.place;
      inside = rw same more.inside;
      others = rw (fewer, same, left) more.others;
    }

-- the raw bytes from there on are the blocks of the others
pub skipped-bytes : (k n : ℕ) (s : List ℕ) (p : ℕ) (ms : List (List ℕ)) → Bytes s → p ≤ length s → cut n (drop p s) ≡ whole ms → k ≤ n
    → drop (past p k ms) s ≡ frames (drop k ms)
skipped-bytes k n s p ms b h e l =
    sym (frames-cut (n - k) (drop (past p k ms) s) (drop k ms) (bytes_drop (past p k ms) s b) (skipped k n s p ms h e l).others).0

-- a place that was reached lies inside
pub place_inside : (k : ℕ) (s : List ℕ) (p q : ℕ) → place_after k s p ≡ taken q → q ≤ length s
place_inside zero s p q e =
    by-test (leb p (length s))
    (λ t.
    let h = leb-true p (length s) t in
    let same : p ≡ q = cc (place_here s p h) in
    rw same at h)
    (λ t. not-both (place_after zero s p) Framing q (place-past s p (leb-false p (length s) t)) e)
place_inside (suc k) s p q e =
    by-test (leb (end_at s p) (length s))
    (λ t. place_inside k s (end_at s p) q (rw (place-step s p k (leb-true (end_at s p) (length s) t)) at e))
    (λ t. not-both (place_after (suc k) s p) Framing q (place-torn s p k (leb-false (end_at s p) (length s) t)) e)

-- the block that was framed at a place
module _ (a m t : List ℕ) (h : Short m) where
  at_place : drop (length a) (a ++ (frame m ++ t)) ≡ frame m ++ t
  at_place = drop_at a (frame m ++ t) (length a) refl

  pub end_framed : end_at (a ++ (frame m ++ t)) (length a) ≡ length a + 2 + length m
  end_framed = rw (at_place, front-stated m t h)

-- and so at the place of each of some blocks
pub end-placed : (ms : List (List ℕ)) (k : ℕ) → Each Short ms → k < length ms → end_at (frames ms) (placed ms k) ≡ placed ms (k + 1)
end-placed ms k short h =
    rw (frames-around ms k h)
    (end_framed (frames (take k ms)) (get_or ms k []) (frames (drop (k + 1) ms)) (each_at Short ms k short h) ∙ sym (placed-next ms k h))
