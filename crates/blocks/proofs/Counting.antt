-- As many messages as there are blocks, and no more of them than bytes.
-- Assumes nothing.
use Prim.Native.Nat.{ℕ, zero, suc, ◌≤◌}
use mathlib.Core.List.{List, [], ◌∷◌}
use mathlib.Core.Path.{◌≡◌, refl, ap, sym}
use mathlib.Core.Bool.{Bool, true, true≢false}
use native.Mathlib.Omega.{arith}
use borrow.Author.Tests.{le-leb, leb-true}
use lib.ListN.{length, drop}
use lib.Dec.{leb}
use Rattle.wire.proofs.Tests.{both}
use Rattle.blocks.specs.Blocks.{frames, rest, Cut, torn, whole, cut, is_whole, messages_of, count_of, fills}
use Rattle.wire.specs.Checks.{taken}
use Rattle.blocks.proofs.Frames.{length-frames}
use Rattle.blocks.proofs.Cutting.{not-torn, stepped}

-- what is whole is its messages, and what has a count is whole
pub whole_is : (q : Cut) → is_whole q ≡ true → q ≡ whole (messages_of q)
whole_is torn h = absurd (true≢false (sym h))
whole_is (whole ms) h = refl

pub whole-count : (q : Cut) (n : ℕ) → count_of q ≡ taken n → is_whole q ≡ true
whole-count torn n e = cc
whole-count (whole ms) n e = refl

-- from a place inside, blocks fill the rest exactly if cutting it does: what the code's answer r says
pub fills-says : (s : List ℕ) (p n : ℕ) (r : Bool) → p ≤ length s → r ≡ fills s p n → is_whole (cut n (drop p s)) ≡ r
fills-says s p n r h e = sym (rw (le-leb p (length s) h) at e)

pub fills-cut : (s : List ℕ) (p n : ℕ) → fills s p n ≡ true → (p ≤ length s) × (cut n (drop p s) ≡ whole (messages_of (cut n (drop p s))))
fills-cut s p n e =
    let b = both (leb p (length s)) (is_whole (cut n (drop p s))) e in
    (leb-true p (length s) b.0, whole_is (cut n (drop p s)) b.1)

-- cutting into n blocks gives n messages
pub length_cut : (n : ℕ) (s : List ℕ) (ms : List (List ℕ)) → cut n s ≡ whole ms → length ms ≡ n
unfolding cut
length_cut zero [] ms e = ap length (ap messages_of (sym e))
length_cut zero (x ∷ s) ms e = not-torn torn ms refl e
length_cut (suc n) s ms e =
    let p = stepped n s ms e in
    rw p.are (ap suc (length_cut n (rest s) p.others p.cuts))

pub count_cut : (n : ℕ) (s : List ℕ) → is_whole (cut n s) ≡ true → length (messages_of (cut n s)) ≡ n
count_cut n s e = length_cut n s (messages_of (cut n s)) (whole_is (cut n s) e)

-- there are no more messages than bytes in their blocks
pub count-frames : (ms : List (List ℕ)) → length ms ≤ length (frames ms)
count-frames [] = omega arith
count-frames (m ∷ ms) = let l = length-frames m ms in let h = count-frames ms in omega arith
