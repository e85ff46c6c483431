-- An answer carries as many messages as go in, one at least; it, a heartbeat and an end are lawful packets.
-- Assumes nothing.
use Prim.Native.Nat.{ℕ, zero, suc, ◌+◌, ◌-◌, ◌^◌, ◌≤◌, ◌<◌}
use mathlib.Core.List.{List, [], ◌∷◌}
use mathlib.Core.Path.{◌≡◌, ap, ◌∙◌}
use mathlib.Core.Bool.{Bool, true}
use native.Mathlib.Omega.{arith}
use borrow.Author.Tests.{le-leb, leb-true}
use lib.ListN.{length, take, drop, get_or, length-drop}
use lib.Seq.{drop-cons}
use lib.Dec.{leb}
use Rattle.wire.specs.Fields.{Bytes}
use Rattle.wire.specs.Datagram.{limit}
use Rattle.blocks.specs.Blocks.{frames, is_whole, Each}
use Rattle.wire.proofs.Width.{bytes_take, length_part}
use Rattle.blocks.proofs.Frames.{length-one}
use Rattle.blocks.proofs.Places.{each_take, each-drop}
use Rattle.blocks.proofs.Cutting.{frames-cut}
use Rattle.ufo.specs.Down.{messages, write, Fit}
use Rattle.blocks.proofs.Counting.{count_cut}
use Rattle.ufo.proofs.DownLaid.{length-laid}
use Rattle.lent_log.specs.Log.{small, messages_in, hangs}
use Rattle.lend.specs.Answer.{greatest, from, goes, heartbeat_of, end_of, answer_to}
use Rattle.lent_log.specs.declared.Log.{Log}
use Rattle.wire.proofs.Tests.{by-test, and_left, and_right, leb-same}
use Rattle.lent_log.proofs.Hanging.{hanging}
use Rattle.lend.proofs.Greatest.{greatest-bound, greatest-passes, greatest-above, greatest-same}
use Rattle.lend.proofs.Measuring.{holds}

small-drop : (k : ℕ) (ms : List (List ℕ)) → small ms ≡ true → small (drop k ms) ≡ true
unfolding small
small-drop zero ms e = e
small-drop (suc k) [] e = e
small-drop (suc k) (m ∷ ms) e = small-drop k ms (and_right (leb (length m) 1463) (small ms) e)

-- a log that hangs together: its count is that of its messages, and they are bytes
pub count-is : (l : Log) (s : List ℕ) → hangs l s ≡ true → length (messages_in l s) ≡ l.count
count-is l s e = count_cut l.count (take l.used s) (ap is_whole (hanging l s e).cuts)

pub few-in : (l : Log) (s : List ℕ) → hangs l s ≡ true → length (messages_in l s) ≤ 2 ^ 32 - 2
few-in l s e = rw (count-is l s e) (hanging l s e).count

pub bytes-in : (l : Log) (s : List ℕ) → Bytes s → hangs l s ≡ true → Each Bytes (messages_in l s)
bytes-in l s b e = (frames-cut l.count (take l.used s) (messages_in l s) (bytes_take l.used s b) (hanging l s e).cuts).2

-- the packet with the most messages: no more than were asked, none that isn't there, none that doesn't go in, and none less
pub record Most (ms : List (List ℕ)) (f c k : ℕ) : Type 0 where
  pub asked : k ≤ c
  pub there : f + k - 1 ≤ length ms
  pub size : length (write (from f k ms)) ≤ limit
  pub many : length (take k (drop (f - 1) ms)) ≡ k
  pub above : (j : ℕ) → j ≤ c → goes ms f j ≡ true → j ≤ k

module _ (ms : List (List ℕ)) (f : ℕ) (h : 0 < f) (g : f ≤ length ms) where
  -- so many messages go into a packet as their blocks go into 1,465 bytes
  pub goes-holds : (j : ℕ) → goes ms f j ≡ holds (drop (f - 1) ms) 1465 j
  goes-holds j =
      let t = take j (drop (f - 1) ms) in
      let n = length-drop (f - 1) ms in
      let a = leb-same (f + j - 1) (length ms) j (length (drop (f - 1) ms)) (λ u. omega arith) (λ u. omega arith) in
      let l : length (write (messages f t)) ≡ 7 + length (frames t) = length-laid f (length t) (frames t) in
      let b = leb-same (length (write (messages f t))) limit (length (frames t)) 1465 (λ u. omega arith) (λ u. omega arith) in
      rw (a, b)

  pub most-holds : (c : ℕ) → greatest (goes ms f) c ≡ greatest (holds (drop (f - 1) ms) 1465) c
  most-holds c = greatest-same (goes ms f) (holds (drop (f - 1) ms) 1465) c goes-holds

  none-goes : goes ms f 0 ≡ true
  unfolding frames
  none-goes = goes-holds 0 ∙ rw (le-leb 0 (length (drop (f - 1) ms)) (omega arith), le-leb 0 1465 (omega arith))

  -- a message of at most 1,463 bytes goes into a packet
  pub one-goes : small ms ≡ true → goes ms f 1 ≡ true
  unfolding small
  one-goes z =
      let m = get_or ms (f - 1) [] in
      let os = drop (suc (f - 1)) ms in
      let d : drop (f - 1) ms ≡ m ∷ os = drop-cons ms (f - 1) [] (omega arith) in
      let y : small (m ∷ os) ≡ true = rw d at (small-drop (f - 1) ms z) in
      let l = leb-true (length m) 1463 (and_left (leb (length m) 1463) (small os) y) in
      let n = length-one m in
      goes-holds 1 ∙ rw (d, le-leb 1 (suc (length os)) (omega arith), le-leb (length (frames (m ∷ []))) 1465 (omega arith))

  pub most : (c : ℕ) → Most ms f c (greatest (goes ms f) c)
  most c =
      let k = greatest (goes ms f) c in
      let e = greatest-passes (goes ms f) c none-goes in
      let a = leb (f + k - 1) (length ms) in
      let b = leb (length (write (from f k ms))) limit in
      let t = leb-true (f + k - 1) (length ms) (and_left a b e) in
      record {
        asked = greatest-bound (goes ms f) c;
        there = t;
        size = leb-true (length (write (from f k ms))) limit (and_right a b e);
        many = length_part (f - 1) k ms (omega arith);
        above = greatest-above (goes ms f) c;
      }

  -- an answer carries these messages, one at least
  pub answer-carries : (ended : Bool) (c : ℕ) → 0 < c → small ms ≡ true → let n = greatest (goes ms f) c in
      (answer_to ended ms f c ≡ messages f (take n (drop (f - 1) ms))) × (0 < n) × Most ms f c n
  unfolding answer_to
  answer-carries ended c i z =
      (rw (le-leb f (length ms) g), greatest-above (goes ms f) c 1 i (one-goes z), most c)

-- each packet is lawful
module _ (ms : List (List ℕ)) (n : length ms ≤ 2 ^ 32 - 2) where
  pub beat-fits : Fit (heartbeat_of ms)
  unfolding frames
  beat-fits = let l = length-laid (length ms + 1) 0 [] in record { some = omega arith; bound = omega arith; bytes = tt; size = omega arith }

  pub end_fits : Fit (end_of ms)
  end_fits = n

  pub from-fits : (f c : ℕ) → Each Bytes ms → 0 < f → f ≤ length ms → Fit (from f (greatest (goes ms f) c) ms)
  from-fits f c b h k =
      let m = most ms f h k c in
      let j = greatest (goes ms f) c in
      record {
        some = h;
        bound = omega (arith, m.many, m.there);
        bytes = each_take Bytes j (drop (f - 1) ms) (each-drop Bytes (f - 1) ms b);
        size = m.size;
      }

  pub answer-fits : (ended : Bool) (f c : ℕ) → Each Bytes ms → 0 < f → Fit (answer_to ended ms f c)
  unfolding answer_to
  answer-fits ended f c b h =
      by-test (leb f (length ms))
      (λ e. rw e (from-fits f c b h (leb-true f (length ms) e)))
      (λ e. by-test ended (λ x. rw (e, x) end_fits) (λ x. rw (e, x) beat-fits))
