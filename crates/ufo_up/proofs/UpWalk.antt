-- Going through a packet: at the place of its k-th block the k-th message is read, and its block ends at the place of the next.
-- Assumes nothing.
use Prim.Native.Nat.{ℕ, suc, ◌+◌, ◌≤◌, ◌<◌}
use mathlib.Core.List.{List, [], ◌∷◌, ◌++◌}
use mathlib.Core.Path.{◌≡◌, refl, ap, sym, ◌∙◌}
use native.Mathlib.Nat.{add-zero, zero-add, add-suc, suc-add}
use native.Mathlib.Numerals.{add-one}
use native.Mathlib.Omega.{arith}
use borrow.Author.Tests.{le-leb, ne_eqb}
use lib.ListN.{length, take, drop, get_or, length-append, drop_of_length-le}
use lib.Seq.{drop_at, drop-cons}
use Rattle.wire.specs.Checks.{Verdict, refused, taken, ◌into◌, ◌told_by◌}
use Rattle.wire.specs.declared.refusal.Refusal.{Refusal}
use Rattle.wire.proofs.Checks.{told, told-refused}
use Rattle.blocks.specs.Blocks.{frame, frames, stated, upstream, messages_of, end_at, Each, Short, Full}
use Rattle.blocks.proofs.Frames.{length-frame, front-stated, front-first}
use Rattle.blocks.proofs.Places.{each_at, placed, frames-around}
use Rattle.blocks.proofs.Cutting.{Framed}
use Rattle.blocks.proofs.Skipping.{end_framed, end-placed}
use Rattle.ufo_up.specs.Up.{Message, read_message, read_each, message_at, placed_of}
use Rattle.ufo_up.specs.declared.up.Placed.{Placed}

-- the message that was framed at a place
pub framed_at : (a m t : List ℕ) → Short m → Full m → message_at (a ++ (frame m ++ t)) (length a) ≡ read_message m
unfolding message_at
framed_at a m t h f =
    let d = a ++ (frame m ++ t) in
    let l : length d ≡ length a + (2 + length m + length t) = rw (length-append, length-append, length-frame) refl in
    let w : drop (length a) d ≡ frame m ++ t = drop_at a (frame m ++ t) (length a) refl in
    let s : stated (drop (length a) d) ≡ length m = rw w (front-stated m t h) in
    let e = end_framed a m t h in
    rw (
      le-leb (end_at d (length a)) (length d) (omega arith),
      ne_eqb (stated (drop (length a) d)) 0 (λ q. omega arith),
      w,
      front-first m t h,
    )

message-at : (bs : List (List ℕ)) (k : ℕ) → Each Short bs → Each Full bs → k < length bs
    → message_at (frames bs) (placed bs k) ≡ read_message (get_or bs k [])
message-at bs k short full h =
    rw (frames-around bs k h)
    (framed_at (frames (take k bs)) (get_or bs k []) (frames (drop (k + 1) bs)) (each_at Short bs k short h) (each_at Full bs k full h))

-- how many messages, after k that were counted before
abbrev pub counted : ℕ → Verdict (List Message) → Verdict ℕ
counted k v = v told_by (λ ms. k + length ms)

counted_none : (v : Verdict (List Message)) → v told_by length ≡ counted 0 v
counted_none (refused why) = refl
counted_none (taken ms) = ap (λ (n : ℕ). taken n) (sym (zero-add (length ms)))

module _ (bs : List (List ℕ)) (k : ℕ) where
  counted-all : length bs ≤ k → counted k (read_each (drop k bs)) ≡ taken k
  unfolding read_each
  counted-all h = rw (drop_of_length-le bs h) (ap (λ (n : ℕ). taken n) (add-zero k))

  module _ (h : k < length bs) where
    counted-more : (m : Message) → read_message (get_or bs k []) ≡ taken m
        → counted k (read_each (drop k bs)) ≡ counted (k + 1) (read_each (drop (k + 1) bs))
    unfolding read_each
    counted-more m e = rw (drop-cons bs k [] h, add-one, e) (by (read_each (drop (suc k) bs))) where
      by : (v : Verdict (List Message)) → counted k (v into (λ ms. taken (m ∷ ms))) ≡ counted (suc k) v
      by (refused why) = refl
      by (taken ms) = ap (λ (n : ℕ). taken n) (add-suc k (length ms) ∙ sym (suc-add k (length ms)))

    counted_stop : (why : Refusal) → read_message (get_or bs k []) ≡ refused why → counted k (read_each (drop k bs)) ≡ refused why
    unfolding read_each
    counted_stop why e = rw (drop-cons bs k [] h, e)

-- after k messages that were taken the place `at` is reached, and the others are still to be read
pub record Reached (d : List ℕ) (at k : ℕ) : Type 0 where
  pub place : at ≡ placed (messages_of (upstream d)) k
  pub answer : read_each (messages_of (upstream d)) told_by length ≡ counted k (read_each (drop k (messages_of (upstream d))))

pub reached-none : (d : List ℕ) → Reached d 0 0
unfolding frames
reached-none d = record { place = refl; answer = counted_none (read_each (messages_of (upstream d))) }

module _ (d : List ℕ) (at k : ℕ) (f : Framed d (messages_of (upstream d))) (r : Reached d at k) where
  abbrev bs : List (List ℕ)
  bs = messages_of (upstream d)

  module _ (h : k < length bs) where
    same-message : message_at d at ≡ read_message (get_or bs k [])
    same-message = rw r.place (rw f.bytes at (message-at bs k f.short f.full h))

    same_end : end_at d at ≡ placed bs (k + 1)
    same_end = rw r.place (rw f.bytes at (end-placed bs k f.short h))

    pub reached-more : (p : Placed) → message_at d at told_by placed_of (end_at d at) ≡ taken p → Reached d p.next (k + 1)
    reached-more p e =
        let t = told (message_at d at) (placed_of (end_at d at)) p e in
        record {
          place = ap (λ (q : Placed). q.next) (sym t.gave) ∙ same_end;
          answer = r.answer ∙ counted-more bs k h t.by (sym same-message ∙ t.was);
        }

    pub reached-stop : (why : Refusal) → message_at d at told_by placed_of (end_at d at) ≡ refused why
        → read_each bs told_by length ≡ refused why
    reached-stop why e =
        r.answer ∙ counted_stop bs k h why (sym same-message ∙ told-refused (message_at d at) (placed_of (end_at d at)) why e)

  pub reached-end : length bs ≤ k → read_each bs told_by length ≡ taken k
  reached-end h = r.answer ∙ counted-all bs k h
