-- What is added to nothing, message by message, is the messages written together; whatever is made is a packet that the reader takes, and a
-- lawful packet that has room is made.
-- Assumes nothing.
use Prim.Native.Nat.{ℕ, ◌+◌, ◌≤◌}
use mathlib.Core.List.{List, [], ◌∷◌, ◌++◌, map, append_assoc, append-nil}
use mathlib.Core.Path.{◌≡◌, refl, ap, sym, ◌∙◌}
use native.Mathlib.Omega.{arith}
use borrow.Author.Tests.{le-leb, ne_eqb}
use lib.ListN.{length, take, drop, length-append, length-drop}
use lib.Seq.{take_at}
use Rattle.wire.specs.Checks.{◌at_most◌, Verdict, refused, taken, ◌else◌, checked, ◌into◌}
use Rattle.wire.specs.Reply.{Reply, left_of, settle}
use Rattle.wire.specs.Datagram.{limit}
use Rattle.wire.specs.declared.refusal.Refusal.TheVariants.{Framing, Bound}
use Rattle.wire.proofs.Checks.{all-passed, not-both, taken-same, went}
use Rattle.wire.proofs.Settling.{within-taken, enough-room}
use Rattle.blocks.specs.Blocks.{frame, frames}
use Rattle.blocks.proofs.Frames.{length-frames, frames-one}
use Rattle.ufo_up.specs.Up.{Message, write_message, write_up, FitMessage, FitAll, Fit, read_up}
use Rattle.ufo_up.proofs.UpPacket.{Took}
use Rattle.ufo_up.proofs.Exact.{written-is-read}
use Rattle.ufo_up.proofs.UpInTurn.{write-append, length_more}
use Rattle.ufo_up_write.specs.WriteUp.{capped_in, held_in}
use Rattle.ufo_up_write.proofs.UpReplies.{held_same, fit-held}
use Rattle.ufo_compose.specs.Compose.{so_far, verdict_after, add_reply}

-- each message in turn: the next one finds the bytes that this one left, and its answer as the mark
abbrev pub composed : List Message → List ℕ → ℕ → Reply
composed [] out used = taken (take used out)
composed (m ∷ ms) out used = add_reply m out used into (λ q. composed ms (left_of (taken q) out) (length q))

module _ (m : Message) (out : List ℕ) (used : ℕ) (q : List ℕ) where
  -- what was made is the packet so far with the message behind it, and the reader takes it
  pub record Made : Type 0 where
    pub bytes : take used out ++ frame (write_message m) ≡ q
    pub read : Took (read_up q)

  settled : (v : Verdict (List Message)) → verdict_after (take used out) m ≡ v
      → settle v (take used out ++ frame (write_message m)) (length out) ≡ taken q → Made
  unfolding verdict_after
  settled (refused n) e t = not-both (refused n) n q refl t
  settled (taken ms) e t =
      let same = within-taken (length out) (take used out ++ frame (write_message m)) q t in
      let w = went (read_up (take used out ++ frame (write_message (capped_in m)))) (λ os. checked ((held_in m else Bound) ∷ []) (taken os))
      ms e in
      let h = (all-passed ((held_in m else Bound) ∷ []) (taken w.by) ms w.gave).0.0 in
      let read : read_up (take used out ++ frame (write_message m)) ≡ taken w.by =
      ap (λ (x : Message). read_up (take used out ++ frame (write_message x))) (sym (held_same m h)) ∙ w.was in
      record { bytes = same; read = record { messages = w.by; is = rw same at read } }

  pub made : add_reply m out used ≡ taken q → Made
  unfolding add_reply
  made e =
      let p = take used out in
      let a = all-passed ((used at_most length out else Framing) ∷ [])
      (so_far p into (λ _. settle (verdict_after p m) (p ++ frame (write_message m)) (length out))) q e in
      let w = went (so_far p) (λ _. settle (verdict_after p m) (p ++ frame (write_message m)) (length out)) q a.1 in
      settled (verdict_after p m) refl w.gave

-- whatever is composed from nothing is the messages written together
composed-behind : (ms : List Message) (out : List ℕ) (used : ℕ) (q : List ℕ) → composed ms out used ≡ taken q
    → q ≡ take used out ++ write_up ms
unfolding frames
composed-behind [] out used q e = taken-same q (take used out) (sym e) ∙ sym (append-nil (take used out))
composed-behind (m ∷ ms) out used q e =
    let w = went (add_reply m out used) (λ b. composed ms (left_of (taken b) out) (length b)) q e in
    let b = w.by in
    let r = composed-behind ms (b ++ drop (length b) out) (length b) q w.gave in
    let t : take (length b) (b ++ drop (length b) out) ≡ b = take_at b (drop (length b) out) (length b) refl in
    r ∙ rw (t, ← (made m out used b w.was).bytes, append_assoc (take used out) (frame (write_message m)) (write_up ms))

pub composed-is : (ms : List Message) (out q : List ℕ) → composed ms out 0 ≡ taken q → q ≡ write_up ms
composed-is ms out q e = composed-behind ms out 0 q e

fit-more : (a : List Message) (m : Message) → FitAll a → FitMessage m → FitAll (a ++ (m ∷ []))
fit-more [] m f g = (g, tt)
fit-more (x ∷ a) m f g = (f.0, fit-more a m f.1 g)

-- what was written so far is taken so far
written-so-far : (a : List Message) → FitAll a → length (write_up a) ≤ limit → so_far (write_up a) ≡ taken a
unfolding frames
written-so-far [] f h = refl
written-so-far (m ∷ a) f h =
    let l = length-frames (write_message m) (map write_message a) in
    rw (ne_eqb (length (write_up (m ∷ a))) 0 (λ z. omega arith))
    (written-is-read (m ∷ a) (record { some = omega arith; all = f; short = h }))

module _ (a : List Message) (m : Message) where
  write-more : write_up (a ++ (m ∷ [])) ≡ write_up a ++ frame (write_message m)
  write-more = write-append a (m ∷ []) ∙ rw (frames-one (write_message m))

  -- a lawful message behind lawful ones is taken if the limit and the room allow it
  pub add_fit : (out : List ℕ) → FitAll a → FitMessage m → take (length (write_up a)) out ≡ write_up a
      → length (write_up (a ++ (m ∷ []))) ≤ limit → length (write_up (a ++ (m ∷ []))) ≤ length out
      → add_reply m out (length (write_up a)) ≡ taken (write_up (a ++ (m ∷ [])))
  unfolding add_reply verdict_after
  add_fit out f g e l h =
      let n = length_more a m in
      let t = fit-held m g in
      let fit : Fit (a ++ (m ∷ [])) = record { some = rw length-append (omega arith); all = fit-more a m f g; short = l } in
      let read : read_up (write_up a ++ frame (write_message m)) ≡ taken (a ++ (m ∷ [])) =
      rw (← write-more) (written-is-read (a ++ (m ∷ [])) fit) in
      rw (
        le-leb (length (write_up a)) (length out) (omega arith),
        e,
        written-so-far a f (omega arith),
        held_same m t,
        read,
        t,
        ← write-more,
      )
      (enough-room (write_up (a ++ (m ∷ []))) (length out) h)

composed-on : (b a : List Message) (out : List ℕ) → FitAll a → FitAll b → length (write_up a) + length (write_up b) ≤ limit
    → length (write_up a) + length (write_up b) ≤ length out → take (length (write_up a)) out ≡ write_up a
    → composed b out (length (write_up a)) ≡ taken (write_up a ++ write_up b)
unfolding frames
composed-on [] a out f g l h e = ap taken (e ∙ sym (append-nil (write_up a)))
composed-on (m ∷ b) a out f g l h e =
    let q = write_up (a ++ (m ∷ [])) in
    let n = length_more a m in
    let k = length-frames (write_message m) (map write_message b) in
    let size : length (q ++ drop (length q) out) ≡ length out = rw (length-append, length-drop) (omega arith) in
    let more = composed-on b (a ++ (m ∷ [])) (q ++ drop (length q) out) (fit-more a m f g.0) g.1 (omega arith) (omega arith)
    (take_at q (drop (length q) out) (length q) refl) in
    rw (add_fit a m out f g.0 e (omega arith) (omega arith))
    (more ∙ rw (write-more a m, append_assoc (write_up a) (frame (write_message m)) (write_up b)))

-- and of a lawful packet that has room every message is taken
pub composed-all : (ms : List Message) (out : List ℕ) → Fit ms → length (write_up ms) ≤ length out → composed ms out 0 ≡ taken (write_up ms)
unfolding frames
composed-all ms out f h = composed-on ms [] out tt f.all (omega (arith, f.short)) (omega arith) refl
