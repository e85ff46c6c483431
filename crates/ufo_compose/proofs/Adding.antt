-- Behind a packet that is lawful so far the reply is the message's own, with the packet before it.
-- Assumes nothing.
use Prim.Native.Nat.{ℕ, ◌+◌, ◌-◌, ◌≤◌, ◌<◌}
use mathlib.Core.List.{List, [], ◌∷◌, ◌++◌}
use mathlib.Core.Path.{◌≡◌, refl, ◌∙◌}
use mathlib.Core.Bool.{Bool, true, false}
use native.Mathlib.Omega.{arith}
use borrow.Author.Tests.{le-leb, lt-leb, ne_eqb}
use lib.Dec.{leb}
use lib.ListN.{length, take, length-append, length-take}
use Rattle.wire.specs.Fields.{Bytes}
use Rattle.wire.specs.Checks.{Verdict, refused, taken, ◌else◌, checked, ◌into◌}
use Rattle.wire.specs.Reply.{within, settle}
use Rattle.wire.specs.Datagram.{limit}
use Rattle.wire.specs.declared.refusal.Refusal.{Refusal}
use Rattle.wire.specs.declared.refusal.Refusal.TheVariants.{Overlong, Framing, Bound}
use Rattle.wire.proofs.Tests.{by-test, leb-same}
use Rattle.wire.proofs.Width.{bytes_take, length-bytes_of}
use Rattle.blocks.specs.Blocks.{frame, frames}
use Rattle.blocks.proofs.Frames.{length-frame}
use Rattle.ufo_up.specs.Up.{Message, login, request, unsequenced, heartbeat, logout, write_message, write_up, FitAll, read_message, read_up}
use Rattle.ufo_up.proofs.UpPacket.{Took}
use Rattle.ufo_up.proofs.UpOne.{read_one}
use Rattle.ufo_up.proofs.UpExactOne.{full-message}
use Rattle.ufo_up.proofs.Exact.{read-is-written}
use Rattle.ufo_up_write.specs.WriteUp.{capped_in, held_in, verdict, reply}
use Rattle.ufo_compose.specs.Compose.{so_far, verdict_after, add_reply}
use Rattle.ufo_compose.proofs.Behind.{read-over, read_behind}

-- what is taken so far was written from lawful messages, and keeps the limit
pub record Lawful (p : List ℕ) (ms : List Message) : Type 0 where
  pub all : FitAll ms
  pub bytes : write_up ms ≡ p
  pub short : length p ≤ limit

pub lawful : (p : List ℕ) → Bytes p → (ms : List Message) → so_far p ≡ taken ms → Lawful p ms
unfolding frames
lawful [] b ms e = let none : [] ≡ ms = cc in rw (← none) (record { all = tt; bytes = refl; short = omega arith })
lawful (x ∷ p) b ms e =
    let w = read-is-written (x ∷ p) b ms (rw (ne_eqb (length (x ∷ p)) 0 (λ z. omega arith)) at e) in
    record { all = w.0.all; bytes = w.1; short = rw w.1 at w.0.short }

-- a packet behind another needs the room that is left
behind-room : (p q : List ℕ) (room : ℕ) → length p ≤ room → within room (p ++ q) ≡ within (room - length p) q into (λ b. taken (p ++ b))
behind-room p q room h =
    let same : leb (length p + length q) room ≡ leb (length q) (room - length p) = leb-same (length p + length q) room (length q)
    (room - length p) (λ t. omega arith) (λ t. omega arith) in
    rw (length-append, same) (by-test (leb (length q) (room - length p)) (λ t. rw t) (λ t. rw t))

-- a number brought down to what its field can hold takes as many bytes
length-capped : (m : Message) → length (write_message (capped_in m)) ≡ length (write_message m)
length-capped (login u w s) = refl
length-capped (request n c) = simp (length-append, length-bytes_of) refl
length-capped (unsequenced b) = refl
length-capped heartbeat = refl
length-capped logout = refl

-- the output's first bytes are taken so far
pub record Begun (out : List ℕ) (used : ℕ) : Type 0 where
  pub inside : used ≤ length out
  pub bytes : Bytes out
  pub begun : Took (so_far (take used out))

module _ (out : List ℕ) (used : ℕ) (g : Begun out used) where
  abbrev ms : List Message
  ms = g.begun.messages

  pub so-far-lawful : Lawful (take used out) ms
  so-far-lawful = lawful (take used out) (bytes_take used out g.bytes) ms g.begun.is

  pub length_so_far : length (take used out) ≡ used
  length_so_far = rw length-take (omega (arith, g.inside))

  pub begun-short : used ≤ limit
  begun-short = rw length_so_far at so-far-lawful.short

  module _ (m : Message) where
    pub add-over : limit - used < length (frame (write_message m)) → add_reply m out used ≡ refused Overlong
    unfolding add_reply verdict_after
    add-over l =
        let n = length_so_far in
        let k = length-capped m in
        let s = begun-short in
        rw (
          le-leb used (length out) g.inside,
          g.begun.is,
          read-over (take used out) (write_message (capped_in m)) (omega (arith, length-frame (write_message m))),
        )

    pub add-behind : length (frame (write_message m)) ≤ limit - used
        → add_reply m out used ≡ reply m (length out - used) into (λ b. taken (take used out ++ b))
    unfolding add_reply verdict_after reply verdict
    add-behind l =
        let w = write_message (capped_in m) in
        let f = length-frame (write_message m) in
        let n = length_so_far in
        let k = length-capped m in
        let s = begun-short in
        let some = full-message (capped_in m) in
        let behind : read_up (take used out ++ frame w) ≡ read_message w into (λ x. taken (ms ++ (x ∷ []))) =
        rw (← so-far-lawful.bytes) (read_behind ms w so-far-lawful.all some (rw so-far-lawful.bytes (omega arith))) in
        let alone : read_up (frame w) ≡ read_message w into (λ x. taken (x ∷ [])) = read_one w some
        ∙ rw (le-leb (2 + length w) limit (omega arith)) in
        rw (le-leb used (length out) g.inside, g.begun.is, behind, alone) (by (read_message w) (held_in m)) where
          by : (v : Verdict Message) (b : Bool)
              → settle ((v into (λ x. taken (ms ++ (x ∷ [])))) into (λ os. checked ((b else Bound) ∷ []) (taken os)))
              (take used out ++ frame (write_message m)) (length out) ≡ settle
              ((v into (λ x. taken (x ∷ []))) into (λ os. checked ((b else Bound) ∷ []) (taken os))) (frame (write_message m))
              (length out - used) into (λ q. taken (take used out ++ q))
          by (refused n) b = refl
          by (taken x) false = refl
          by (taken x) true =
              rw length_so_far at (behind-room (take used out) (frame (write_message m)) (length out) (rw length_so_far g.inside))

module _ (m : Message) (out : List ℕ) (used : ℕ) where
  pub add-past : length out < used → add_reply m out used ≡ refused Framing
  unfolding add_reply
  add-past h = rw (lt-leb used (length out) h)

  pub add-refused : (why : Refusal) → used ≤ length out → so_far (take used out) ≡ refused why → add_reply m out used ≡ refused why
  unfolding add_reply
  add-refused n h e = rw (le-leb used (length out) h, e)
