-- In a packet that is taken each message is read at the place where those before it end, up to the packet's end.
-- Assumes nothing.
use Prim.Native.Nat.{ℕ, ◌+◌}
use mathlib.Core.List.{List, [], ◌∷◌, ◌++◌, map, map-append, append_assoc, append-nil}
use mathlib.Core.Path.{◌≡◌, ap, sym, ◌∙◌}
use native.Mathlib.Nat.{zero-add}
use native.Mathlib.Omega.{arith}
use borrow.Author.Tests.{eq-eqb, ne_eqb}
use lib.ListN.{length, length-append}
use Rattle.wire.specs.Fields.{Bytes}
use Rattle.wire.specs.Checks.{taken}
use Rattle.blocks.specs.Blocks.{frame, frames, end_at, Short}
use Rattle.blocks.proofs.Frames.{length-frame, length-frames, frames-none, frames-one, frames-append}
use Rattle.blocks.proofs.Skipping.{end_framed}
use Rattle.ufo_up.specs.Up.{Message, write_message, write_up, FitMessage, FitAll, read_up, message_at, message_from, message_in}
use Rattle.ufo_up.proofs.UpWalk.{framed_at}
use Rattle.ufo_up.proofs.UpExactOne.{full-message, length-message, read-message}
use Rattle.ufo_up.proofs.Exact.{read-is-written}

pub write-append : (a b : List Message) → write_up (a ++ b) ≡ write_up a ++ write_up b
write-append a b =
    ap frames (map-append write_message a b) ∙ frames-append (map write_message a) (map write_message b)

-- each of lawful messages is lawful
pub fit-there : (a : List Message) (m : Message) (b : List Message) → FitAll (a ++ (m ∷ b)) → FitMessage m
fit-there [] m b f = f.0
fit-there (x ∷ a) m b f = fit-there a m b f.1

pub length_more : (a : List Message) (m : Message) → length (write_up (a ++ (m ∷ []))) ≡ length (write_up a) + 2 + length (write_message m)
length_more a m =
    rw (write-append a (m ∷ []), frames-one (write_message m), length-append) (omega (arith, length-frame (write_message m)))

-- of messages from `at` on, the one at the place where those before it end
from-there : (at : ℕ) (a : List Message) (m : Message) (b : List Message)
    → message_from at (a ++ (m ∷ b)) (at + length (write_up a)) ≡ taken m
unfolding message_from
from-there at [] m b = rw (eq-eqb at (at + length (write_up [])) (omega (arith, frames-none)))
from-there at (x ∷ a) m b =
    let l = length-frames (write_message x) (map write_message a) in
    let next = at + 2 + length (write_message x) in
    let same : at + length (write_up (x ∷ a)) ≡ next + length (write_up a) = omega arith in
    rw (same, ne_eqb at (next + length (write_up a)) (λ e. omega arith)) (from-there next a m b)

-- message by message from p on: these, up to the packet's end
abbrev pub InTurn : List ℕ → ℕ → List Message → Type 0
InTurn d p [] = p ≡ length d
InTurn d p (m ∷ ms) = (message_in d p ≡ taken m) × InTurn d (end_at d p) ms

module _ (d : List ℕ) (bytes : Bytes d) where
  -- what stands after the messages a
  pub read-there : (a : List Message) (m : Message) (b : List Message) → read_up d ≡ taken (a ++ (m ∷ b))
      → (message_at d (length (write_up a)) ≡ taken m) × (end_at d (length (write_up a)) ≡ length (write_up (a ++ (m ∷ []))))
  unfolding frames
  read-there a m b e =
      let w = read-is-written d bytes (a ++ (m ∷ b)) e in
      let f = fit-there a m b w.0.all in
      let s : write_up a ++ (frame (write_message m) ++ write_up b) ≡ d = sym (write-append a (m ∷ b)) ∙ w.1 in
      let h : Short (write_message m) = omega (arith, length-message m f) in
      rw (← s) (
        framed_at (write_up a) (write_message m) (write_up b) h (full-message m) ∙ read-message m f,
        end_framed (write_up a) (write_message m) (write_up b) h ∙ sym (length_more a m),
      )

  -- after the last of them is the packet's end
  pub read-last : (ms : List Message) → read_up d ≡ taken ms → length (write_up ms) ≡ length d
  read-last ms e = ap length (read-is-written d bytes ms e).1

  after : (a b : List Message) → read_up d ≡ taken (a ++ b) → InTurn d (length (write_up a)) b
  after a [] e = read-last a (rw append-nil at e)
  after a (m ∷ b) e =
      let here : message_in d (length (write_up a)) ≡ taken m = rw (e, ← zero-add (length (write_up a))) (from-there 0 a m b) in
      let more : read_up d ≡ taken ((a ++ (m ∷ [])) ++ b) = rw (append_assoc a (m ∷ []) b) e in
      (here, rw (read-there a m b e).1 (after (a ++ (m ∷ [])) b more))

  -- message by message is the whole packet
  pub in-turn : (ms : List Message) → read_up d ≡ taken ms → InTurn d 0 ms
  in-turn ms e = rw frames-none at (after [] ms e)
