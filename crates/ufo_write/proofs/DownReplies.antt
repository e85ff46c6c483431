-- What each writer replies: the checks of its fields in the reader's order, then whether the packet fits the room.
-- Assumes nothing.
use Rattle.std.specs.Prelude.{if◌then◌else◌}
use Prim.Native.Nat.{ℕ, ◌+◌, ◌-◌, ◌^◌, ◌<◌}
use mathlib.Core.Path.{◌≡◌, refl, ◌∙◌}
use mathlib.Core.List.{List, [], ◌∷◌}
use mathlib.Core.Bool.{Bool, true, false}
use native.Mathlib.Omega.{arith}
use borrow.Author.Tests.{lt-leb, leb-true, leb-false, ne_eqb}
use lib.ListN.{length}
use lib.Dec.{leb}
use Rattle.wire.specs.Checks.{Check, ◌else◌, checked, refused, taken}
use Rattle.wire.specs.Reply.{Reply, within}
use Rattle.wire.specs.declared.refusal.Refusal.TheVariants.{Bound}
use Rattle.wire.proofs.Tests.{by-test}
use Rattle.wire.proofs.Settling.{settle-checked, settle-further}
use Rattle.blocks.specs.Blocks.{cut, messages_of}
use Rattle.ufo.specs.Numbers.{highest, held, capped}
use Rattle.ufo.specs.Down.{Packet, accept, reject, messages, end, laid, write, read}
use Rattle.ufo_write.specs.WriteDown.{reply, accept_reply, reject_reply, messages_reply, end_reply}
use Rattle.ufo.proofs.DownLaid.{of_accept, of_reject, of_messages, of_end, laid-accept, laid-reject, laid-messages, laid_end}

-- the checks of a packet with a number, of which those at the highest number refuse whatever is more
module _ (lay : ℕ → List ℕ) (cs : ℕ → List Check) (p : ℕ → Packet)
    (reads : (n : ℕ) → n < 2 ^ 32 → read (lay n) ≡ checked (cs n) (taken (p n))) (n room : ℕ) where
  numbered : (highest < n → checked (cs highest) (refused Bound) ≡ checked (cs n) (within room (lay n)))
      → reply lay n room ≡ checked (cs n) (within room (lay n))
  numbered above =
      rw (reads (capped n) (omega arith))
      (settle-further (cs (capped n)) ((held n else Bound) ∷ []) (p (capped n)) (lay n) room
      ∙ by-test (held n)
      (λ q.
      let h = leb-true n highest q in
      let same : capped n ≡ n = omega arith in
      rw (q, same))
      (λ q.
      let h = leb-false n highest q in
      let same : capped n ≡ highest = omega arith in
      rw (q, same) (above h)))

pub accept-reply : (session : List ℕ) (next room : ℕ) → length session ≡ 10
    → accept_reply session next room ≡ checked (of_accept session next) (within room (write (accept session next)))
unfolding accept_reply
accept-reply session next room l =
    numbered (λ n. write (accept session n)) (of_accept session) (accept session) (λ n h. laid-accept session n l h) next room
    (λ h. rw (ne_eqb next 0 (λ e. omega arith), lt-leb next (2 ^ 32 - 1) h))

pub reject-reply : (reason room : ℕ) → reject_reply reason room ≡ checked (of_reject reason) (within room (write (reject reason)))
unfolding reject_reply
reject-reply reason room =
    rw (laid-reject reason) (settle-checked (of_reject reason) (taken (reject reason)) (write (reject reason)) room)

pub messages-reply : (first count : ℕ) (blocks : List ℕ) (room : ℕ) → count < 2 ^ 16
    → messages_reply first count blocks room ≡ checked (of_messages first count blocks) (within room (laid first count blocks))
unfolding messages_reply
messages-reply first count blocks room k =
    numbered (λ n. laid n count blocks) (λ n. of_messages n count blocks) (λ n. messages n (messages_of (cut count blocks)))
    (λ n h. laid-messages n count blocks h k) first room
    (λ h. rw (
      ne_eqb first 0 (λ e. omega arith),
      lt-leb (first + count) (2 ^ 32 - 1) (omega arith),
      alike (leb (2 ^ 32 - 1 + count) (2 ^ 32 - 1)) (refused Bound),
    )) where
      alike : (b : Bool) (v : Reply) → if b then v else v ≡ v
      alike true v = refl
      alike false v = refl

pub end-reply : (total room : ℕ) → end_reply total room ≡ checked (of_end total) (within room (write (end total)))
unfolding end_reply
end-reply total room =
    numbered (λ n. write (end n)) of_end end laid_end total room (λ h. rw (lt-leb total (2 ^ 32 - 2) (omega arith)))
