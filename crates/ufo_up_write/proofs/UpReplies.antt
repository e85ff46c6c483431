-- What a writer's reply is, by the message's fields: the checks that are left of the reader's, then the room.
-- Assumes nothing.
use Prim.Native.Nat.{ℕ, ◌+◌, ◌^◌, ◌≤◌, ◌<◌}
use mathlib.Core.List.{List, [], ◌∷◌}
use mathlib.Core.Path.{◌≡◌, refl, ap, ◌∙◌}
use mathlib.Core.Bool.{true}
use native.Mathlib.Omega.{arith}
use borrow.Author.Tests.{le-leb, lt-leb, eq-eqb, ne_eqb, leb-true, leb-false, eqb-true, eqb-false}
use lib.ListN.{length, length-append}
use lib.Dec.{leb, eqb}
use Rattle.wire.specs.Checks.{◌is◌, ◌at_most◌, taken, Check, ◌else◌, checked}
use Rattle.wire.specs.Reply.{within}
use Rattle.wire.specs.Datagram.{limit}
use Rattle.wire.specs.declared.refusal.Refusal.TheVariants.{Overlong, Bound}
use Rattle.wire.proofs.Tests.{by-test}
use Rattle.wire.proofs.Checks.{into-checked}
use Rattle.wire.proofs.Settling.{settle-further}
use Rattle.wire.proofs.Width.{length-bytes_of}
use Rattle.blocks.specs.Blocks.{frame}
use Rattle.blocks.proofs.Frames.{length-frame}
use Rattle.ufo_up.specs.Up.{Message, login, request, unsequenced, heartbeat, logout, write_message, FitMessage, read_message, read_up}
use Rattle.ufo.specs.Numbers.{highest, held, capped}
use Rattle.ufo_up_write.specs.WriteUp.{capped_in, held_in, verdict, reply}
use Rattle.ufo_up.proofs.UpOne.{read_one}
use Rattle.ufo_up.proofs.UpExactOne.{full-message, length-message, left_l, left_t, checks-login, checks-request, read-unsequenced}
use Rattle.ufo_up.proofs.UpExactOne.{read-message}

-- the packet that holds one message, if the checks cs are left of it
read-framed : (cs : List Check) (m : Message) → length (write_message m) ≤ 1470 → read_message (write_message m) ≡ checked cs (taken m)
    → read_up (frame (write_message m)) ≡ checked cs (taken (m ∷ []))
read-framed cs m l e =
    rw (read_one (write_message m) (full-message m), le-leb (2 + length (write_message m)) limit (omega arith), e)
    (into-checked cs (taken m) (λ x. taken (x ∷ [])))

-- and the reply
replies : (cs : List Check) (m : Message) (room : ℕ) → length (write_message (capped_in m)) ≤ 1470
    → read_message (write_message (capped_in m)) ≡ checked cs (taken (capped_in m))
    → reply m room ≡ checked cs (checked ((held_in m else Bound) ∷ []) (within room (frame (write_message m))))
unfolding reply verdict
replies cs m room l e =
    rw (read-framed cs (capped_in m) l e)
    (settle-further cs ((held_in m else Bound) ∷ []) (capped_in m ∷ []) (frame (write_message m)) room)

pub reply-login : (u w s : List ℕ) (room : ℕ) → length u ≡ 6 → length w ≡ 10 → length s ≡ 10
    → reply (login u w s) room ≡ checked (left_l u w s) (within room (frame (write_message (login u w s))))
reply-login u w s room hu hw hs =
    let l : length (write_message (login u w s)) ≡ 27 = simp (length-append, hu, hw, hs) refl in
    replies (left_l u w s) (login u w s) room (omega arith) (checks-login u w s hu hw hs)

pub reply-request : (n c room : ℕ) → c < 2 ^ 16
    → reply (request n c) room
    ≡ checked (left_t n c) (checked ((held n else Bound) ∷ []) (within room (frame (write_message (request n c)))))
reply-request n c room h =
    let k = capped n in
    let l : length (write_message (request k c)) ≡ 7 = simp (length-append, length-bytes_of) refl in
    let e = replies (left_t k c) (request n c) room (omega arith) (checks-request k c (omega arith) h) in
    rw (same n) at e where
      same : (n : ℕ) → capped n is 0 ≡ n is 0
      same n =
          by-test (eqb n 0)
          (λ q. let z = eqb-true n 0 q in rw q (eq-eqb (capped n) 0 (omega arith)))
          (λ q. let z = eqb-false n 0 q in rw q (ne_eqb (capped n) 0 (λ e. z (omega arith))))

pub reply-unsequenced : (b : List ℕ) (room : ℕ)
    → reply (unsequenced b) room ≡ checked ((length b at_most 1469 else Overlong) ∷ []) (within room (frame (85 ∷ b)))
unfolding reply verdict read_up
reply-unsequenced b room =
    by-test (leb (length b) 1469)
    (λ q.
    let l = leb-true (length b) 1469 q in
    rw q (replies [] (unsequenced b) room (omega arith) (read-unsequenced b l)))
    (λ q.
    let l = leb-false (length b) 1469 q in
    let n = length-frame (85 ∷ b) in
    rw (q, ne_eqb (length (frame (85 ∷ b))) 0 (λ e. omega arith), lt-leb (length (frame (85 ∷ b))) limit (omega arith)))

-- a message whose number is held is not brought down, and a lawful one's is held
pub held_same : (m : Message) → held_in m ≡ true → capped_in m ≡ m
held_same (login u w s) t = refl
held_same (request n c) t =
    let h = leb-true n highest t in
    let s : capped n ≡ n = omega arith in
    ap (λ (k : ℕ). request k c) s
held_same (unsequenced b) t = refl
held_same heartbeat t = refl
held_same logout t = refl

pub fit-held : (m : Message) → FitMessage m → held_in m ≡ true
fit-held (login u w s) f = refl
fit-held (request n c) f = le-leb n highest (omega (arith, f.1))
fit-held (unsequenced b) f = refl
fit-held heartbeat f = refl
fit-held logout f = refl

-- a lawful message is written if there is room
pub reply-fit : (m : Message) (room : ℕ) → FitMessage m → reply m room ≡ within room (frame (write_message m))
reply-fit m room f =
    let t = fit-held m f in
    let s = held_same m t in
    let l : length (write_message (capped_in m)) ≤ 1470 = rw s (length-message m f) in
    let e : read_message (write_message (capped_in m)) ≡ taken (capped_in m) = rw s (read-message m f) in
    replies [] m room l e ∙ rw t
