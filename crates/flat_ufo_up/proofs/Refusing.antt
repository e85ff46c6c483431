-- UFO, client to server: what the writer refuses by itself, the reader refuses of the packet that holds that message alone.
-- Assumes nothing.
use Prim.Native.Nat.{ℕ, ◌+◌, ◌<◌}
use mathlib.Core.Path.{◌≡◌, refl}
use mathlib.Core.Logic.{◌⊎◌, inl, inr}
use mathlib.Core.List.{List, [], ◌∷◌, ◌++◌}
use native.Mathlib.Omega.{arith}
use borrow.Author.Tests.{ne_eqb}
use lib.Dec.{leb}
use lib.ListN.{length, length-append}
use Rattle.wire.specs.Checks.{refused}
use Rattle.wire.specs.Reply.{Reply, settle}
use Rattle.wire.specs.declared.refusal.Refusal.{Refusal}
use Rattle.wire.specs.declared.refusal.Refusal.TheVariants.{UnknownType, Framing}
use Rattle.wire.proofs.Width.{length-bytes_of}
use Rattle.blocks.specs.Blocks.{frame}
use Rattle.ufo_up.specs.Up.{Message, login, request, heartbeat, logout, write_message, read_message, read_up}
use Rattle.ufo_up.proofs.UpOne.{read_one}
use Rattle.ufo_up.proofs.UpLonger.{Ends, longer-is-4}
use Rattle.flat_packet.specs.declared.Packet.{Packet}
use Rattle.flat_packet.specs.Fitting.{unfit, alone}
use Rattle.flat_ufo_up.specs.Writing.{message_reply}
use Rattle.flat_packet.proofs.Refusing.{None, stands}

abbrev sent : List ℕ → ℕ → Reply
sent m room = settle (read_up (frame m)) (frame m) room

refuses : (m : List ℕ) (why : Refusal) (size room : ℕ) → 2 + length m ≡ size → 0 < length m → read_message m ≡ refused why
    → unfit 1472 size why ≡ sent m room
refuses m why size room l h e = rw (read_one m h, e, ← l) (stands _ (frame m) room (leb (2 + length m) 1472) why)

module _ (p : Packet) (body : List ℕ) (room : ℕ) where
  pub unknown-type : None (76 ∷ 84 ∷ 85 ∷ 82 ∷ 79 ∷ []) p.kind → message_reply p body room ≡ sent (p.kind ∷ body) room
  unfolding message_reply read_message
  unknown-type u =
      let l = ne_eqb p.kind 76 u.0 in
      let t = ne_eqb p.kind 84 u.1.0 in
      let d = ne_eqb p.kind 85 u.1.1.0 in
      let r = ne_eqb p.kind 82 u.1.1.1.0 in
      let o = ne_eqb p.kind 79 u.1.1.1.1.0 in
      rw (l, t, d, r, o) (refuses (p.kind ∷ body) UnknownType (3 + length body) room (omega arith) (omega arith) (rw (l, t, d, r, o)))

  module _ (h : 0 < length body) where
    -- a message of a type that has no body, whose block has `size` bytes without one
    with-body : (m : Message) (size : ℕ) (reply : Reply) → Ends m → 2 + length (write_message m) ≡ size
        → alone 1472 size body reply ≡ sent (write_message m ++ body) room
    with-body m size reply f l =
        let w = write_message m ++ body in
        let n : 2 + length w ≡ size + length body = rw length-append (omega arith) in
        rw (ne_eqb (length body) 0 (λ z. omega arith))
        (refuses w Framing (size + length body) room n (rw length-append (omega arith)) (longer-is-4 body h m f))

    pub login-with-body : p.kind ≡ 76 → length p.user ≡ 6 → length p.password ≡ 10 → length p.name ≡ 10
        → message_reply p body room ≡ sent (write_message (login p.user p.password p.name) ++ body) room
    unfolding message_reply
    login-with-body k a b c =
        let m = login p.user p.password p.name in
        rw k (with-body m 29 _ (a, b, c) (simp (length-append, a, b, c) refl))

    pub request-with-body : p.kind ≡ 84 → message_reply p body room ≡ sent (write_message (request p.number p.count) ++ body) room
    unfolding message_reply
    request-with-body k =
        let m = request p.number p.count in
        rw k (with-body m 9 _ tt (simp (length-append, length-bytes_of) refl))

    -- R O
    pub alone-with-body : (p.kind ≡ 82) ⊎ (p.kind ≡ 79) → message_reply p body room ≡ sent (p.kind ∷ body) room
    unfolding message_reply
    alone-with-body (inl k) = rw k (with-body heartbeat 3 _ tt refl)
    alone-with-body (inr k) = rw k (with-body logout 3 _ tt refl)
