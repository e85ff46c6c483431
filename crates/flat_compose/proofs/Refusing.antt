-- What is refused behind the packet so far for an unknown type, or a body where none belongs, the reader refuses of the whole packet so
-- laid out.
-- Assumes nothing.
use Prim.Native.Nat.{ℕ, ◌+◌, ◌<◌}
use mathlib.Core.Path.{◌≡◌, refl, ◌∙◌}
use mathlib.Core.Logic.{◌⊎◌, inl, inr}
use mathlib.Core.List.{List, [], ◌∷◌, ◌++◌}
use native.Mathlib.Omega.{arith}
use borrow.Author.Tests.{le-leb, leb-true, leb-false, ne_eqb}
use lib.Dec.{leb}
use lib.ListN.{length, take, length-append}
use Rattle.wire.specs.Checks.{refused}
use Rattle.wire.specs.Datagram.{limit}
use Rattle.wire.specs.Reply.{Reply, settle}
use Rattle.wire.specs.declared.refusal.Refusal.{Refusal}
use Rattle.wire.specs.declared.refusal.Refusal.TheVariants.{UnknownType, Framing}
use Rattle.wire.proofs.Tests.{by-test}
use Rattle.wire.proofs.Width.{length-bytes_of}
use Rattle.blocks.specs.Blocks.{frame}
use Rattle.ufo_up.specs.Up.{Message, login, request, heartbeat, logout, write_message, read_message, read_up}
use Rattle.ufo_up.proofs.UpLonger.{Ends, longer-is-4}
use Rattle.ufo_compose.proofs.Behind.{read-over, read_behind}
use Rattle.ufo_compose.proofs.Adding.{Begun, so-far-lawful, length_so_far}
use Rattle.flat_packet.specs.declared.Packet.{Packet}
use Rattle.flat_packet.proofs.Refusing.{None}
use Rattle.flat_compose.specs.Adding.{unfit_behind, alone_behind, add_flat}

module _ (out : List ℕ) (used : ℕ) (g : Begun out used) where
  -- the packet with these bytes as one message more
  abbrev whole : List ℕ → List ℕ
  whole w = take used out ++ frame w

  abbrev sent : List ℕ → ℕ → Reply
  sent w room = settle (read_up (whole w)) (whole w) room

  pub refused-behind : (w : List ℕ) (size : ℕ) (why : Refusal) (room : ℕ)
      → 2 + length w ≡ size → 0 < length w → read_message w ≡ refused why
      → unfit_behind out used size why ≡ sent w room
  refused-behind w size why room k h e =
      let s = so-far-lawful out used g in
      let l = length_so_far out used g in
      rw (le-leb used (length out) g.inside, g.begun.is)
      (by-test (leb (used + size) limit)
      (λ p.
      let short = leb-true (used + size) limit p in
      let fits = read_behind g.begun.messages w s.all h (rw s.bytes (omega arith)) in
      let says : read_up (whole w) ≡ refused why = rw (← s.bytes) (fits ∙ rw e) in
      rw (p, says))
      (λ p.
      let long = leb-false (used + size) limit p in
      rw (p, read-over (take used out) w (omega arith))))

  module _ (p : Packet) (body : List ℕ) (room : ℕ) where
    pub unknown-type-behind : None (76 ∷ 84 ∷ 85 ∷ 82 ∷ 79 ∷ []) p.kind → add_flat p body out used ≡ sent (p.kind ∷ body) room
    unfolding add_flat read_message
    unknown-type-behind u =
        let l = ne_eqb p.kind 76 u.0 in
        let t = ne_eqb p.kind 84 u.1.0 in
        let d = ne_eqb p.kind 85 u.1.1.0 in
        let r = ne_eqb p.kind 82 u.1.1.1.0 in
        let o = ne_eqb p.kind 79 u.1.1.1.1.0 in
        rw (l, t, d, r, o)
        (refused-behind (p.kind ∷ body) (3 + length body) UnknownType room (omega arith) (omega arith) (rw (l, t, d, r, o)))

    module _ (h : 0 < length body) where
      -- a message of a type that has no body, whose block has `size` bytes without one
      with-body-behind : (m : Message) (size : ℕ) (reply : Reply) → Ends m → 2 + length (write_message m) ≡ size
          → alone_behind out used size body reply ≡ sent (write_message m ++ body) room
      with-body-behind m size reply f l =
          let w = write_message m ++ body in
          let n : 2 + length w ≡ size + length body = rw length-append (omega arith) in
          rw (ne_eqb (length body) 0 (λ z. omega arith))
          (refused-behind w (size + length body) Framing room n (rw length-append (omega arith)) (longer-is-4 body h m f))

      pub login-with-body-behind : p.kind ≡ 76 → length p.user ≡ 6 → length p.password ≡ 10 → length p.name ≡ 10
          → add_flat p body out used ≡ sent (write_message (login p.user p.password p.name) ++ body) room
      unfolding add_flat
      login-with-body-behind k a b c =
          let m = login p.user p.password p.name in
          rw k (with-body-behind m 29 _ (a, b, c) (simp (length-append, a, b, c) refl))

      pub request-with-body-behind : p.kind ≡ 84
          → add_flat p body out used ≡ sent (write_message (request p.number p.count) ++ body) room
      unfolding add_flat
      request-with-body-behind k =
          let m = request p.number p.count in
          rw k (with-body-behind m 9 _ tt (simp (length-append, length-bytes_of) refl))

      -- R O
      pub alone-with-body-behind : (p.kind ≡ 82) ⊎ (p.kind ≡ 79) → add_flat p body out used ≡ sent (p.kind ∷ body) room
      unfolding add_flat
      alone-with-body-behind (inl k) = rw k (with-body-behind heartbeat 3 _ tt refl)
      alone-with-body-behind (inr k) = rw k (with-body-behind logout 3 _ tt refl)
