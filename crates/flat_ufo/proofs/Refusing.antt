-- UFO, server to client: what the writer refuses by itself, the reader refuses of that packet.
-- Assumes nothing.
use Prim.Native.Nat.{ℕ, ◌+◌, ◌<◌}
use mathlib.Core.Path.{◌≡◌}
use mathlib.Core.List.{List, [], ◌∷◌, ◌++◌}
use native.Mathlib.Omega.{arith}
use borrow.Author.Tests.{ne_eqb}
use lib.ListN.{length, length-append}
use Rattle.wire.specs.Reply.{Reply, settle}
use Rattle.wire.proofs.Width.{length-bytes_of}
use Rattle.ufo.specs.Down.{accept, reject, end, write, read_a, read_j, read_e, read}
use Rattle.flat_packet.specs.declared.Packet.{Packet}
use Rattle.flat_ufo.specs.Writing.{down_reply}
use Rattle.flat_packet.proofs.Refusing.{None, unknown-datagram, beyond-datagram}

abbrev sent : List ℕ → ℕ → Reply
sent d room = settle (read d) d room

module _ (p : Packet) (body : List ℕ) (room : ℕ) where
  pub unknown-type : None (65 ∷ 74 ∷ 83 ∷ 69 ∷ []) p.kind → down_reply p body room ≡ sent (p.kind ∷ body) room
  unfolding down_reply read
  unknown-type u =
      rw (ne_eqb p.kind 65 u.0, ne_eqb p.kind 74 u.1.0, ne_eqb p.kind 83 u.1.1.0, ne_eqb p.kind 69 u.1.1.1.0)
      (unknown-datagram _ (p.kind ∷ body) room (1 + length body) (omega arith) (omega arith))

  module _ (h : 0 < length body) where
    pub accept-with-body : p.kind ≡ 65 → length p.name ≡ 10
        → down_reply p body room ≡ sent (write (accept p.name p.number) ++ body) room
    unfolding down_reply read read_a
    accept-with-body k l =
        let d = write (accept p.name p.number) ++ body in
        let size : length d ≡ 15 + length body = simp (length-append, length-bytes_of, l) (omega arith) in
        rw k (beyond-datagram _ d room 15 body _ _ size h)

    pub reject-with-body : p.kind ≡ 74 → down_reply p body room ≡ sent (write (reject p.reason) ++ body) room
    unfolding down_reply read read_j
    reject-with-body k = rw k (beyond-datagram _ (write (reject p.reason) ++ body) room 2 body _ _ (omega arith) h)

    pub end-with-body : p.kind ≡ 69 → down_reply p body room ≡ sent (write (end p.number) ++ body) room
    unfolding down_reply read read_e
    end-with-body k =
        let d = write (end p.number) ++ body in
        let size : length d ≡ 5 + length body = simp (length-append, length-bytes_of) (omega arith) in
        rw k (beyond-datagram _ d room 5 body _ _ size h)
