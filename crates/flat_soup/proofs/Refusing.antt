-- SoupTCP: what the writer refuses by itself, the reader refuses of that packet.
-- Assumes nothing.
use Rattle.std.specs.Prelude.{if◌then◌else◌}
use Prim.Native.Nat.{ℕ, ◌+◌, ◌<◌}
use mathlib.Core.Path.{◌≡◌, sym, ap, ◌∙◌}
use mathlib.Core.Logic.{◌⊎◌, inl, inr}
use mathlib.Core.List.{List, [], ◌∷◌, ◌++◌}
use native.Mathlib.Omega.{arith}
use borrow.Author.Tests.{le-leb}
use lib.ListN.{length, length-append}
use Rattle.wire.specs.Checks.{◌is◌, ◌at_most◌, Verdict, refused, checked}
use Rattle.wire.specs.Reply.{Reply, settle}
use Rattle.wire.specs.declared.refusal.Refusal.TheVariants.{UnknownType, Framing}
use Rattle.decimal.specs.Decimal.{written}
use Rattle.soup.specs.Packet as soup
use Rattle.soup.specs.Packet.{line_limit, line}
use Rattle.soup.specs.Read.{opening, read}
use Rattle.soup_write.specs.Writing.{sent}
use Rattle.soup.proofs.Lines.{length-line}
use Rattle.soup.proofs.Types.{Unknown, unknown-is-3}
use Rattle.decimal.proofs.Written.{length-written}
use Rattle.flat_packet.specs.declared.Packet.{Packet}
use Rattle.flat_soup.specs.Writing.{soup_bare, soup_reply}
use Rattle.flat_packet.specs.Fitting.{unfit, alone}
use Rattle.flat_packet.proofs.Refusing.{opened, unknown, beyond}

-- a line of an unknown type; and one that goes on with a body
module _ (A : Type 0) (d : List ℕ) (room : ℕ) where
  unknown-line : (size : ℕ) → length d ≡ size → 0 < size
      → unfit line_limit size UnknownType ≡ settle {A = A} (opened (1 at_most length d) line_limit d (refused UnknownType)) d room
  unknown-line size l h = unknown A d room (1 at_most length d) line_limit size (le-leb 1 (length d) (omega arith)) l

  beyond-line : (size : ℕ) (body : List ℕ) (reply : Reply) (v : Verdict A) → length d ≡ size + length body → 0 < length body
      → alone line_limit size body reply
      ≡ settle (opened (1 at_most length d) line_limit d (if length d is size then v else refused Framing)) d room
  beyond-line size body reply v l h =
      beyond A d room (1 at_most length d) line_limit size (le-leb 1 (length d) (omega arith)) body reply v l h

module _ (p : Packet) (body : List ℕ) (room : ℕ) where
  size : (kind n : ℕ) (fields : List ℕ) → length fields ≡ n → length (line kind (fields ++ body)) ≡ 2 + n + length body
  size kind n fields l = length-line kind (fields ++ body) ∙ simp (length-append, l) (omega arith)

  -- a type that is none of the ten
  module _ (u : Unknown p.kind) where
    pub unknown-reply : soup_reply p body room ≡ unfit line_limit (2 + length body) UnknownType
    unfolding soup_reply soup_bare
    unknown-reply = rw (
      u.debug,
      u.sequenced,
      u.unsequenced,
      u.accept,
      u.reject,
      u.login,
      u.server_heartbeat,
      u.end_of_session,
      u.client_heartbeat,
      u.logout,
    )

    pub unknown-type : soup_reply p body room ≡ sent (line p.kind body) room
    unfolding read
    unknown-type =
        let d = line p.kind body in
        unknown-reply
        ∙ unknown-line soup.Packet d room (2 + length body) (omega (arith, length-line p.kind body)) (omega arith)
        ∙ ap (λ (v : Verdict soup.Packet). settle (checked (opening d) v) d room) (sym (unknown-is-3 p.kind d u))

  module _ (h : 0 < length body) where
    pub accept-with-body : p.kind ≡ 65 → length p.name ≡ 10
        → soup_reply p body room ≡ sent (line 65 ((p.name ++ written p.number) ++ body)) room
    unfolding soup_reply read
    accept-with-body k a =
        let fields = p.name ++ written p.number in
        let l : length fields ≡ 30 = simp (length-append, a, length-written) (omega arith) in
        rw k (beyond-line _ (line 65 (fields ++ body)) room 32 body _ _ (size 65 30 fields l) h)

    pub reject-with-body : p.kind ≡ 74 → soup_reply p body room ≡ sent (line 74 (p.reason ∷ body)) room
    unfolding soup_reply read
    reject-with-body k = rw k (beyond-line _ (line 74 (p.reason ∷ body)) room 3 body _ _ (size 74 1 (p.reason ∷ []) (omega arith)) h)

    pub login-with-body : p.kind ≡ 76 → length p.user ≡ 6 → length p.password ≡ 10 → length p.name ≡ 10
        → soup_reply p body room ≡ sent (line 76 ((p.user ++ p.password ++ p.name ++ written p.number) ++ body)) room
    unfolding soup_reply read
    login-with-body k a b c =
        let fields = p.user ++ p.password ++ p.name ++ written p.number in
        let l : length fields ≡ 46 = simp (length-append, a, b, c, length-written) (omega arith) in
        rw k (beyond-line _ (line 76 (fields ++ body)) room 48 body _ _ (size 76 46 fields l) h)

    -- H Z R O
    pub bare-with-body : (p.kind ≡ 72) ⊎ ((p.kind ≡ 90) ⊎ ((p.kind ≡ 82) ⊎ (p.kind ≡ 79)))
        → soup_reply p body room ≡ sent (line p.kind body) room
    unfolding soup_reply soup_bare read
    bare-with-body (inl k) = rw k (beyond-line _ (line 72 body) room 2 body _ _ (size 72 0 [] (omega arith)) h)
    bare-with-body (inr (inl k)) = rw k (beyond-line _ (line 90 body) room 2 body _ _ (size 90 0 [] (omega arith)) h)
    bare-with-body (inr (inr (inl k))) = rw k (beyond-line _ (line 82 body) room 2 body _ _ (size 82 0 [] (omega arith)) h)
    bare-with-body (inr (inr (inr k))) = rw k (beyond-line _ (line 79 body) room 2 body _ _ (size 79 0 [] (omega arith)) h)
