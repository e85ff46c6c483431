-- A header's extra bytes, written from flat fields: over 237 of them are 5, after 2 and 3 and before all else; up to 237 refuse nothing.
-- Assumes nothing.
use Rattle.std.specs.Prelude.{if◌then◌else◌}
use Prim.Native.Nat.{ℕ, ◌≤◌, ◌<◌}
use mathlib.Core.Path.{◌≡◌, ◌∙◌}
use mathlib.Core.List.{List, [], ◌∷◌, ◌++◌}
use borrow.Author.Tests.{eqb-true}
use lib.ListN.{length}
use Rattle.wire.specs.Fields.{bytes_of}
use Rattle.wire.specs.Checks.{◌is◌, ◌at_most◌, refused, ◌else◌, checked}
use Rattle.wire.specs.Reply.{settle}
use Rattle.wire.specs.declared.refusal.Refusal.TheVariants.{Overlong, UnknownType, Form}
use Rattle.wire.proofs.Tests.{by-test}
use Rattle.memx.specs.Packet.{limit, headed}
use Rattle.memx.specs.Read.{read}
use Rattle.memx_write.specs.Writing.{sent}
use Rattle.memx_write.proofs.Extra as writing
use Rattle.flat_packet.specs.declared.Packet.{Packet}
use Rattle.flat_memx.specs.Writing.{memx_reply}

module _ (p : Packet) (body : List ℕ) where
  -- what follows the header, and the packet that would be written with some extra bytes
  abbrev follows : List ℕ
  follows = if p.kind is 2 then bytes_of 2 p.count ++ body else body

  abbrev pub packet_with : List ℕ → List ℕ
  packet_with extra = headed p.kind p.session p.number extra follows

  module _ (extra : List ℕ) (room : ℕ) where
    is-sent : memx_reply p extra body room ≡ sent (packet_with extra) room
    unfolding memx_reply
    is-sent = by-test (p.kind is 2) (λ e. rw (e, eqb-true p.kind 2 e)) (λ e. rw e)

    pub over-237-is-5 : 237 < length extra
        → memx_reply p extra body room
        ≡ checked ((length (packet_with extra) at_most limit else Overlong) ∷ (p.kind at_most 2 else UnknownType) ∷ []) (refused Form)
    over-237-is-5 h = is-sent ∙ writing.over-237-is-5 p.kind p.session p.number extra follows room h

    -- the number is that of the packet without them, and 9 is for want of room for it with them
    pub up-to-237-refuses-nothing : length extra ≤ 237 → length (packet_with extra) ≤ limit
        → memx_reply p extra body room ≡ settle (read (packet_with [])) (packet_with extra) room
    up-to-237-refuses-nothing h l = is-sent ∙ writing.up-to-237-refuses-nothing p.kind p.session p.number extra follows room h l
