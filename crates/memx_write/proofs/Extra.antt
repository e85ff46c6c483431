-- A header's extra bytes, in writing: over 237 of them are 5, in every type and whatever else is wrong, but for 2 and 3; up to 237 they
-- refuse nothing, for the number is then that of the packet without them.
-- Assumes nothing.
use Rattle.std.specs.Prelude.{if◌then◌else◌}
use Prim.Native.Nat.{ℕ, ◌+◌, ◌≤◌, ◌<◌}
use mathlib.Core.Path.{◌≡◌, refl, ap, sym, ◌∙◌}
use mathlib.Core.List.{List, [], ◌∷◌}
use native.Mathlib.Omega.{arith}
use borrow.Author.Tests.{le-leb, lt-leb}
use lib.ListN.{length}
use Rattle.wire.specs.Fields.{be, bytes_of}
use Rattle.wire.specs.Checks.{◌is◌, ◌at_most◌, refused, taken, Check, ◌else◌, checked}
use Rattle.wire.specs.Reply.{within, settle}
use Rattle.wire.specs.declared.refusal.Refusal.TheVariants.{Overlong, UnknownType, Form}
use Rattle.wire.proofs.Settling.{settle-checked}
use Rattle.wire.proofs.Tests.{by-test, leb-same}
use Rattle.memx.specs.Packet.{Packet, heartbeat, shutdown, messages, extra_of, plain, limit, header_size, headed, write}
use Rattle.memx.specs.Read.{number_in, blocks_at, news_checks, messages_checks, read_news, read_messages, read}
use Rattle.memx.proofs.Header.{length-headed, header-headed, follows-headed, behind-headed}
use Rattle.memx.proofs.Verdicts.{same_size, headed-verdict}
use Rattle.memx_write.specs.Writing.{sent, reply}

-- the same checks settle alike, whatever would be taken
settle-same : (cs ds : List Check) (p q : Packet) (packet : List ℕ) (room : ℕ) → cs ≡ ds
    → settle (checked cs (taken p)) packet room ≡ settle (checked ds (taken q)) packet room
settle-same cs ds p q packet room e =
    settle-checked cs (taken p) packet room
    ∙ ap (λ (c : List Check). checked c (within room packet)) e
    ∙ sym (settle-checked ds (taken q) packet room)

-- any header, and whatever follows it
module _ (kind session number : ℕ) (extra follows : List ℕ) where
  abbrev packet : List ℕ
  packet = headed kind session number extra follows

  -- 2, then 3, and then 5, whatever else is wrong
  pub over-237-is-5 : (room : ℕ) → 237 < length extra
      → sent packet room ≡ checked ((length packet at_most limit else Overlong) ∷ (kind at_most 2 else UnknownType) ∷ []) (refused Form)
  over-237-is-5 room h =
      rw (headed-verdict, length-headed, lt-leb (header_size + length extra) 255 (omega arith))
      (settle-checked {A = Packet}
      ((header_size + length extra + length follows at_most limit else Overlong) ∷ (kind at_most 2 else UnknownType) ∷ [])
      (refused Form) packet room)

  -- the same without the extra bytes: what is checked behind the header does not look at them
  abbrev bare : List ℕ
  bare = headed kind session number [] follows

  same_number : number_in packet ≡ number_in bare
  unfolding headed bytes_of be
  same_number = refl

  same-news : news_checks packet ≡ news_checks bare
  same-news =
      rw (same_number, length-headed, header-headed, same_size (header_size + length extra) (length follows))
      (rw (length-headed, header-headed, same_size header_size (length follows)))

  same-messages : messages_checks packet ≡ messages_checks bare
  same-messages =
      let l = length-headed kind session number extra follows in
      let m = length-headed kind session number [] follows in
      let h = header-headed kind session number extra follows in
      let k = header-headed kind session number [] follows in
      let there = leb-same (blocks_at packet) (length packet) (blocks_at bare) (length bare) (λ e. omega arith) (λ e. omega arith) in
      rw (
        there,
        same_number,
        behind-headed,
        follows-headed,
        behind-headed kind session number [] follows 2,
        follows-headed kind session number [] follows,
      )

  same_rest : (room : ℕ)
      → settle (if kind is 2 then read_messages packet else read_news kind packet) packet room
      ≡ settle (if kind is 2 then read_messages bare else read_news kind bare) packet room
  unfolding read_messages read_news
  same_rest room =
      by-test (kind is 2)
      (λ e. rw e (settle-same (messages_checks packet) (messages_checks bare) _ _ packet room same-messages))
      (λ e. rw e (settle-same (news_checks packet) (news_checks bare) _ _ packet room same-news))

  -- the number is that of the packet without them, and 9 is for want of room for it with them
  pub up-to-237-refuses-nothing : (room : ℕ) → length extra ≤ 237 → length packet ≤ limit
      → sent packet room ≡ settle (read bare) packet room
  up-to-237-refuses-nothing room h l =
      let n = length-headed kind session number extra follows in
      rw (
        headed-verdict kind session number extra follows,
        headed-verdict kind session number [] follows,
        le-leb (header_size + length extra + length follows) limit (omega arith),
        le-leb (header_size + length follows) limit (omega arith),
        le-leb (header_size + length extra) 255 (omega arith),
      )
      (by-test (kind at_most 2) (λ e. rw e (same_rest room)) (λ e. rw e))

-- ---- every type

pub packet-over-237-is-5 : (p : Packet) (room : ℕ) → 237 < length (extra_of p)
    → reply p room ≡ (if length (write p) at_most limit then refused Form else refused Overlong)
unfolding write
packet-over-237-is-5 (heartbeat session highest extra) = over-237-is-5 0 session highest extra _
packet-over-237-is-5 (shutdown session highest extra) = over-237-is-5 1 session highest extra _
packet-over-237-is-5 (messages session first extra ms) = over-237-is-5 2 session first extra _

pub packet-up-to-237-refuses-nothing : (p : Packet) (room : ℕ) → length (extra_of p) ≤ 237 → length (write p) ≤ limit
    → reply p room ≡ settle (read (write (plain p))) (write p) room
unfolding write
packet-up-to-237-refuses-nothing (heartbeat session highest extra) = up-to-237-refuses-nothing 0 session highest extra _
packet-up-to-237-refuses-nothing (shutdown session highest extra) = up-to-237-refuses-nothing 1 session highest extra _
packet-up-to-237-refuses-nothing (messages session first extra ms) = up-to-237-refuses-nothing 2 session first extra _
