-- MEMX-UDP's round: what was read is written with the same bytes, and what was written is read with the same fields.
-- Assumes nothing.
use Rattle.std.specs.Prelude.{if◌then◌else◌}
use Prim.Native.Nat.{ℕ, ◌+◌, ◌-◌, ◌≤◌}
use mathlib.Core.Path.{◌≡◌, refl, ◌∙◌}
use mathlib.Core.Bool.{false}
use mathlib.Core.List.{List, [], ◌++◌}
use native.Mathlib.Omega.{arith}
use borrow.Author.Tests.{leb-true, eqb-true, eqb-false}
use lib.ListN.{length, get_or, take, drop}
use Rattle.wire.specs.Fields.{Bytes}
use Rattle.wire.specs.Checks.{◌is◌, Verdict, refused, taken, ◌told_by◌}
use Rattle.wire.specs.Reply.{within, settle}
use Rattle.wire.proofs.Checks.{chosen, not-both}
use Rattle.wire.proofs.Settling.{within-taken}
use Rattle.blocks.specs.Blocks.{frames}
use Rattle.blocks.proofs.Counting.{count_cut}
use Rattle.memx.specs.Packet as memx
use Rattle.memx.specs.Packet.{headed, laid, write}
use Rattle.memx.specs.Read.{news, read}
use Rattle.memx.specs.Reading.{memx_of}
use Rattle.memx.proofs.Header.{extra-stands, length-laid, blocks-laid}
use Rattle.memx.proofs.Verdicts.{headed_checks, rest_checks, blocks_checks, news-verdict, laid-verdict}
use Rattle.memx.proofs.Exact.{of_two, written-is-read, read-is-written}
use Rattle.memx_write.specs.Writing.{sent, reply}
use Rattle.flat_packet.specs.declared.Packet.{Packet}
use Rattle.flat_packet.specs.declared.Read.{Read}
use Rattle.flat_packet.specs.Packets.{broadcast}
use Rattle.flat_packet.proofs.Round.{body_of, Flat, told-as-0, settled, blocks_behind, broadcast-blocks, body-behind}
use Rattle.flat_memx.specs.Reading.{flat_memx, memx_read}
use Rattle.flat_memx.specs.Writing.{memx_reply}

-- ---- what was read

-- the extra bytes of a packet, by their number
abbrev pub extra_of : Packet → List ℕ → List ℕ
extra_of p d = take p.extra (drop 18 d)

-- the flat fields of a packet: its type byte is their kind, and with its extra bytes and its body they are written as the same bytes
abbrev Again : List ℕ → Packet → Type 0
Again d p = (p.kind ≡ get_or d 0 0) × ((room : ℕ) → memx_reply p (extra_of p d) (body_of p d) room ≡ within room d)

-- so with a lawful packet that was laid flat
flat-again : (q : memx.Packet) → let p = (flat_memx (length (write q)) (taken (memx_of q))).packet in
    (p.kind ≡ get_or (write q) 0 0) × ((room : ℕ) → memx_reply p (extra_of p (write q)) (body_of p (write q)) room ≡ reply q room)
unfolding memx_reply write headed
flat-again (memx.heartbeat session highest extra) = (refl, λ room. rw (extra-stands 0 session highest extra []))
flat-again (memx.shutdown session highest extra) = (refl, λ room. rw (extra-stands 1 session highest extra []))
flat-again (memx.messages session first extra ms) =
    let s = frames ms in
    let d = laid session first (length ms) extra s in
    let n = 20 + length extra in
    let long : length d ≡ n + length s = omega (arith, length-laid session first (length ms) extra s) in
    let place : 18 + length extra + 2 ≡ n = omega arith in
    let body : take (length d - n) (drop n d) ≡ s = body-behind n d s long (rw place at (blocks-laid session first (length ms) extra s)) in
    (refl, λ room. rw (body, extra-stands 2 session first extra _))

module _ (d : List ℕ) (b : Bytes d) where
  round : (memx_read d).refusal ≡ 0 → Again d (memx_read d).packet
  round =
      told-as-0 (λ v. flat_memx (length d) (v told_by memx_of)) (λ r. Again d r.packet) (λ why. refl) (read d)
      (λ q e.
      let f = read-is-written d b q e in
      let a = flat-again q in
      let again : Again (write q) (flat_memx (length (write q)) (taken (memx_of q))).packet =
      (a.0, λ room. a.1 room ∙ rw (written-is-read q f.0)) in
      rw (← f.1) again)

  -- What was read, written with its extra bytes and its body, is the same bytes.
  pub read-then-written : (room : ℕ) → (memx_read d).refusal ≡ 0 → let p = (memx_read d).packet in
      memx_reply p (extra_of p d) (body_of p d) room ≡ within room d
  read-then-written room e = (round e).1 room

  -- The flat kind of a packet is its type byte.
  pub kind-is-the-type-byte : (memx_read d).refusal ≡ 0 → (memx_read d).packet.kind ≡ get_or d 0 0
  kind-is-the-type-byte e = (round e).0

-- ---- what was written

-- the fields of a type, and where its body stands
abbrev kept_as : ℕ → Packet → (extra body : List ℕ) → Read
kept_as kind p extra body =
    if kind is 2 then blocks_behind 2 p.session p.number p.count (length extra) (20 + length extra) body else
    broadcast kind p.session p.number 0 (length extra) 0 0

abbrev pub kept : Packet → (extra body : List ℕ) → Read
kept p extra body = kept_as p.kind p extra body

module _ (p : Packet) (f : Flat p) (extra body : List ℕ) (room : ℕ) (d : List ℕ) where
  abbrev As : ℕ → Type 0
  As kind = memx_read d ≡ kept_as kind p extra body

  -- heartbeat and shutdown are told by their type
  news-told : (kind : ℕ) → kind ≤ 1
      → flat_memx (length d) (taken (memx_of (news kind p.session p.number extra))) ≡ kept_as kind p extra body
  news-told =
      of_two (λ k. flat_memx (length d) (taken (memx_of (news k p.session p.number extra))) ≡ kept_as k p extra body) refl refl

  news-as : (p.kind is 2) ≡ false → sent (headed p.kind p.session p.number extra body) room ≡ taken d → As p.kind
  news-as k e =
      let packet = headed p.kind p.session p.number extra body in
      let decide = news-verdict p.kind p.session p.number extra body f.session f.number k in
      let g = settled read (headed_checks p.kind extra (length body) ++ rest_checks p.number (length body)) _ packet room d decide e in
      let other = eqb-false p.kind 2 k in
      let known = leb-true p.kind 2 g.passed.1.0 in
      rw g.back (news-told p.kind (omega arith))

  messages-as : sent (laid p.session p.number p.count extra body) room ≡ taken d → As 2
  messages-as e =
      let packet = laid p.session p.number p.count extra body in
      let decide = laid-verdict p.session p.number p.count extra body f.session f.number f.count in
      let g = settled read (headed_checks 2 extra (2 + length body) ++ blocks_checks p.number p.count body) _ packet room d decide e in
      let l = length-laid p.session p.number p.count extra body in
      let long : length packet ≡ 20 + length extra + length body = omega arith in
      rw (g.back, ← g.same, long, count_cut p.count body g.passed.1.1.1.0)
      (broadcast-blocks 2 p.session p.number p.count (length extra) (20 + length extra) body)

  -- What was written is read with the same fields, and nothing else.
  pub written-then-read : memx_reply p extra body room ≡ taken d → memx_read d ≡ kept p extra body
  unfolding memx_reply
  written-then-read =
      chosen (p.kind is 2) _ _ (taken d) (λ k e. rw (eqb-true p.kind 2 k) (messages-as e)) news-as

  -- what was written is the packet
  written_is : (packet : List ℕ) → sent packet room ≡ taken d → packet ≡ d
  written_is packet = by (read packet) where
    by : (v : Verdict memx.Packet) → settle v packet room ≡ taken d → packet ≡ d
    by (refused n) e = not-both (refused n) n d refl e
    by (taken q) e = within-taken room packet d e

  -- The extra bytes stand in it as they were given.
  pub extra-comes-back : memx_reply p extra body room ≡ taken d → take (length extra) (drop 18 d) ≡ extra
  unfolding memx_reply
  extra-comes-back =
      chosen (p.kind is 2) _ _ (taken d)
      (λ _ e. rw (← written_is _ e) (extra-stands 2 p.session p.number extra _))
      (λ _ e. rw (← written_is _ e) (extra-stands p.kind p.session p.number extra body))
