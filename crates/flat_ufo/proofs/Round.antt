-- UFO, server to client, and its round: what was read is written with the same bytes, and what was written is read with the same fields.
-- Assumes nothing.
use Rattle.std.specs.Prelude.{if◌then◌else◌}
use Prim.Native.Nat.{ℕ, ◌+◌, ◌-◌, ◌^◌}
use mathlib.Core.Path.{◌≡◌, refl, sym, ◌∙◌}
use mathlib.Core.List.{List}
use native.Mathlib.Omega.{arith}
use borrow.Author.Tests.{leb-true}
use lib.ListN.{length, get_or, take, drop}
use Rattle.wire.specs.Fields.{bytes_of, Bytes}
use Rattle.wire.specs.Checks.{◌is◌, taken, Check, checked, Passed, ◌told_by◌}
use Rattle.wire.specs.Reply.{Reply, within}
use Rattle.wire.specs.declared.refusal.Refusal.TheVariants.{UnknownType}
use Rattle.wire.proofs.Checks.{passed-all}
use Rattle.blocks.specs.Blocks.{frames}
use Rattle.blocks.proofs.Counting.{count_cut}
use Rattle.ufo.specs.Down as ufo
use Rattle.ufo.specs.Down.{laid, write, Fit, down_of, read}
use Rattle.ufo.proofs.DownLaid.{of_accept, of_reject, of_messages, of_end, length-laid, laid-accept, laid-reject, laid-messages, laid_end}
use Rattle.ufo.proofs.Exact.{read-is-written}
use Rattle.ufo_write.specs.WriteDown.{accept_reply, reject_reply, messages_reply, end_reply}
use Rattle.ufo_write.proofs.DownReplies.{accept-reply, reject-reply, messages-reply, end-reply}
use Rattle.ufo_write.proofs.DownLawful.{reply_to, lawful-reply}
use Rattle.flat_packet.specs.declared.Packet.{Packet}
use Rattle.flat_packet.specs.declared.Read.{Read}
use Rattle.flat_packet.specs.Packets.{named, rejected, numbered}
use Rattle.flat_packet.specs.Fitting.{alone}
use Rattle.flat_packet.proofs.Round.{body_of, body-behind, blocks, counted-blocks, Flat, padded-right-text, same_name, Round, rounds}
use Rattle.flat_packet.proofs.Round.{unfit-not-given, given-no-body, given-by-kind, given}
use Rattle.flat_ufo.specs.Reading.{flat_down, down_read}
use Rattle.flat_ufo.specs.Writing.{down_reply}

-- ---- what was read

blocks-laid : (first count : ℕ) (body : List ℕ) → drop 7 (laid first count body) ≡ body
unfolding bytes_of
blocks-laid first count body = refl

-- a lawful packet laid flat, with its body, has its type byte and is written as that packet
flat-again : (q : ufo.Packet) → Fit q → let p = (flat_down (length (write q)) (taken (down_of q))).packet in (p.kind ≡ get_or (write q) 0 0)
    × ((room : ℕ) → down_reply p (body_of p (write q)) room ≡ reply_to q room)
unfolding down_reply
flat-again (ufo.accept session next) f = (refl, λ room. rw (same_name session (padded-right-text 10 session (f.ten, f.letters))))
flat-again (ufo.reject reason) f = (refl, λ room. refl)
flat-again (ufo.messages first ms) f =
    let s = frames ms in
    let d = laid first (length ms) s in
    let body : take (length d - 7) (drop 7 d) ≡ s = body-behind 7 d s (length-laid first (length ms) s) (blocks-laid first (length ms) s) in
    (refl, λ room. rw body)
flat-again (ufo.end total) f = (refl, λ room. refl)

module _ (d : List ℕ) (b : Bytes d) where
  round : (down_read d).refusal ≡ 0 → Round down_reply d (down_read d).packet
  round =
      rounds Fit write (λ size v. flat_down size (v told_by down_of)) down_reply
      (λ q f. let a = flat-again q f in (a.0, λ room. a.1 room ∙ lawful-reply q room f))
      d (read d) (read-is-written d b) (λ why. refl)

  -- What was read, written with its body, is the same bytes.
  pub read-then-written : (room : ℕ) → (down_read d).refusal ≡ 0
      → let p = (down_read d).packet in down_reply p (body_of p d) room ≡ within room d
  read-then-written room e = (round e).1 room

  -- The flat kind of a packet is its type byte.
  pub kind-is-the-type-byte : (down_read d).refusal ≡ 0 → (down_read d).packet.kind ≡ get_or d 0 0
  kind-is-the-type-byte e = (round e).0

-- ---- what was written

-- the fields of a type, and where its body stands
abbrev kept_as : ℕ → Packet → List ℕ → Read
kept_as kind p body =
    if kind is 65 then named p.name p.number else
    if kind is 74 then rejected p.reason else
    if kind is 83 then blocks 83 0 p.number p.count 7 body else
    numbered kind 0 p.number

abbrev pub kept : Packet → List ℕ → Read
kept p body = kept_as p.kind p body

module _ (p : Packet) (f : Flat p) (body : List ℕ) (room : ℕ) (d : List ℕ) where
  abbrev As : ℕ → Type 0
  As kind = down_read d ≡ kept_as kind p body

  -- a type without a body
  alone-as : (q : ufo.Packet) (cs : List Check) (size : ℕ) (reply : Reply) → reply ≡ checked cs (within room (write q))
      → (Passed cs → read (write q) ≡ checked cs (taken q)) → alone 1472 size body reply ≡ taken d
      → down_read d ≡ flat_down (length d) (taken (down_of q))
  alone-as q cs size reply says decide e =
      rw (given read cs q (write q) room d (λ c. decide c ∙ passed-all cs (taken q) c)
      (sym says ∙ (given-no-body 1472 size body reply d e).1)).back

  accept-as : alone 1472 15 body (accept_reply p.name p.number room) ≡ taken d → down_read d ≡ named p.name p.number
  accept-as e =
      let n = p.number in
      let l = f.name.0 in
      alone-as (ufo.accept p.name n) (of_accept p.name n) 15 (accept_reply p.name n room) (accept-reply p.name n room l)
      (λ c. laid-accept p.name n l (omega (arith, leb-true n (2 ^ 32 - 1) c.1.1.1.0))) e
      ∙ rw (same_name p.name f.name)

  end-as : alone 1472 5 body (end_reply p.number room) ≡ taken d → down_read d ≡ numbered 69 0 p.number
  end-as =
      let n = p.number in
      alone-as (ufo.end n) (of_end n) 5 (end_reply n room) (end-reply n room)
      (λ c. laid_end n (omega (arith, leb-true n (2 ^ 32 - 2) c.0)))

  messages-as : messages_reply p.number p.count body room ≡ taken d → down_read d ≡ blocks 83 0 p.number p.count 7 body
  messages-as e =
      let n = p.number in
      let c = p.count in
      let g = given read (of_messages n c body) _ (laid n c body) room d
      (λ h. laid-messages n c body (omega (arith, leb-true (n + c) (2 ^ 32 - 1) h.1.1.1.0)) f.count
      ∙ passed-all (of_messages n c body) _ h) (sym (messages-reply n c body room f.count) ∙ e) in
      rw (g.back, ← g.same, length-laid n c body, count_cut c body g.passed.1.0) (counted-blocks 83 0 n c 7 body)

  -- What was written is read with the same fields, and nothing else.
  pub written-then-read : down_reply p body room ≡ taken d → down_read d ≡ kept p body
  unfolding down_reply
  written-then-read =
      let reason = p.reason in
      given-by-kind As p.kind 65 _ _ d accept-as
      (given-by-kind As p.kind 74 _ _ d
      (alone-as (ufo.reject reason) (of_reject reason) 2 (reject_reply reason room) (reject-reply reason room) (λ _. laid-reject reason))
      (given-by-kind As p.kind 83 _ _ d messages-as
      (given-by-kind As p.kind 69 _ _ d end-as
      (unfit-not-given 1472 (1 + length body) UnknownType d))))
