-- UFO, client to server, and its round: a message that was read is written as the same block, and one that was written is read with the
-- same fields.
-- Assumes nothing.
use Rattle.std.specs.Prelude.{if◌then◌else◌}
use Prim.Native.Nat.{ℕ, ◌+◌, ◌-◌}
use mathlib.Core.Path.{◌≡◌, refl, ap, sym, ◌∙◌}
use mathlib.Core.List.{List, [], ◌∷◌, ◌++◌}
use native.Mathlib.Omega.{arith}
use borrow.Author.Tests.{eqb-true, leb-true, not-true}
use lib.ListN.{length, get_or, take, drop, length-append}
use lib.Seq.{take_at, drop_at, drop-drop, get_or-drop}
use Rattle.wire.specs.Fields.{bytes_of, Bytes}
use Rattle.wire.specs.Checks.{◌is◌, ◌at_most◌, ◌else◌, Check, checked, Passed, Verdict, refused, taken, ◌told_by◌}
use Rattle.wire.specs.Reply.{within}
use Rattle.wire.specs.declared.refusal.Refusal.TheVariants.{Overlong, UnknownType, Framing, Bound}
use Rattle.text.specs.Text.{blank}
use Rattle.wire.proofs.Tests.{nonzero}
use Rattle.wire.proofs.Checks.{not-both, taken-same, chosen, went}
use Rattle.wire.proofs.Width.{be-bytes_of, length-bytes_of}
use Rattle.blocks.specs.Blocks.{frame, frames, stated, end_at}
use Rattle.blocks.proofs.Frames.{length-frame, front-stated}
use Rattle.ufo.specs.Numbers.{highest, held}
use Rattle.ufo_up.specs.Up as up
use Rattle.ufo_up.specs.Up.{Message, write_message, write_up, FitMessage, FitAll}
use Rattle.ufo_up.specs.Up.{read_up, placed_of, message_from, message_in}
use Rattle.ufo_up.proofs.UpExactOne.{length-message, left_l, left_t}
use Rattle.ufo_up.proofs.Exact.{read-is-written, read_one}
use Rattle.ufo_up_write.specs.WriteUp.{reply}
use Rattle.ufo_up_write.proofs.UpReplies.{reply-login, reply-request, reply-unsequenced, reply-fit}
use Rattle.flat_packet.specs.declared.Packet.{Packet}
use Rattle.flat_packet.specs.declared.Read.{Read}
use Rattle.flat_packet.specs.Packets.{bare, payload, logged_in, requested}
use Rattle.flat_packet.specs.Fitting.{alone}
use Rattle.flat_packet.proofs.Round.{body_of, Flat, padded-right-text, same_name, same-user, told-as-0, unfit-not-given, given-no-body}
use Rattle.flat_packet.proofs.Round.{given-by-kind, given}
use Rattle.flat_ufo_up.specs.Reading.{flat_upstream, up_read, flat_up, message_read}
use Rattle.flat_ufo_up.specs.Writing.{message_reply}

-- ---- what was read

-- a message whose block stands at a place of s, counted from `at` on
record Found (s : List ℕ) (at place : ℕ) (m : Message) : Type 0 where
  skipped : ℕ
  there : at + skipped ≡ place
  after : List ℕ
  block : drop skipped s ≡ frame (write_message m) ++ after
  fit : FitMessage m

found_from : (ms : List Message) (at place : ℕ) (m : Message) → FitAll ms → message_from at ms place ≡ taken m
    → Found (write_up ms) at place m
unfolding message_from frames
found_from [] at place m f e = not-both (refused Framing) Framing m refl e
found_from (x ∷ ms) at place m f e =
    let w = write_message x in
    let next = at + 2 + length w in
    chosen (at is place) (taken x) (message_from next ms place) (taken m)
    (λ t q.
    let same = taken-same x m q in
    let h = eqb-true at place t in
    record { skipped = 0; there = omega arith; after = write_up ms; block = rw same; fit = rw same at f.0 })
    (λ _ q.
    let r = found_from ms next place m f.1 q in
    let gone : drop (2 + length w) (frame w ++ write_up ms) ≡ write_up ms = drop_at (frame w) (write_up ms) (2 + length w)
    (length-frame w) in
    record {
      skipped = 2 + length w + r.skipped;
      there = omega (arith, r.there);
      after = r.after;
      block = rw (← drop-drop r.skipped (2 + length w) (frame w ++ write_up ms), gone) r.block;
      fit = r.fit;
    }) e

found : (d : List ℕ) → Bytes d → (place : ℕ) (m : Message) → message_in d place ≡ taken m → Found d 0 place m
found d b place m e =
    let w = went (read_up d) (λ ms. message_from 0 ms place) m e in
    let l = read-is-written d b w.by w.was in
    rw l.1 at (found_from w.by 0 place m l.0.all w.gave)

-- a message whose block stands at a place
module _ (d : List ℕ) (place : ℕ) (m : Message) (after : List ℕ) (s : drop place d ≡ frame (write_message m) ++ after) where
  type-byte : get_or d (place + 2) 0 ≡ get_or (write_message m ++ after) 0 0
  unfolding bytes_of
  type-byte = sym (get_or-drop place d 2 0) ∙ rw s

  size : FitMessage m → stated (drop place d) ≡ length (write_message m)
  size f = rw s (front-stated (write_message m) after (omega (arith, length-message m f)))

  whole-block : FitMessage m → take (2 + stated (drop place d)) (drop place d) ≡ frame (write_message m)
  whole-block f =
      let w = write_message m in
      rw (size f, s) (take_at (frame w) after (2 + length w) (length-frame w))

-- and its body, if it has one
body-stands : (d : List ℕ) (place : ℕ) (b after : List ℕ) → FitMessage (up.unsequenced b) → drop place d ≡ frame (85 ∷ b) ++ after
    → take (length b) (drop (end_at d place - length b) d) ≡ b
unfolding bytes_of
body-stands d place b after f s =
    let start : end_at d place - length b ≡ place + 3 = omega (arith, size d place (up.unsequenced b) after s f) in
    rw (start, ← drop-drop 3 place d, s) (take_at b after (length b) refl)

-- laid flat, with its body, it has its type byte and is written as that message
flat-again : (d : List ℕ) (place : ℕ) (m : Message) (after : List ℕ) → FitMessage m → drop place d ≡ frame (write_message m) ++ after
    → let p = (flat_up (taken (placed_of (end_at d place) m))).packet in (p.kind ≡ get_or (write_message m ++ after) 0 0)
    × ((room : ℕ) → message_reply p (body_of p d) room ≡ reply m room)
unfolding message_reply
flat-again d place (up.login user password session) after f s = (
  refl,
  λ room. rw (
    same-user user (padded-right-text 6 user f.0),
    same_name password (padded-right-text 10 password f.1),
    same_name session (padded-right-text 10 session f.2),
  ),
)
flat-again d place (up.request first count) after f s = (refl, λ room. refl)
flat-again d place (up.unsequenced b) after f s = (refl, λ room. rw (body-stands d place b after f s))
flat-again d place up.heartbeat after f s = (refl, λ room. refl)
flat-again d place up.logout after f s = (refl, λ room. refl)

module _ (d : List ℕ) (b : Bytes d) (place : ℕ) where
  abbrev RoundAt : Packet → Type 0
  RoundAt p = (p.kind ≡ get_or d (place + 2) 0)
      × ((room : ℕ) → message_reply p (body_of p d) room ≡ within room (take (2 + stated (drop place d)) (drop place d)))

  round : (message_read d place).refusal ≡ 0 → RoundAt (message_read d place).packet
  round =
      told-as-0 (λ v. flat_up (v told_by placed_of (end_at d place))) (λ r. RoundAt r.packet) (λ why. refl) (message_in d place)
      (λ m e.
      let r = found d b place m e in
      let same : r.skipped ≡ place = omega (arith, r.there) in
      let s : drop place d ≡ frame (write_message m) ++ r.after = rw same at r.block in
      let a = flat-again d place m r.after r.fit s in
      let block = whole-block d place m r.after s r.fit in
      (a.0 ∙ sym (type-byte d place m r.after s), λ room. a.1 room ∙ rw block (reply-fit m room r.fit)))

  -- What was read of a message, written with its body, is its block.
  pub read-then-written : (room : ℕ) → (message_read d place).refusal ≡ 0 → let p = (message_read d place).packet in
      message_reply p (body_of p d) room ≡ within room (take (2 + stated (drop place d)) (drop place d))
  read-then-written room e = (round e).1 room

  -- The flat kind of a message is its type byte.
  pub kind-is-the-type-byte : (message_read d place).refusal ≡ 0 → (message_read d place).packet.kind ≡ get_or d (place + 2) 0
  kind-is-the-type-byte e = (round e).0

-- A whole upstream packet has none: its kind is 0.
pub upstream-has-no-kind : (d : List ℕ) → (up_read d).packet.kind ≡ 0
upstream-has-no-kind d = by (read_up d) where
  by : (v : Verdict (List Message)) → (flat_upstream (v told_by length)).packet.kind ≡ 0
  by (refused why) = refl
  by (taken ms) = refl

-- ---- what was written

-- the fields of a type, where its body stands and where its block ends
abbrev kept_as : ℕ → Packet → List ℕ → Read
kept_as kind p body =
    if kind is 76 then logged_in p.user p.password p.name 0 29 else
    if kind is 84 then requested 84 p.number p.count 9 else
    if kind is 85 then payload 85 3 (length body) (3 + length body) else
    bare kind 3

abbrev pub kept : Packet → List ℕ → Read
kept p body = kept_as p.kind p body

module _ (p : Packet) (f : Flat p) (body : List ℕ) (b : Bytes body) (room : ℕ) (d : List ℕ) where
  abbrev As : ℕ → Type 0
  As kind = message_read d 0 ≡ kept_as kind p body

  -- a message of so many bytes
  message-as : (m : Message) (size : ℕ) (cs : List Check) → (Passed cs → FitMessage m) → length (write_message m) ≡ size
      → checked cs (within room (frame (write_message m))) ≡ taken d → message_read d 0 ≡ flat_up (taken (placed_of (2 + size) m))
  unfolding message_from
  message-as m size cs fit l e =
      let w = write_message m in
      let g = given read_up cs (m ∷ []) (frame w) room d (λ c. read_one m (fit c)) e in
      let says : stated (frame w) ≡ size = be-bytes_of 2 (length w) w (omega (arith, length-message m (fit g.passed))) ∙ l in
      let end : end_at d 0 ≡ 2 + size = rw (← g.same, says) in
      rw g.back (ap (λ (next : ℕ). flat_up (taken (placed_of next m))) end)

  -- and without a body
  alone-as : (m : Message) (size : ℕ) (cs : List Check) → (Passed cs → FitMessage m) → length (write_message m) ≡ size
      → reply m room ≡ checked cs (within room (frame (write_message m))) → alone 1472 (2 + size) body (reply m room) ≡ taken d
      → message_read d 0 ≡ flat_up (taken (placed_of (2 + size) m))
  alone-as m size cs fit l says e = message-as m size cs fit l (sym says ∙ (given-no-body 1472 (2 + size) body (reply m room) d e).1)

  login-as : alone 1472 29 body (reply (up.login p.user p.password p.name) room) ≡ taken d
      → message_read d 0 ≡ logged_in p.user p.password p.name 0 29
  login-as e =
      let u = p.user in
      let w = p.password in
      let s = p.name in
      let hu = f.user.0 in
      let hw = f.password.0 in
      let hs = f.name.0 in
      alone-as (up.login u w s) 27 (left_l u w s) (λ c. ((hu, c.0), (hw, c.1.0), (hs, c.1.1.0), not-true (blank u) c.1.1.1.0))
      (simp (length-append, hu, hw, hs)) (reply-login u w s room hu hw hs) e
      ∙ rw (same-user u f.user, same_name w f.password, same_name s f.name)

  request-as : alone 1472 9 body (reply (up.request p.number p.count) room) ≡ taken d
      → message_read d 0 ≡ requested 84 p.number p.count 9
  request-as =
      let n = p.number in
      let c = p.count in
      alone-as (up.request n c) 7 (left_t n c ++ (held n else Bound) ∷ [])
      (λ h. (nonzero n h.0, omega (arith, leb-true n highest h.1.1.0), nonzero c h.1.0, f.count))
      (simp (length-append, length-bytes_of)) (reply-request n c room f.count)

  unsequenced-as : reply (up.unsequenced body) room ≡ taken d → message_read d 0 ≡ payload 85 3 (length body) (3 + length body)
  unsequenced-as e =
      let start : 2 + (1 + length body) - length body ≡ 3 = omega arith in
      let next : 2 + (1 + length body) ≡ 3 + length body = omega arith in
      message-as (up.unsequenced body) (1 + length body) ((length body at_most 1469 else Overlong) ∷ [])
      (λ c. (b, leb-true (length body) 1469 c.0)) (omega arith) (sym (reply-unsequenced body room) ∙ e)
      ∙ rw (start, next)

  -- What was written is read with the same fields, and nothing else: at place 0, where its block stands.
  pub written-then-read : message_reply p body room ≡ taken d → message_read d 0 ≡ kept p body
  unfolding message_reply
  written-then-read =
      given-by-kind As p.kind 76 _ _ d login-as
      (given-by-kind As p.kind 84 _ _ d request-as
      (given-by-kind As p.kind 85 _ _ d unsequenced-as
      (given-by-kind As p.kind 82 _ _ d (alone-as up.heartbeat 1 [] (λ _. tt) refl (reply-fit up.heartbeat room tt))
      (given-by-kind As p.kind 79 _ _ d (alone-as up.logout 1 [] (λ _. tt) refl (reply-fit up.logout room tt))
      (unfit-not-given 1472 (3 + length body) UnknownType d)))))
