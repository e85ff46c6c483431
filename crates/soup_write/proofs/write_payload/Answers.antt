-- `write_payload` asks what the reader would of a line with this payload, length before linefeeds; what it stores is that line.
use Prim.Native.Nat.{◌+◌}
use mathlib.Core.Path.{◌≡◌, ◌∙◌}
use native.Mathlib.Omega.{arith}
use lib.ListN.{length, length-set}
use lib.Seq.{take-length}
use borrow.Author.Tests.{not-true, not-false}
use Rattle.wire.specs.Reply.{within}
use Rattle.wire.specs.declared.refusal.Refusal.TheVariants.{Overlong, Linefeed}
use Rattle.wire.proofs.Settling.{refuses, lacks-room, has_room}
use Rattle.soup.specs.Packet.{line}
use Rattle.soup_write.specs.Writing.{sent}
use Rattle.soup.proofs.Lines.{length-line}
use Rattle.soup_write.proofs.Laying.{stored-line}
use Rattle.soup_write.proofs.Sending.{too_long, payload-decides}
use Rattle.soup_write.proofs.write_payload.Goals.{After-copy, Else-not-is_unbroken}
use Rattle.soup_write.proofs.write_payload.Goals as goal

pub returns-then-length-gt-LONGEST_PAYLOAD : goal.returns-then-length-gt-LONGEST_PAYLOAD
returns-then-length-gt-LONGEST_PAYLOAD c =
    let a = c.args in
    refuses _ a.out.now Overlong (too_long a.kind a.payload.now (length a.out.now) c.if-length-gt-LONGEST_PAYLOAD.true)

pub returns-then-not-is_unbroken : goal.returns-then-not-is_unbroken
returns-then-not-is_unbroken c =
    let a = c.args in
    refuses _ a.out.now Linefeed (payload-decides a.kind a.payload.now (length a.out.now) c.requires c.if-length-gt-LONGEST_PAYLOAD.false
    ∙ rw (← c.is_unbroken.ensures, not-true c.is_unbroken.result c.if-not-is_unbroken.true-raw))

-- the payload is lawful
room-decides : (c : Else-not-is_unbroken) → let a = c.args in
    let packet = line a.kind a.payload.now in
    sent packet (length a.out.now) ≡ within (length a.out.now) packet
room-decides c =
    let a = c.args in
    payload-decides a.kind a.payload.now (length a.out.now) c.requires c.if-length-gt-LONGEST_PAYLOAD.false
    ∙ rw (← c.is_unbroken.ensures, not-false c.is_unbroken.result c.if-not-is_unbroken.false-raw)

pub returns-then-out-length : goal.returns-then-out-length
returns-then-out-length c =
    let a = c.args in
    let l = length-line a.kind a.payload.now in
    lacks-room _ (line a.kind a.payload.now) a.out.now (room-decides (goal.at.returns-then-out-length c).Else-not-is_unbroken)
    (omega (arith, c.if-out-length.true))

pub copy-requires : goal.copy-requires
copy-requires c = simp length-set (omega arith)

-- the output keeps its length
kept : (c : After-copy) → length c.copy.new.out ≡ length c.args.out.now
kept c =
    let a = c.args in
    c.copy.auto.out ∙ length-set a.out.now 0 a.kind

pub bounds-out-length : goal.bounds-out-length
bounds-out-length c = omega (arith, kept (goal.at.bounds-out-length c).After-copy)

pub shape_of-out : goal.shape_of-out
shape_of-out c = simp length-set (kept (goal.at.shape_of-out c).After-copy)

pub returns : goal.returns
returns c =
    let a = c.args in
    let s = a.payload.now in
    let l = length-line a.kind s in
    has_room _ (line a.kind s) a.out.now (room-decides (goal.at.returns c).Else-not-is_unbroken) _ (length s + 2) (omega arith)
    (omega (arith, c.if-out-length.false))
    (rw (c.copy.ensures, take-length s) (stored-line a.out.now s a.kind))
