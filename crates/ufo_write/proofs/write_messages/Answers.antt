-- Each test that failed refuses, and those before it are passed: what is left to check of the reply is said once the blocks fill exactly
-- (`framed`) and once nothing but the room is left (`fits`); then the fields and the blocks, stored one after the other, are the packet.
use Prim.Native.Nat.{ℕ, ◌+◌, ◌-◌, ◌^◌, ◌≤◌, ◌<◌}
use mathlib.Core.Path.{◌≡◌, refl, sym}
use mathlib.Core.List.{List, [], ◌∷◌}
use mathlib.Core.Bool.{Bool, true, not}
use borrow.Author.Tests.{le-leb, lt-leb, ne_eqb, not-true, not-false}
use lib.ListN.{length}
use lib.Seq.{take-length}
use native.Mathlib.Omega.{arith}
use Rattle.wire.specs.Checks.{◌is◌, ◌at_most◌, ◌else◌, checked}
use Rattle.wire.specs.Reply.{Reply, within}
use Rattle.wire.specs.Datagram.{limit}
use Rattle.wire.specs.declared.refusal.Refusal.TheVariants.{Overlong, Framing, Absent, Bound}
use Rattle.wire.proofs.Settling.{refuses, lacks-room, has_room}
use Rattle.blocks.specs.Blocks.{cut, is_whole}
use Rattle.blocks.proofs.Counting.{fills-says}
use Rattle.ufo.specs.Down.{laid}
use Rattle.ufo_write.specs.WriteDown.{messages_reply}
use Rattle.ufo.proofs.DownLaid.{length-laid, laid-stored}
use Rattle.ufo_write.proofs.DownReplies.{messages-reply}
use Rattle.ufo_write.proofs.write_messages.Goals.{After-exactly, Else-not-exactly}
use Rattle.ufo_write.proofs.write_messages.Goals as goal

module _ (first count : ℕ) (blocks : List ℕ) (room : ℕ) where
  -- the reply
  abbrev replied : Reply
  replied = messages_reply first count blocks room

  -- the blocks fill exactly: the number is left to check
  abbrev Framed : Type 0
  Framed =
      replied ≡ checked ((not (first is 0) else Absent) ∷ (first + count at_most 2 ^ 32 - 1 else Bound) ∷ [])
      (within room (laid first count blocks))

  framed : (filled : Bool) → count < 2 ^ 16 → 7 + length blocks ≤ limit → is_whole (cut count blocks) ≡ filled → filled ≡ true → Framed
  framed filled k short w e = rw (messages-reply, le-leb (7 + length blocks) limit short, w, e)

  -- nothing is refused but for want of room
  fits : Framed → (first ≡ 0 → ⊥) → first + count ≤ 2 ^ 32 - 1 → replied ≡ within room (laid first count blocks)
  fits e some few = rw (e, ne_eqb first 0 some, le-leb (first + count) (2 ^ 32 - 1) few)

-- what the walk over the blocks found
found : (c : After-exactly) → is_whole (cut c.args.count c.args.blocks.now) ≡ c.exactly.result
found c = fills-says c.args.blocks.now 0 c.args.count c.exactly.result (omega arith) c.exactly.ensures

-- they fill
filled : (c : Else-not-exactly) → is_whole (cut c.args.count c.args.blocks.now) ≡ c.exactly.result
    → Framed c.args.first.0 c.args.count c.args.blocks.now (length c.args.out.now)
filled c w =
    let a = c.args in
    framed a.first.0 a.count a.blocks.now (length a.out.now) c.exactly.result (omega arith) (omega (arith, c.if-size-gt-LIMIT.false)) w
    (not-false c.exactly.result c.if-not-exactly.false-raw)

pub returns-then-size-gt-LIMIT : goal.returns-then-size-gt-LIMIT
returns-then-size-gt-LIMIT c =
    let a = c.args in
    let k : a.count < 2 ^ 16 = omega arith in
    rw (messages-reply, lt-leb (7 + length a.blocks.now) limit c.if-size-gt-LIMIT.true) (refuses _ _ Overlong refl)

pub returns-then-not-exactly : goal.returns-then-not-exactly
returns-then-not-exactly c =
    let a = c.args in
    let k : a.count < 2 ^ 16 = omega arith in
    rw (
      messages-reply,
      le-leb (7 + length a.blocks.now) limit (omega (arith, c.if-size-gt-LIMIT.false)),
      found (goal.at.returns-then-not-exactly c).After-exactly,
      not-true c.exactly.result c.if-not-exactly.true-raw,
    ) (refuses _ _ Framing refl)

pub returns-then-number-eq0 : goal.returns-then-number-eq0
returns-then-number-eq0 c = rw (
  filled (goal.at.returns-then-number-eq0 c).Else-not-exactly (found (goal.at.returns-then-number-eq0 c).After-exactly),
  c.if-number-eq0.true,
) (refuses _ _ Absent refl)

pub returns-then-count-number : goal.returns-then-count-number
returns-then-count-number c =
    let a = c.args in
    rw (
      filled (goal.at.returns-then-count-number c).Else-not-exactly (found (goal.at.returns-then-count-number c).After-exactly),
      ne_eqb a.first.0 0 c.if-number-eq0.false,
      lt-leb (a.first.0 + a.count) (2 ^ 32 - 1) (omega arith),
    ) (refuses _ _ Bound refl)

pub returns-then-out-size : goal.returns-then-out-size
returns-then-out-size c =
    let a = c.args in
    let w = (filled (goal.at.returns-then-out-size c).Else-not-exactly (found (goal.at.returns-then-out-size c).After-exactly)) in
    let f = fits a.first.0 a.count a.blocks.now (length a.out.now) w c.if-number-eq0.false (omega arith) in
    lacks-room _ (laid a.first.0 a.count a.blocks.now) a.out.now f (rw length-laid c.if-out-size.true)

pub returns : goal.returns
returns c =
    let a = c.args in
    let blocks = a.blocks.now in
    let w = (filled (goal.at.returns c).Else-not-exactly (found (goal.at.returns c).After-exactly)) in
    let f = fits a.first.0 a.count blocks (length a.out.now) w c.if-number-eq0.false (omega arith) in
    let n = length-laid a.first.0 a.count blocks in
    has_room _ (laid a.first.0 a.count blocks) a.out.now f _ (7 + length blocks) (sym n) (rw length-laid c.if-out-size.false)
    (rw (c.copy.ensures, c.put2.ensures, c.put4.ensures, take-length blocks)
    (laid-stored a.first.0 a.count blocks a.out.now))
