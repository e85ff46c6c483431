-- Each test that failed refuses, and those before it are passed: what is left to check of the reply is said once the name is lawful
-- (`named`) and once nothing but the room is left (`fits`); then the fields, stored one after the other, are the packet.
use Prim.Native.Nat.{ℕ, ◌-◌, ◌^◌, ◌≤◌}
use mathlib.Core.Path.{◌≡◌, refl, ◌∙◌}
use mathlib.Core.List.{List, [], ◌∷◌}
use mathlib.Core.Bool.{not}
use borrow.Author.Tests.{le-leb, lt-leb, ne_eqb}
use lib.ListN.{length}
use Rattle.wire.specs.Checks.{◌is◌, ◌at_most◌, ◌else◌, checked}
use Rattle.wire.specs.Fields.{bytes_of}
use Rattle.names.specs.Names.{name_bytes}
use Rattle.wire.specs.declared.kinds.Name.{Name}
use Rattle.wire.specs.Reply.{Reply, within}
use Rattle.wire.specs.declared.refusal.Refusal.TheVariants.{Form, Absent, Bound}
use Rattle.names.proofs.Packing.{length-name_bytes}
use Rattle.wire.proofs.Settling.{refuses, lacks-room, has_room}
use Rattle.wire.proofs.Tests.{held, failed}
use Rattle.ufo.specs.Down.{write, accept}
use Rattle.ufo_write.specs.WriteDown.{accept_reply}
use Rattle.ufo.proofs.DownLaid.{of_accept}
use Rattle.ufo_write.proofs.DownReplies.{accept-reply}
use Rattle.ufo_write.proofs.write_accept.Goals.{Else-is_blank_name}
use Rattle.ufo_write.proofs.write_accept.Goals as goal

-- the packet that is written, and the reply
abbrev packet : Name → ℕ → List ℕ
packet session number = write (accept (name_bytes session) number)

module _ (session : Name) (number room : ℕ) where
  abbrev replied : Reply
  replied = accept_reply (name_bytes session) number room

  replies : replied ≡ checked (of_accept (name_bytes session) number) (within room (packet session number))
  replies = accept-reply (name_bytes session) number room (length-name_bytes session)

  -- the name is lawful: the number is left to check
  abbrev Named : Type 0
  Named =
      replied ≡ checked ((not (number is 0) else Absent) ∷ (number at_most 2 ^ 32 - 1 else Bound) ∷ [])
      (within room (packet session number))

  -- nothing is refused but for want of room
  fits : Named → (number ≡ 0 → ⊥) → number ≤ 2 ^ 32 - 1 → replied ≡ within room (packet session number)
  fits e some few = rw (e, ne_eqb number 0 some, le-leb number (2 ^ 32 - 1) few)

named : (c : Else-is_blank_name) → Named c.args.session c.args.next.0 (length c.args.out.now)
named c =
    replies c.args.session c.args.next.0 (length c.args.out.now)
    ∙ rw (held c.is_name_then_spaces.ensures c.if-not-is_name_then_spaces.false-raw, ← c.is_blank_name.ensures, c.if-is_blank_name.false)

pub returns-then-not-is_name_then_spaces : goal.returns-then-not-is_name_then_spaces
returns-then-not-is_name_then_spaces c =
    refuses _ _ Form (replies c.args.session c.args.next.0 (length c.args.out.now)
    ∙ rw (failed c.is_name_then_spaces.ensures c.if-not-is_name_then_spaces.true-raw))

pub returns-then-is_blank_name : goal.returns-then-is_blank_name
returns-then-is_blank_name c =
    refuses _ _ Absent (replies c.args.session c.args.next.0 (length c.args.out.now)
    ∙ rw (held c.is_name_then_spaces.ensures c.if-not-is_name_then_spaces.false-raw, ← c.is_blank_name.ensures, c.if-is_blank_name.true))

pub returns-then-number-eq0 : goal.returns-then-number-eq0
returns-then-number-eq0 c =
    rw (named (goal.at.returns-then-number-eq0 c).Else-is_blank_name, c.if-number-eq0.true) (refuses _ _ Absent refl)

pub returns-then-number-gt-HIGHEST : goal.returns-then-number-gt-HIGHEST
returns-then-number-gt-HIGHEST c =
    rw (
      named (goal.at.returns-then-number-gt-HIGHEST c).Else-is_blank_name,
      ne_eqb c.args.next.0 0 c.if-number-eq0.false,
      lt-leb c.args.next.0 (2 ^ 32 - 1) c.if-number-gt-HIGHEST.true,
    ) (refuses _ _ Bound refl)

pub returns-then-out-lt15 : goal.returns-then-out-lt15
unfolding bytes_of
returns-then-out-lt15 c =
    let a = c.args in
    let n = named (goal.at.returns-then-out-lt15 c).Else-is_blank_name in
    let f = fits a.session a.next.0 (length a.out.now) n c.if-number-eq0.false c.if-number-gt-HIGHEST.false in
    lacks-room _ (packet a.session a.next.0) a.out.now f c.if-out-lt15.true

pub returns : goal.returns
unfolding bytes_of
returns c =
    let a = c.args in
    let n = named (goal.at.returns c).Else-is_blank_name in
    let r = fits a.session a.next.0 (length a.out.now) n c.if-number-eq0.false c.if-number-gt-HIGHEST.false in
    has_room _ (packet a.session a.next.0) a.out.now r _ 15 refl c.if-out-lt15.false (rw (c.put4.ensures, c.put_name.ensures))
