-- Each test that failed refuses, and those before it are passed: what is left to check of the reply is said after the texts (`padded`) and
-- after the user (`passed`); then the room decides, and the fields stored one after the other are the block.
use Prim.Native.Nat.{ℕ}
use mathlib.Core.List.{[], ◌∷◌}
use mathlib.Core.Path.{◌≡◌, refl, sym, ◌∙◌}
use mathlib.Core.Bool.{false, not}
use native.Mathlib.Omega.{arith}
use lib.ListN.{length}
use Rattle.wire.specs.Fields.{bytes_of}
use Rattle.wire.specs.Checks.{◌else◌, checked}
use Rattle.wire.specs.declared.kinds.Name.{Name}
use Rattle.wire.specs.declared.kinds.User.{User}
use Rattle.names.specs.Names.{name_bytes, user_bytes}
use Rattle.wire.specs.Reply.{within}
use Rattle.wire.specs.declared.refusal.Refusal.TheVariants.{Form, Absent, Room}
use Rattle.names.proofs.Packing.{length-name_bytes, length-user_bytes}
use Rattle.wire.proofs.Settling.{refuses, writes}
use Rattle.wire.proofs.Tests.{tests, held, failed}
use Rattle.text.specs.Text.{blank}
use Rattle.blocks.specs.Blocks.{frame}
use Rattle.ufo_up.specs.Up.{Message, login, write_message}
use Rattle.ufo_up_write.specs.WriteUp.{reply}
use Rattle.ufo_up.proofs.UpExactOne.{left_l}
use Rattle.ufo_up_write.proofs.UpReplies.{reply-login}
use Rattle.ufo_up_write.proofs.UpLaid.{laid-login}
use Rattle.ufo_up_write.proofs.write_login.Goals.{Else-not-is_name_then_spaces-2}
use Rattle.ufo_up_write.proofs.write_login.Goals as goal

-- the message that is written
abbrev message : User → Name → Name → Message
message user password session = login (user_bytes user) (name_bytes password) (name_bytes session)

module _ (user : User) (password session : Name) (room : ℕ) where
  -- it, with its texts named
  abbrev lent : Message
  lent = message user password session

  -- the reply, by what is left to check
  replies : reply lent room ≡ checked (left_l (user_bytes user) (name_bytes password) (name_bytes session))
      (within room (frame (write_message lent)))
  replies =
      reply-login (user_bytes user) (name_bytes password) (name_bytes session) room (length-user_bytes user) (length-name_bytes password)
      (length-name_bytes session)

  -- once the texts are padded as they should be, the user is left to look at
  abbrev Padded : Type 0
  Padded = reply lent room ≡ checked ((not (blank (user_bytes user)) else Absent) ∷ []) (within room (frame (write_message lent)))

  -- and once the user is not blank, the room decides
  passed : blank (user_bytes user) ≡ false → Padded → reply lent room ≡ within room (frame (write_message lent))
  passed b p = p ∙ rw b

padded : (c : Else-not-is_name_then_spaces-2) → Padded c.args.user c.args.password.0 c.args.session (length c.args.out.now)
padded c =
    let a = c.args in
    replies a.user a.password.0 a.session (length a.out.now) ∙ rw (
      held c.is_user_then_spaces.ensures c.if-not-is_user_then_spaces.false-raw,
      held c.is_name_then_spaces.ensures c.if-not-is_name_then_spaces.false-raw,
      held c.is_name_then_spaces-2.ensures c.if-not-is_name_then_spaces-2.false-raw,
    )

pub returns-then-not-is_user_then_spaces : goal.returns-then-not-is_user_then_spaces
returns-then-not-is_user_then_spaces c =
    refuses _ _ Form (replies c.args.user c.args.password.0 c.args.session (length c.args.out.now) ∙ rw
    (failed c.is_user_then_spaces.ensures c.if-not-is_user_then_spaces.true-raw))

pub returns-then-not-is_name_then_spaces : goal.returns-then-not-is_name_then_spaces
returns-then-not-is_name_then_spaces c =
    refuses _ _ Form (replies c.args.user c.args.password.0 c.args.session (length c.args.out.now) ∙ rw (
      held c.is_user_then_spaces.ensures c.if-not-is_user_then_spaces.false-raw,
      failed c.is_name_then_spaces.ensures c.if-not-is_name_then_spaces.true-raw,
    ))

pub returns-then-not-is_name_then_spaces-2 : goal.returns-then-not-is_name_then_spaces-2
returns-then-not-is_name_then_spaces-2 c =
    refuses _ _ Form (replies c.args.user c.args.password.0 c.args.session (length c.args.out.now) ∙ rw (
      held c.is_user_then_spaces.ensures c.if-not-is_user_then_spaces.false-raw,
      held c.is_name_then_spaces.ensures c.if-not-is_name_then_spaces.false-raw,
      failed c.is_name_then_spaces-2.ensures c.if-not-is_name_then_spaces-2.true-raw,
    ))

pub returns-then-is_blank_user : goal.returns-then-is_blank_user
returns-then-is_blank_user c = refuses _ _ Absent (padded (goal.at.returns-then-is_blank_user c).Else-not-is_name_then_spaces-2 ∙ rw (
  ← c.is_blank_user.ensures,
  c.if-is_blank_user.true,
))

pub returns-then-out-lt29 : goal.returns-then-out-lt29
unfolding bytes_of
returns-then-out-lt29 c =
    let a = c.args in
    let at = goal.at.returns-then-out-lt29 c in
    let b = sym c.is_blank_user.ensures ∙ c.if-is_blank_user.false in
    refuses _ _ Room (passed a.user a.password.0 a.session (length a.out.now) b (padded at.Else-not-is_name_then_spaces-2) ∙ search tests)

pub returns : goal.returns
unfolding bytes_of
returns c =
    let a = c.args in
    let at = goal.at.returns c in
    let named = sym c.is_blank_user.ensures ∙ c.if-is_blank_user.false in
    writes _ _ (frame (write_message (message a.user a.password.0 a.session))) _ 29
    (passed a.user a.password.0 a.session (length a.out.now) named (padded at.Else-not-is_name_then_spaces-2) ∙ search tests) refl
    (omega arith)
    (rw (c.put_name-2.ensures, c.put_name.ensures, c.put_user.ensures, c.put_head.ensures)
    (laid-login a.out.now a.user a.password.0 a.session))
