-- A login without a user is refused as 6, alone or among a packet's messages; one without a password or a session is lawful.
-- Assumes nothing.
use Prim.Native.Nat.{ℕ, ◌≤◌}
use mathlib.Core.Path.{◌≡◌, refl, sym, ◌∙◌}
use mathlib.Core.List.{List, ◌∷◌, ◌++◌}
use mathlib.Core.Bool.{true, false, true≢false}
use borrow.Author.Tests.{not-true}
use lib.ListN.{length, replicate, length-append}
use Rattle.wire.specs.Fields.{Bytes}
use Rattle.wire.specs.Checks.{refused, taken}
use Rattle.wire.specs.Datagram.{limit}
use Rattle.wire.specs.declared.refusal.Refusal.TheVariants.{Absent}
use Rattle.wire.proofs.Checks.{all-passed}
use Rattle.text.specs.Text.{letter_or_digit, blank, text_then_spaces}
use Rattle.blocks.specs.Blocks.{frame, whole, upstream}
use Rattle.ufo_up.specs.Up.{Message, login, write_message, Field, FitMessage, kind, user_l, password_l, session_l, checks_l, read_l}
use Rattle.ufo_up.specs.Up.{read_message, read_each, read_up}
use Rattle.ufo_up.proofs.UpMessage.{of-kind}
use Rattle.ufo_up.proofs.UpOne.{read_one}
use Rattle.ufo_up.proofs.UpExactOne.{full-message, checks-login}
use Rattle.ufo_up.proofs.UpInTurn.{fit-there}
use Rattle.ufo_up.proofs.Exact.{read-is-written}
use Rattle.ufo_up.proofs.Order.{first-refused}

-- six spaces for the user, and all else as it should be
module _ (password session : List ℕ) (p : Field 10 password) (s : Field 10 session) where
  abbrev nameless : List ℕ
  nameless = write_message (login (replicate 6 32) password session)

  pub nameless-is-6 : read_message nameless ≡ refused Absent
  unfolding blank text_then_spaces letter_or_digit
  nameless-is-6 = checks-login (replicate 6 32) password session refl p.0 s.0 ∙ rw (p.1, s.1)

  -- a packet that is this login alone
  pub nameless-packet-is-6 : read_up (frame nameless) ≡ refused Absent
  nameless-packet-is-6 =
      let l : length nameless ≡ 27 = simp (length-append, p.0, s.0) refl in
      rw (read_one nameless (full-message (login (replicate 6 32) password session)), l, nameless-is-6)

  -- and any packet in which every message before it is taken, whatever comes after it
  pub nameless-among-others-is-6 : (d : List ℕ) (before after : List (List ℕ)) (ms : List Message) → length d ≤ limit
      → upstream d ≡ whole (before ++ (nameless ∷ after)) → read_each before ≡ taken ms → read_up d ≡ refused Absent
  nameless-among-others-is-6 d before after ms l u t = first-refused d before nameless after ms Absent l u t nameless-is-6

-- type 76 is L: it is not taken, whatever else it says
pub nameless-is-no-login : (m : List ℕ) (said : Message) → kind m ≡ 76 → read_message m ≡ taken said → blank (user_l m) ≡ true → ⊥
unfolding read_l
nameless-is-no-login m said k e b =
    let passed = all-passed (checks_l m) (taken (login (user_l m) (password_l m) (session_l m))) said (sym (of-kind m 76 k) ∙ e) in
    true≢false (sym b ∙ not-true (blank (user_l m)) passed.0.1.1.1.1.0)

-- so no packet that is taken has one among its messages
pub nameless-in-no-packet : (d : List ℕ) → Bytes d → (before after : List Message) (user password session : List ℕ)
    → read_up d ≡ taken (before ++ (login user password session ∷ after)) → blank user ≡ false
nameless-in-no-packet d b before after user password session e =
    let m = login user password session in
    (fit-there before m after (read-is-written d b (before ++ (m ∷ after)) e).0.all).3

pub user-is-enough : (user : List ℕ) → Field 6 user → blank user ≡ false → FitMessage (login user (replicate 10 32) (replicate 10 32))
unfolding blank text_then_spaces letter_or_digit
user-is-enough user u b = (u, (refl, refl), (refl, refl), b)
