-- A blank number is never nought, and a blank user is nobody: a packet with such a blank is not taken, whatever else it says. Nor is an `A`
-- from nought.
-- Assumes nothing.
use Prim.Native.Nat.{ℕ}
use mathlib.Core.List.{List}
use mathlib.Core.Path.{◌≡◌, sym, ◌∙◌}
use mathlib.Core.Bool.{true, true≢false}
use lib.Dec.{eqb}
use lib.ListN.{get_or}
use borrow.Author.Tests.{eqb-false, not-true}
use Rattle.wire.specs.Checks.{taken}
use Rattle.text.specs.Text.{blank}
use Rattle.decimal.specs.Decimal.{value_of}
use Rattle.soup.specs.Packet.{Packet}
use Rattle.soup.specs.Read.{field, read}
use Rattle.soup.proofs.Fields.{accept-read, login-read}

module _ (d : List ℕ) (p : Packet) where
  -- type 65 is A, and its number is the twenty bytes from 11 on
  pub blank-is-no-accept : get_or d 0 0 ≡ 65 → read d ≡ taken p → blank (field 11 20 d) ≡ true → ⊥
  blank-is-no-accept k e b =
      true≢false (sym b ∙ not-true (blank (field 11 20 d)) (accept-read d p k e).passed.1.1.1.0)

  -- however many noughts it is written with
  pub nought-is-no-accept : get_or d 0 0 ≡ 65 → read d ≡ taken p → value_of (field 11 20 d) ≡ 0 → ⊥
  nought-is-no-accept k e =
      let n = value_of (field 11 20 d) in
      eqb-false n 0 (not-true (eqb n 0) (accept-read d p k e).passed.1.1.1.1.0)

  -- type 76 is L; its user is the six bytes from 1 on, its number the twenty from 27 on
  pub blank-is-no-login : get_or d 0 0 ≡ 76 → read d ≡ taken p → blank (field 27 20 d) ≡ true → ⊥
  blank-is-no-login k e b =
      true≢false (sym b ∙ not-true (blank (field 27 20 d)) (login-read d p k e).passed.1.1.1.1.1.0)

  pub nameless-is-no-login : get_or d 0 0 ≡ 76 → read d ≡ taken p → blank (field 1 6 d) ≡ true → ⊥
  nameless-is-no-login k e b =
      true≢false (sym b ∙ not-true (blank (field 1 6 d)) (login-read d p k e).passed.1.1.1.1.0)
