-- A login without a user is refused as 6, whatever its number; one without a password or a session is lawful.
-- Assumes nothing.
use Prim.Native.Nat.{ℕ, ◌^◌, ◌<◌}
use mathlib.Core.Path.{◌≡◌, refl, ◌∙◌}
use mathlib.Core.List.{List, ◌++◌}
use mathlib.Core.Bool.{true, false}
use lib.ListN.{length, replicate}
use Rattle.wire.specs.Checks.{refused}
use Rattle.wire.specs.declared.refusal.Refusal.TheVariants.{Absent}
use Rattle.text.specs.Text.{letter_or_digit, blank, text, text_then_spaces, spaces_then_text}
use Rattle.decimal.specs.Decimal.{well_formed}
use Rattle.soup.specs.Packet.{login, line, PaddedRight, PaddedLeft, Fit}
use Rattle.soup.specs.Read.{login_of, read}
use Rattle.soup.proofs.Exact.{login-decides}

-- six spaces for the user, and every check before it passed; the number may be blank, and it may be over the bound
pub nameless-is-6 : (password session number : List ℕ) → text_then_spaces password ≡ true → spaces_then_text session ≡ true
    → well_formed number ≡ true → login_of (replicate 6 32) password session number ≡ refused Absent
unfolding login_of blank text_then_spaces letter_or_digit
nameless-is-6 password session number p s n = rw (p, s, n)

-- So is every line of such fields, whatever twenty well-formed bytes its number is: padded with spaces or noughts, over the bound, blank.
pub nameless-line : (password session number : List ℕ) → PaddedRight 10 password → PaddedLeft 10 session → length number ≡ 20
    → well_formed number ≡ true → read (line 76 (replicate 6 32 ++ password ++ session ++ number)) ≡ refused Absent
unfolding blank text_then_spaces letter_or_digit
nameless-line password session number p s n f =
    login-decides (replicate 6 32) password session number (refl, refl) p s n f ∙ nameless-is-6 password session number p.1 s.1 f

pub user-is-enough : (user : List ℕ) (number : ℕ) → PaddedRight 6 user → blank user ≡ false → number < 2 ^ 64
    → Fit (login user (replicate 10 32) (replicate 10 32) number)
unfolding Fit blank text_then_spaces spaces_then_text letter_or_digit text
user-is-enough user number u b h = (u, (refl, refl), (refl, refl), h, b)
