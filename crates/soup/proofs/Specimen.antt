-- Specimens of document 01 and of the house's decisions, byte by byte.
-- Assumes nothing.
use Prim.Native.Nat.{ℕ, ◌-◌, ◌^◌}
use mathlib.Core.Path.{◌≡◌, refl}
use mathlib.Core.List.{List, [], ◌∷◌, ◌++◌}
use lib.ListN.{replicate}
use Rattle.wire.specs.Checks.{refused, taken}
use Rattle.wire.specs.declared.refusal.Refusal.TheVariants.{Framing, Form, Absent, Bound, Linefeed}
use Rattle.text.specs.Text.{letter_or_digit, blank, text, text_then_spaces, spaces_then_text}
use Rattle.decimal.specs.Decimal.{digit, digits, trimmed, well_formed, spelt, value_of, character, places, written}
use Rattle.soup.specs.Packet.{accept, login, line}
use Rattle.soup.specs.Read.{unbroken, accept_of, login_of, read}
use Rattle.soup.specs.Spelling.{spelt_anew, spelling}

-- six spaces, 8841
abbrev session : List ℕ
session = replicate 6 32 ++ 56 ∷ 56 ∷ 52 ∷ 49 ∷ []

abbrev accepted : List ℕ → List ℕ
accepted number = line 65 (session ++ number)

-- 1844674407370955161, to which one digit more is added
abbrev nineteen : List ℕ
nineteen = 49 ∷ 56 ∷ 52 ∷ 52 ∷ 54 ∷ 55 ∷ 52 ∷ 52 ∷ 48 ∷ 55 ∷ 51 ∷ 55 ∷ 48 ∷ 57 ∷ 53 ∷ 53 ∷ 49 ∷ 54 ∷ 49 ∷ []

pub next_one : read (accepted (replicate 19 32 ++ 49 ∷ [])) ≡ taken (accept session 1)
unfolding read accept_of unbroken spaces_then_text text letter_or_digit blank well_formed value_of trimmed digits digit spelt
next_one = refl

pub twenty-spaces : read (accepted (replicate 20 32)) ≡ refused Absent
unfolding read accept_of unbroken spaces_then_text text letter_or_digit blank well_formed value_of trimmed digits digit spelt
twenty-spaces = refl

pub one-too-many : read (accepted (nineteen ++ 54 ∷ [])) ≡ refused Bound
unfolding read accept_of unbroken spaces_then_text text letter_or_digit blank well_formed value_of trimmed digits digit spelt
one-too-many = refl

pub the-largest : read (accepted (nineteen ++ 53 ∷ [])) ≡ taken (accept session (2 ^ 64 - 1))
unfolding read accept_of unbroken spaces_then_text text letter_or_digit blank well_formed value_of trimmed digits digit spelt
the-largest = refl

-- 42, padded with noughts; and how it is written
abbrev forty-two : List ℕ
forty-two = replicate 18 48 ++ 52 ∷ 50 ∷ []

pub padded-with-noughts : read (accepted forty-two) ≡ taken (accept session 42)
unfolding read accept_of unbroken spaces_then_text text letter_or_digit blank well_formed value_of trimmed digits digit spelt
padded-with-noughts = refl

pub spelt-as-we-write : spelling (accepted forty-two) ≡ accepted (replicate 18 32 ++ 52 ∷ 50 ∷ [])
unfolding spelling spelt_anew value_of trimmed spelt written places character
spelt-as-we-write = refl

-- a nought, and then a space
pub nought-then-space : read (accepted (replicate 18 48 ++ 32 ∷ 49 ∷ [])) ≡ refused Form
unfolding read accept_of unbroken spaces_then_text text letter_or_digit blank well_formed value_of trimmed digits digit spelt
nought-then-space = refl

-- twenty noughts, in Login Accepted and in a login; the user is ME
pub twenty-noughts : read (accepted (replicate 20 48)) ≡ refused Absent
unfolding read accept_of unbroken spaces_then_text text letter_or_digit blank well_formed value_of trimmed digits digit spelt
twenty-noughts = refl

abbrev user : List ℕ
user = 77 ∷ 69 ∷ replicate 4 32

abbrev password : List ℕ
password = replicate 10 32

pub login-from-nought : read (line 76 (user ++ password ++ session ++ replicate 20 48)) ≡ taken (login user password session 0)
unfolding read login_of unbroken text_then_spaces spaces_then_text text letter_or_digit blank well_formed value_of trimmed digits digit
    spelt
login-from-nought = refl

-- a type byte alone, and a reason that is a linefeed
pub type-alone : read (74 ∷ []) ≡ refused Framing
unfolding read
type-alone = refl

pub linefeed-for-reason : read (74 ∷ 10 ∷ 10 ∷ []) ≡ refused Linefeed
unfolding read unbroken
linefeed-for-reason = refl
