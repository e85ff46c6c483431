-- The readers of `A` and `L`: the texts' padding is checked together, and then all goes by what the number came to.
-- Assumes nothing.
use Rattle.std.specs.Prelude.{Ok, Err, Result, if◌then◌else◌}
use Prim.Native.Nat.{ℕ, ◌-◌, ◌^◌}
use mathlib.Core.Path.{◌≡◌, sym, ap, ◌∙◌}
use mathlib.Core.List.{List, ◌∷◌}
use mathlib.Core.Bool.{Bool, true, ◌&&◌}
use lib.ListN.{length}
use borrow.Author.Tests.{eqb-true}
use Rattle.wire.specs.Checks.{◌is◌, ◌at_most◌, Verdict, taken, refused, ◌else◌, checked, ◌into◌}
use Rattle.wire.specs.declared.refusal.Refusal.TheVariants.{Form, Absent, Bound}
use Rattle.wire.proofs.Tests.{by-test}
use Rattle.wire.proofs.Checks.{checked-both, into-checked}
use Rattle.text.specs.Text.{blank, text_then_spaces, spaces_then_text}
use Rattle.decimal.specs.Decimal.{well_formed, value_of, number_of}
use Rattle.decimal.specs.declared.Fault.{Fault}
use Rattle.decimal.specs.declared.Fault.TheVariants.{Misshapen, Blank, Over}
use Rattle.soup.specs.Packet.{Packet, accept, login}
use Rattle.soup.specs.Read.{accept_of, login_of}
use Rattle.soup.specs.Reading.{number_checks}

-- the verdict on a number by what it came to: `absent` says that the text beside it is blank
abbrev pub by_number : (absent : Bool) → Result ℕ Fault → Verdict ℕ
by_number absent (Err Misshapen) = refused Form
by_number absent (Err Blank) = refused Absent
by_number absent (Err Over) = if absent then refused Absent else refused Bound
by_number absent (Ok n) = if absent then refused Absent else taken n

pub by_number_lem : (absent : Bool) (number : List ℕ) → length number ≡ 20
    → checked (number_checks absent number) (taken (value_of number)) ≡ by_number absent (number_of number)
unfolding number_of
by_number_lem absent number l =
    by-test (well_formed number)
    (λ f.
    by-test (blank number)
    (λ b. rw (l, f, b) (by-test absent (λ s. rw s) (λ s. rw s)))
    (λ b.
    by-test (value_of number at_most 2 ^ 64 - 1)
    (λ v. rw (l, f, b, v) (by-test absent (λ s. rw s) (λ s. rw s)))
    (λ v. rw (l, f, b, v) (by-test absent (λ s. rw s) (λ s. rw s)))))
    (λ f. rw (l, f))

-- what was read, as r
pub number-as : (absent : Bool) (number : List ℕ) (r n : Result ℕ Fault) → length number ≡ 20 → r ≡ number_of number → r ≡ n
    → by_number absent n ≡ checked (number_checks absent number) (taken (value_of number))
number-as absent number r n l e f = ap (by_number absent) (sym f ∙ e) ∙ sym (by_number_lem absent number l)

-- an `A` has a session and a number that is not 0, an `L` a user
abbrev pub accept_by : (session : List ℕ) → ℕ → Verdict Packet
accept_by session n = if n is 0 then refused Absent else taken (accept session n)

abbrev pub session_number : (session number : List ℕ) → Verdict ℕ
session_number session number = checked (number_checks (blank session) number) (taken (value_of number))

abbrev pub user_number : (user number : List ℕ) → Verdict ℕ
user_number user number = checked (number_checks (blank user) number) (taken (value_of number))

pub accept-together : (session number : List ℕ) → accept_of session number
    ≡ (if spaces_then_text session then session_number session number into accept_by session else refused Form)
unfolding accept_of
accept-together session number =
    by-test (spaces_then_text session)
    (λ p.
    rw p (by-test (well_formed number)
    (λ f.
    by-test (blank session)
    (λ a. rw (f, a))
    (λ a.
    by-test (blank number)
    (λ b. rw (f, a, b))
    (λ b.
    by-test (value_of number is 0)
    (λ z. rw (f, a, b, eqb-true (value_of number) 0 z))
    (λ z. rw (f, a, b, z) (by-test (value_of number at_most 2 ^ 64 - 1) (λ v. rw (v, z)) (λ v. rw v))))))
    (λ f. rw f)))
    (λ p. rw p)

pub login-together : (user password session number : List ℕ) → login_of user password session number
    ≡ (if text_then_spaces user && text_then_spaces password && spaces_then_text session
    then (user_number user number into λ n. taken (login user password session n))
    else refused Form)
unfolding login_of
login-together user password session number =
    let u = text_then_spaces user in
    let p = text_then_spaces password in
    let s = spaces_then_text session in
    let rest = number_checks (blank user) number in
    let v = taken (login user password session (value_of number)) in
    checked-both Form u p ((s else Form) ∷ rest) v
    ∙ checked-both Form (u && p) s rest v
    ∙ by-test (u && p && s)
    (λ t. rw t (sym (into-checked rest (taken (value_of number)) (λ n. taken (login user password session n)))))
    (λ t. rw t)

-- the padding is as it should be, and the number was read as r
pub accept-as : (session number : List ℕ) (absent : Bool) (v r : Verdict ℕ) → spaces_then_text session ≡ true → absent ≡ blank session
    → v ≡ checked (number_checks absent number) (taken (value_of number)) → v ≡ r → accept_of session number ≡ r into accept_by session
accept-as session number absent v r p a e f =
    accept-together session number ∙ rw (p, ← a, ← e, f)

pub login-as : (user password session number : List ℕ) (absent : Bool) (v r : Verdict ℕ)
    → text_then_spaces user && text_then_spaces password && spaces_then_text session ≡ true → absent ≡ blank user
    → v ≡ checked (number_checks absent number) (taken (value_of number)) → v ≡ r
    → login_of user password session number ≡ r into λ n. taken (login user password session n)
login-as user password session number absent v r p a e f =
    login-together user password session number ∙ rw (p, ← a, ← e, f)
