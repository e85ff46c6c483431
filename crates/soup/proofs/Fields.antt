-- An `A` or an `L` that was taken has its size, has passed every check, and is told by the fields at their places.
-- Assumes nothing.
use Prim.Native.Nat.{ℕ}
use mathlib.Core.Path.{◌≡◌}
use mathlib.Core.List.{List}
use lib.ListN.{length, get_or}
use borrow.Author.Tests.{eqb-true}
use Rattle.wire.specs.Checks.{Check, Passed, checked, taken}
use Rattle.wire.proofs.Checks.{all-passed, taken-same}
use Rattle.decimal.specs.Decimal.{value_of}
use Rattle.soup.specs.Packet.{Packet, accept, login}
use Rattle.soup.specs.Read.{opening, field, sized_checks, accept_checks, login_checks, accept_of, login_of, read_accept, read_login}
use Rattle.soup.specs.Read.{by_type}
use Rattle.soup.specs.Read.{read}

-- a line of n bytes that was read as p, which is this packet, by these checks of its fields
pub record ReadBy (d : List ℕ) (p : Packet) (n : ℕ) (cs : List Check) (packet : Packet) : Type 0 where
  pub size : length d ≡ n
  pub passed : Passed cs
  pub same : packet ≡ p

module _ (d : List ℕ) (p : Packet) where
  abbrev pub Accepted : Type 0
  Accepted = ReadBy d p 32 (accept_checks (field 1 10 d) (field 11 20 d)) (accept (field 1 10 d) (value_of (field 11 20 d)))

  abbrev pub LoggedIn : Type 0
  LoggedIn = ReadBy d p 48 (login_checks (field 1 6 d) (field 7 10 d) (field 17 10 d) (field 27 20 d))
      (login (field 1 6 d) (field 7 10 d) (field 17 10 d) (value_of (field 27 20 d)))

  read_by : (n : ℕ) (cs : List Check) (packet : Packet) → checked (sized_checks n d) (checked cs (taken packet)) ≡ taken p
      → ReadBy d p n cs packet
  read_by n cs packet e =
      let sized = all-passed (sized_checks n d) (checked cs (taken packet)) p e in
      let r = all-passed cs (taken packet) p sized.1 in
      record { size = eqb-true (length d) n sized.0.0; passed = r.0; same = taken-same packet p r.1 }

  pub accept-taken : read_accept d ≡ taken p → Accepted
  unfolding accept_of
  accept-taken = read_by _ _ _

  pub login-taken : read_login d ≡ taken p → LoggedIn
  unfolding login_of
  login-taken = read_by _ _ _

  -- what was read by its type
  typed : (kind : ℕ) → get_or d 0 0 ≡ kind → read d ≡ taken p → by_type kind d ≡ taken p
  unfolding read
  typed kind k e = rw k at (all-passed (opening d) (by_type (get_or d 0 0) d) p e).1

  -- type 65 is A, and type 76 is L
  pub accept-read : get_or d 0 0 ≡ 65 → read d ≡ taken p → Accepted
  accept-read k e = accept-taken (typed 65 k e)

  pub login-read : get_or d 0 0 ≡ 76 → read d ≡ taken p → LoggedIn
  login-read k e = login-taken (typed 76 k e)
