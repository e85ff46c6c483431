-- What the reader takes is a line; and a Login Accepted that it takes begins the count below 2^64. Both by the checks of each type, in one
-- walk over the types.
-- Assumes nothing.
use Prim.Native.Nat.{ℕ, ◌-◌, ◌^◌, ◌<◌}
use mathlib.Core.Path.{◌≡◌}
use mathlib.Core.List.{List}
use native.Mathlib.Omega.{arith}
use lib.ListN.{length, get_or}
use borrow.Author.Tests.{eqb-true, leb-true}
use Rattle.wire.specs.Checks.{Verdict, taken, checked, Check, Passed}
use Rattle.wire.specs.declared.refusal.Refusal.TheVariants.{UnknownType}
use Rattle.wire.proofs.Checks.{all-passed, taken-same, not-both}
use Rattle.wire.proofs.Tests.{impossible}
use Rattle.decimal.specs.Decimal.{value_of}
use Rattle.soup.specs.Packet.{Packet, accept, reject, login}
use Rattle.soup.specs.Read.{last, opening, line_checks, sized_checks, reject_checks, accept_checks, login_checks, reject_of, accept_of}
use Rattle.soup.specs.Read.{login_of}
use Rattle.soup.specs.Read.{by_type, read}
use Rattle.soup.proofs.Types.{every-type, unknown-is-3}
use Rattle.soup_pieces.specs.Machine.{begins, counted, neither, role_of}
use Rattle.soup_pieces.specs.Closing.{Line}

-- the number at which a packet begins the count, if it does
abbrev BeginsLow : Packet → Type 0
BeginsLow p = (number : ℕ) → role_of p ≡ begins number → number < 2 ^ 64

-- most packets don't
uncounted : (number : ℕ) → neither ≡ begins number → number < 2 ^ 64
uncounted number e = impossible cc

message : (number : ℕ) → counted ≡ begins number → number < 2 ^ 64
message number e = impossible cc

module _ (d : List ℕ) (p : Packet) where
  record Takes : Type 0 where
    lined : Passed (line_checks d)
    low : BeginsLow p

  -- what the last checks let pass
  passing : (cs : List Check) (a : Packet) → (Passed cs → BeginsLow a) → checked cs (taken a) ≡ taken p → BeginsLow p
  passing cs a low e =
      let r = all-passed cs (taken a) p e in
      rw (← taken-same a p r.1) (low r.0)

  line : (a : Packet) → BeginsLow a → checked (line_checks d) (taken a) ≡ taken p → Takes
  line a low e = record { lined = (all-passed (line_checks d) (taken a) p e).0; low = passing (line_checks d) a (λ _. low) e }

  sized : (n : ℕ) (v : Verdict Packet) → (v ≡ taken p → BeginsLow p) → checked (sized_checks n d) v ≡ taken p → Takes
  sized n v low e = let r = all-passed (sized_checks n d) v p e in record { lined = r.0.1; low = low r.1 }

  bare : (a : Packet) → BeginsLow a → ◌≡◌ {A = Verdict Packet} (taken a) (taken p) → BeginsLow p
  bare a low e = rw (← taken-same a p e) low

  accepted : (session number : List ℕ) → accept_of session number ≡ taken p → BeginsLow p
  unfolding accept_of
  accepted session number = passing (accept_checks session number) (accept session (value_of number)) low where
    low : Passed (accept_checks session number) → BeginsLow (accept session (value_of number))
    low c first e =
        let n : value_of number ≡ first = cc in
        let h = leb-true (value_of number) (2 ^ 64 - 1) c.1.1.1.1.1.0 in
        omega arith

  rejected : (reason : ℕ) → reject_of reason ≡ taken p → BeginsLow p
  unfolding reject_of
  rejected reason = passing (reject_checks reason) (reject reason) (λ _. uncounted)

  logged-in : (user password session number : List ℕ) → login_of user password session number ≡ taken p → BeginsLow p
  unfolding login_of
  logged-in user password session number =
      passing (login_checks user password session number) (login user password session (value_of number)) (λ _. uncounted)

  by-its-type : (kind : ℕ) → by_type kind d ≡ taken p → Takes
  by-its-type kind =
      every-type (λ k. by_type k d ≡ taken p → Takes) kind
      (record {
        debug = line _ uncounted;
        accept = sized 32 _ (accepted _ _);
        reject = sized 3 _ (rejected _);
        sequenced = line _ message;
        server_heartbeat = sized 2 _ (bare _ uncounted);
        end_of_session = sized 2 _ (bare _ uncounted);
        login = sized 48 _ (logged-in _ _ _ _);
        unsequenced = line _ uncounted;
        client_heartbeat = sized 2 _ (bare _ uncounted);
        logout = sized 2 _ (bare _ uncounted);
      })
      (λ u. not-both (by_type kind d) UnknownType p (unknown-is-3 kind d u))

  module _ (e : read d ≡ taken p) where
    opened : Passed (opening d) × (by_type (get_or d 0 0) d ≡ taken p)
    unfolding read
    opened = all-passed (opening d) (by_type (get_or d 0 0) d) p e

    pub taken-line : Line d
    taken-line =
        let l = (by-its-type (get_or d 0 0) opened.1).lined in
        record { short = leb-true (length d) 4098 opened.0.1.0; ends = eqb-true (last d) 10 l.0; whole = l.1.0 }

    pub begins-low : (number : ℕ) → role_of p ≡ begins number → number < 2 ^ 64
    begins-low = (by-its-type (get_or d 0 0) opened.1).low
