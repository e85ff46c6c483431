-- Any bytes are read by one list of checks, and these stand in the readers' order: 1, 2, 3, 4, 8, 5, 6, 7.
-- Assumes nothing.
use Rattle.std.specs.Prelude.{if◌then◌else◌}
use Prim.Native.Nat.{ℕ}
use mathlib.Core.Path.{◌≡◌, refl, ap}
use mathlib.Core.List.{List, ◌∷◌, ◌++◌}
use mathlib.Core.Bool.{Bool, true, false, ◌||◌}
use lib.ListN.{get_or}
use Rattle.wire.specs.Checks.{◌is◌, refused, taken, Check, ◌else◌, checked, ordered}
use Rattle.wire.specs.Refusals.{number_of}
use Rattle.wire.specs.declared.refusal.Refusal.{Refusal}
use Rattle.wire.specs.declared.refusal.Refusal.TheVariants.{UnknownType}
use Rattle.wire.proofs.Numbered.{has-number}
use Rattle.decimal.specs.Decimal.{value_of}
use Rattle.soup.specs.Packet.{Packet, debug, accept, reject, sequenced, server_heartbeat, end_of_session, login, unsequenced}
use Rattle.soup.specs.Packet.{client_heartbeat, logout, carries}
use Rattle.soup.specs.Read.{field, payload, opening, line_checks, sized_checks, reject_checks, accept_checks, login_checks, reject_of}
use Rattle.soup.specs.Read.{accept_of, login_of, by_type, read}
use Rattle.soup.proofs.Types.{every-type}

-- one of the ten types: + S U, A J L, H Z R O
abbrev known : ℕ → Bool
known kind = carries kind || kind is 65 || kind is 74 || kind is 76 || kind is 72 || kind is 90 || kind is 82 || kind is 79

-- what is checked of each type
abbrev type_checks : ℕ → List ℕ → List Check
type_checks kind d =
    if carries kind then line_checks d
    else if kind is 65 then sized_checks 32 d ++ accept_checks (field 1 10 d) (field 11 20 d)
    else if kind is 74 then sized_checks 3 d ++ reject_checks (get_or d 1 0)
    else if kind is 76 then sized_checks 48 d ++ login_checks (field 1 6 d) (field 7 10 d) (field 17 10 d) (field 27 20 d)
    else sized_checks 2 d

-- all that is checked of a packet, in one list
abbrev from_type : ℕ → List ℕ → List Check
from_type kind d = (known kind else UnknownType) ∷ type_checks kind d

abbrev pub all_checks : List ℕ → List Check
all_checks d = opening d ++ from_type (get_or d 0 0) d

-- and the packet that is taken if none fails
abbrev pub packet_in : ℕ → List ℕ → Packet
packet_in kind d =
    if kind is 43 then debug (payload d)
    else if kind is 65 then accept (field 1 10 d) (value_of (field 11 20 d))
    else if kind is 74 then reject (get_or d 1 0)
    else if kind is 83 then sequenced (payload d)
    else if kind is 72 then server_heartbeat
    else if kind is 90 then end_of_session
    else if kind is 76 then login (field 1 6 d) (field 7 10 d) (field 17 10 d) (value_of (field 27 20 d))
    else if kind is 85 then unsequenced (payload d)
    else if kind is 82 then client_heartbeat
    else logout

module _ (d : List ℕ) where
  abbrev InOrder : ℕ → Type 0
  InOrder kind =
      let checks = opening d ++ from_type kind d in
      (by_type kind d ≡ checked (from_type kind d) (taken (packet_in kind d))) × (ordered checks ≡ true)

  in_order : InOrder (get_or d 0 0)
  unfolding reject_of accept_of login_of
  in_order =
      let kind = get_or d 0 0 in
      every-type InOrder kind
      (record {
        debug = (refl, refl);
        accept = (refl, refl);
        reject = (refl, refl);
        sequenced = (refl, refl);
        server_heartbeat = (refl, refl);
        end_of_session = (refl, refl);
        login = (refl, refl);
        unsequenced = (refl, refl);
        client_heartbeat = (refl, refl);
        logout = (refl, refl);
      })
      (λ u.
      rw (
        u.debug,
        u.accept,
        u.reject,
        u.sequenced,
        u.server_heartbeat,
        u.end_of_session,
        u.login,
        u.unsequenced,
        u.client_heartbeat,
        u.logout,
      ) (refl, refl))

  -- The reader is that list.
  pub read-by-checks : read d ≡ checked (all_checks d) (taken (packet_in (get_or d 0 0) d))
  unfolding read
  read-by-checks = ap (checked (opening d)) in_order.0

  -- Its numbers stand in the readers' order, and 0 is none of them.
  pub checks-in-order : ordered (all_checks d) ≡ true
  checks-in-order = in_order.1

  pub never-under-0 : (why : Refusal) → read d ≡ refused why → number_of why is 0 ≡ false
  never-under-0 why e = has-number why
