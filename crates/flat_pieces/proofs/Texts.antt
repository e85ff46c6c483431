-- The texts of a packet that the reader takes stand in it as they are.
-- Assumes nothing.
use Prim.Native.Nat.{ℕ, ◌≤◌}
use mathlib.Core.Path.{◌≡◌, sym, ◌∙◌}
use mathlib.Core.List.{List}
use native.Mathlib.Omega.{arith}
use lib.ListN.{length, get_or, take, drop}
use Rattle.wire.specs.Checks.{taken, ◌told_by◌}
use Rattle.wire.proofs.Checks.{told}
use Rattle.wire.specs.Fields.{Bytes}
use Rattle.names.specs.Names.{name_bytes, user_bytes}
use Rattle.soup.specs.Packet.{Packet, debug, accept, reject, sequenced, server_heartbeat, end_of_session, login, unsequenced}
use Rattle.soup.specs.Packet.{client_heartbeat}
use Rattle.soup.specs.Packet.{logout, write, Fit}
use Rattle.soup.specs.Read.{read}
use Rattle.soup.specs.Reading.{packet_of}
use Rattle.soup.specs.declared.reading.Reading.{Reading}
use Rattle.soup.specs.declared.reading.Reading.TheVariants as says
use Rattle.soup.proofs.Fields.{accept-read, login-read}
use Rattle.soup.proofs.SpeltAnew.{same-type}
use Rattle.soup.proofs.Exact.{read-is-written}
use Rattle.flat_packet.proofs.Round.{padded-right-text, padded-left-text, same_name, same-user}

-- where they stand, in a packet that is long enough
abbrev pub Stand : List ℕ → Reading → Type 0
Stand d (says.Debug start size) = Unit
Stand d (says.Accept session number) = (32 ≤ length d) × (name_bytes session ≡ take 10 (drop 1 d))
Stand d (says.Reject reason) = Unit
Stand d (says.Sequenced start size) = Unit
Stand d says.ServerHeartbeat = Unit
Stand d says.EndOfSession = Unit
Stand d (says.Login user password session number) =
    (48 ≤ length d)
    × (user_bytes user ≡ take 6 (drop 1 d))
    × (name_bytes password.0 ≡ take 10 (drop 7 d))
    × (name_bytes session ≡ take 10 (drop 17 d))
Stand d (says.Unsequenced start size) = Unit
Stand d says.ClientHeartbeat = Unit
Stand d says.Logout = Unit

module _ (d : List ℕ) where
  stand : (p : Packet) → Fit p → read d ≡ taken p → get_or d 0 0 ≡ get_or (write p) 0 0 → Stand d (packet_of p)
  unfolding Fit
  stand (debug text) f e k = tt
  stand (accept session number) f e k =
      let a = accept-read d (accept session number) k e in
      (omega (arith, a.size), same_name session (padded-left-text 10 session f.0) ∙ (let s = a.same in cc))
  stand (reject reason) f e k = tt
  stand (sequenced message) f e k = tt
  stand server_heartbeat f e k = tt
  stand end_of_session f e k = tt
  stand (login user password session number) f e k =
      let a = login-read d (login user password session number) k e in
      let s = a.same in (
        omega (arith, a.size),
        same-user user (padded-right-text 6 user f.0) ∙ cc,
        same_name password (padded-right-text 10 password f.1) ∙ cc,
        same_name session (padded-left-text 10 session f.2) ∙ cc,
      )
  stand (unsequenced message) f e k = tt
  stand client_heartbeat f e k = tt
  stand logout f e k = tt

  pub texts : (said x : Reading) → read d told_by packet_of ≡ taken said → Bytes d → said ≡ x → Stand d x
  texts said x e b k =
      let t = told (read d) packet_of said e in
      let r = read-is-written d t.by b t.was in
      rw (← k, ← t.gave) (stand t.by r.0 t.was (rw r.1 (sym (same-type d))))
