-- A packet and its spelling are read alike; the spelling is its own; so is a packet whose number isn't padded with noughts, and no other.
-- Assumes nothing.
use Prim.Native.Nat.{ℕ, ◌^◌, ◌<◌}
use mathlib.Core.Path.{◌≡◌, refl, sym, ◌∙◌}
use mathlib.Core.List.{List, [], ◌∷◌, ◌++◌}
use mathlib.Core.Bool.{false}
use native.Mathlib.Omega.{arith}
use lib.ListN.{length, length-append}
use Rattle.wire.specs.Fields.{Bytes}
use Rattle.wire.specs.Checks.{taken}
use Rattle.decimal.specs.Decimal.{written, leading_zero}
use Rattle.decimal.proofs.Written.{read-written, length-written}
use Rattle.soup.specs.Packet.{Packet, debug, accept, reject, sequenced, server_heartbeat, end_of_session, login, unsequenced}
use Rattle.soup.specs.Packet.{client_heartbeat, logout, write, Fit}
use Rattle.soup.specs.Read.{field, read}
use Rattle.soup.specs.Spelling.{spelt_anew, spelling, padded}
use Rattle.soup.proofs.SpeltAnew.{found, anew}
use Rattle.soup.proofs.Exact.{written-is-read, read-is-written}

-- ---- what we write

-- a number in its line
spelt-there : (before : List ℕ) (number place : ℕ) → length before ≡ place → number < 2 ^ 64
    → let d = before ++ written number ++ 10 ∷ [] in (spelt_anew d place ≡ d) × (leading_zero (field place 20 d) ≡ false)
spelt-there before number place b h =
    let w = written number in
    let r = read-written number h in
    let l = length-written number in
    (anew before w (10 ∷ []) place b l ∙ rw r.value, rw (found before w (10 ∷ []) place b l) r.unpadded)

-- What is written is its own spelling, and its number isn't padded with noughts.
pub written-is-spelt : (p : Packet) → Fit p → (spelling (write p) ≡ write p) × (padded (write p) ≡ false)
unfolding Fit spelling padded
written-is-spelt (debug text) f = (refl, refl)
written-is-spelt (accept session number) f = spelt-there (65 ∷ session) number 11 (omega arith) f.3
written-is-spelt (reject reason) f = (refl, refl)
written-is-spelt (sequenced message) f = (refl, refl)
written-is-spelt server_heartbeat f = (refl, refl)
written-is-spelt end_of_session f = (refl, refl)
written-is-spelt (login user password session number) f =
    spelt-there (76 ∷ (user ++ password ++ session)) number 27 (simp length-append (omega arith)) f.3
written-is-spelt (unsequenced message) f = (refl, refl)
written-is-spelt client_heartbeat f = (refl, refl)
written-is-spelt logout f = (refl, refl)

-- ---- what was read

module _ (d : List ℕ) (p : Packet) (b : Bytes d) (e : read d ≡ taken p) where
  -- Reading the spelling gives the same packet.
  pub read_alike : read (spelling d) ≡ taken p
  read_alike = let l = read-is-written d p b e in rw (← l.1) (written-is-read p l.0)

  -- The spelling of a spelling is itself.
  pub spelt-once : spelling (spelling d) ≡ spelling d
  spelt-once = let l = read-is-written d p b e in rw (← l.1) (written-is-spelt p l.0).0

  -- A packet whose number isn't padded with noughts is its own spelling, and no other is.
  pub own-spelling : padded d ≡ false → spelling d ≡ d
  own-spelling u = let l = read-is-written d p b e in sym l.1 ∙ l.2 u

  pub own-unpadded : spelling d ≡ d → padded d ≡ false
  own-unpadded s = let l = read-is-written d p b e in rw (l.1, s) at (written-is-spelt p l.0).1
