-- A login without a user is refused as 6 in writing as in reading, whatever the room and however its number is spelt.
-- Assumes nothing.
use Prim.Native.Nat.{ℕ, ◌^◌, ◌<◌}
use mathlib.Core.Path.{◌≡◌}
use mathlib.Core.List.{List, ◌++◌}
use mathlib.Core.Bool.{true}
use lib.ListN.{length, replicate}
use Rattle.wire.specs.Checks.{refused}
use Rattle.wire.specs.declared.refusal.Refusal.TheVariants.{Absent}
use Rattle.decimal.specs.Decimal.{well_formed, written}
use Rattle.decimal.proofs.Written.{read-written, length-written}
use Rattle.soup.specs.Packet.{login, line, PaddedRight, PaddedLeft}
use Rattle.soup.proofs.Nameless.{nameless-line}
use Rattle.soup_write.specs.Writing.{sent, reply}

-- six spaces for the user
module _ (password session : List ℕ) (p : PaddedRight 10 password) (s : PaddedLeft 10 session) (room : ℕ) where
  pub nameless-not-sent : (number : List ℕ) → length number ≡ 20 → well_formed number ≡ true
      → sent (line 76 (replicate 6 32 ++ password ++ session ++ number)) room ≡ refused Absent
  nameless-not-sent number n f = rw (nameless-line password session number p s n f)

  -- as the writer spells it
  pub nameless-not-written : (number : ℕ) → number < 2 ^ 64 → reply (login (replicate 6 32) password session number) room ≡ refused Absent
  nameless-not-written number h = nameless-not-sent (written number) (length-written number) (read-written number h).formed
