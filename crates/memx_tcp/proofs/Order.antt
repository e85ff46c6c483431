-- The checks stand in the order of their numbers: 1, 2, 3, 4, 5, 6. There is no 7 and no 8.
-- Assumes nothing.
use Prim.Native.Nat.{ℕ}
use mathlib.Core.Path.{◌≡◌, refl}
use mathlib.Core.List.{List}
use mathlib.Core.Bool.{true}
use Rattle.wire.specs.Checks.{ordered}
use Rattle.memx_tcp.specs.Read.{checks}

pub ordered-checks : (d : List ℕ) → ordered (checks d) ≡ true
ordered-checks d = refl
