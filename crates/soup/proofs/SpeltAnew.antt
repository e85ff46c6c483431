-- A number spelt anew in its packet, between what stands before it and what stands behind it; a packet that has none is its own spelling.
-- Assumes nothing.
use Prim.Native.Nat.{ℕ, ◌+◌}
use mathlib.Core.Path.{◌≡◌, refl}
use mathlib.Core.List.{List, [], ◌∷◌, ◌++◌, append_assoc}
use mathlib.Core.Bool.{false}
use native.Mathlib.Omega.{arith}
use lib.Dec.{eqb}
use lib.ListN.{length, get_or, length-append}
use lib.Seq.{take_at, drop_at}
use Rattle.wire.specs.Checks.{◌is◌}
use Rattle.wire.proofs.Tests.{by-test}
use Rattle.decimal.specs.Decimal.{value_of, written}
use Rattle.soup.specs.Read.{field}
use Rattle.soup.specs.Spelling.{spelt_anew, spelling}

module _ (before number behind : List ℕ) (place : ℕ) (b : length before ≡ place) (n : length number ≡ 20) where
  pub found : field place 20 (before ++ number ++ behind) ≡ number
  found = rw (append_assoc before number behind, drop_at before (number ++ behind) place b) (take_at number behind 20 n)

  pub anew : spelt_anew (before ++ number ++ behind) place ≡ before ++ written (value_of number) ++ behind
  unfolding spelt_anew
  anew =
      let past : length (before ++ number) ≡ place + 20 = simp length-append (omega arith) in
      rw (
        found,
        drop_at (before ++ number) behind (place + 20) past,
        append_assoc before number behind,
        take_at before (number ++ behind) place b,
      )

-- a packet of another type than A and L
pub unspelt : (d : List ℕ) (kind : ℕ) → get_or d 0 0 ≡ kind → eqb kind 65 ≡ false → eqb kind 76 ≡ false → spelling d ≡ d
unfolding spelling
unspelt d kind k a l = rw (k, a, l)

-- its type stays
pub same-type : (d : List ℕ) → get_or (spelling d) 0 0 ≡ get_or d 0 0
unfolding spelling spelt_anew
same-type [] = refl
same-type (b ∷ s) = by-test (b is 65) (λ t. rw t) (λ t. by-test (b is 76) (λ u. rw (t, u)) (λ u. rw (t, u)))
