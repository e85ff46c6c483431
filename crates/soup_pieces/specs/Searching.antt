-- A part of a list, and the first place of a byte.
-- Assumes nothing.
use Rattle.std.specs.Prelude.{ℕ, zero, suc, Bool, true, false, List, [], ◌∷◌, take, drop, eqb}

-- from place i up to place j
unfoldable pub slice : ℕ → ℕ → List ℕ → List ℕ
slice i j s = drop i (take j s)

-- no place further if the byte is met, else one further than behind it
unfoldable pub index_after : Bool → ℕ → ℕ
index_after true n = zero
index_after false n = suc n

-- the first place of byte b, or the length where there is none
unfoldable pub index_of : ℕ → List ℕ → ℕ
index_of b [] = zero
index_of b (c ∷ s) = index_after (eqb c b) (index_of b s)
