-- A letter is a number of one byte.
-- Assumes nothing.
use Prim.Native.Nat.{ℕ, ◌/◌, ◌%◌, ◌<◌}
use mathlib.Core.Path.{◌≡◌, ap}
use mathlib.Core.List.{List, [], ◌∷◌}
use native.Mathlib.Omega.{arith}
use lib.ListN.{get_or, drop}
use lib.Seq.{get_or-drop}
use Rattle.wire.specs.Fields.{be, bytes_of}

pub letter_read : (s : List ℕ) → be 1 (drop 3 s) ≡ get_or s 3 0
unfolding be
letter_read s = rw (get_or-drop 3 s 0) (omega arith)

pub letter_laid : (l : ℕ) → l < 256 → bytes_of 1 l ≡ l ∷ []
unfolding bytes_of
letter_laid l h = let e : l / 1 % 256 ≡ l = omega arith in ap (λ (x : ℕ). x ∷ []) e
