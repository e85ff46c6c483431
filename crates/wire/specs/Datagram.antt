-- A UFO datagram, whichever way it goes: at least a byte, at most 1,472.
-- Assumes nothing.
use Rattle.std.specs.Prelude.{ℕ, List, [], ◌∷◌, not, length}
use Rattle.wire.specs.Checks.{◌is◌, ◌at_most◌, Check, ◌else◌}
use Rattle.wire.specs.declared.refusal.Refusal.TheVariants.{Empty, Overlong}

-- the most bytes that a packet may have
abbrev pub limit : ℕ
limit = 1472

-- what is checked of any packet before its type
abbrev pub opening : List ℕ → List Check
opening d =
    (not (length d is 0) else Empty)
    ∷ (length d at_most limit else Overlong)
    ∷ []
