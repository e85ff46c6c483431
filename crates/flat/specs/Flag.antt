-- A yes or no as a byte: 1 or 0. Another byte is refused as 10. `Flags`: what was laid flat is taken up again as it was.
-- Assumes nothing.
use Rattle.std.specs.Prelude.{ℕ, Bool, true, false}
use Rattle.wire.specs.Checks.{◌is◌, ◌at_most◌}

abbrev pub is_flag : ℕ → Bool
is_flag b = b at_most 1

-- what such a byte says
abbrev pub says : ℕ → Bool
says b = b is 1

abbrev pub byte_of : Bool → ℕ
byte_of true = 1
byte_of false = 0
