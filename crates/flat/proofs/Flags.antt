-- A yes or no laid flat is a flag, and says the same.
-- Assumes nothing.
use mathlib.Core.Path.{◌≡◌, refl}
use mathlib.Core.Bool.{Bool, true, false}
use Rattle.flat.specs.Flag.{is_flag, says, byte_of}

pub flag-again : (b : Bool) → is_flag (byte_of b) ≡ true
flag-again true = refl
flag-again false = refl

pub says-again : (b : Bool) → says (byte_of b) ≡ b
says-again true = refl
says-again false = refl
