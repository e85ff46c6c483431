-- The line sheet, and what a timed answer makes of it.
-- Assumes nothing.
use Rattle.std.specs.Prelude.{[], ◌∷◌, Bool, true, ◌&&◌, Float, if◌then◌else◌}
use Rattle.std.specs.Float.{binary64}
use Rattle.std.specs.Float.Ieee.{add, sub, mul, div, neg, lt}
use Rattle.wire.specs.Checks.{Verdict, taken, ◌else◌, checked}
use Rattle.wire.specs.declared.refusal.Refusal.TheVariants.{Broken, Range}
use Rattle.clock.specs.Milliseconds.{decimal, whole, lawful}
use Rattle.clock.specs.declared.sheet.Sheet.{Sheet}

-- it hangs together; an untimed sheet's numbers don't matter. A sheet that does so still does after any lawful sample (`Sound.stays-sound`)
abbrev pub sound : Sheet → Bool
sound s = if s.timed then lawful s.mean && lawful s.spread else true

-- a weight times a, plus another times b: each operation rounds once
abbrev pub weighed : Float → Float → Float → Float → Float
weighed v a w b = add binary64 (mul binary64 v a) (mul binary64 w b)

-- the mean minus the sample, negated if below zero
abbrev pub apart : Float → Float → Float
apart mean r = let d = sub binary64 mean r in if lt d (whole 0) then neg d else d

-- RFC 6298: the sheet after a sample of r milliseconds; `Specimen.samples` works out the scope's three
unfoldable pub smoothed : Sheet → Float → Sheet
smoothed s r =
    if s.timed
    then record {
      mean = weighed (decimal 875 1000) s.mean (decimal 125 1000) r;
      spread = weighed (decimal 75 100) s.spread (decimal 25 100) (apart s.mean r);
      timed = true;
    }
    else record { mean = r; spread = div binary64 r (whole 2); timed = true }

abbrev pub timing : Sheet → Float → Verdict Sheet
timing s r = checked ((sound s else Broken) ∷ (lawful r else Range) ∷ []) (taken (smoothed s r))
