-- No refusal has the number 0, under which the face says that nothing was refused.
-- Assumes nothing.
use mathlib.Core.Path.{◌≡◌, refl}
use mathlib.Core.Bool.{false}
use Rattle.wire.specs.Checks.{◌is◌}
use Rattle.wire.specs.Refusals.{number_of}
use Rattle.wire.specs.declared.refusal.Refusal.{Refusal}
use Rattle.wire.specs.declared.refusal.Refusal.TheVariants as refusal

pub has-number : (why : Refusal) → number_of why is 0 ≡ false
has-number refusal.Empty = refl
has-number refusal.Overlong = refl
has-number refusal.UnknownType = refl
has-number refusal.Framing = refl
has-number refusal.Form = refl
has-number refusal.Absent = refl
has-number refusal.Bound = refl
has-number refusal.Linefeed = refl
has-number refusal.Room = refl
has-number refusal.Broken = refl
has-number refusal.OtherSession = refl
has-number refusal.Contradiction = refl
has-number refusal.AfterEnd = refl
has-number refusal.Clock = refl
has-number refusal.Range = refl
has-number refusal.NotForRecord = refl
