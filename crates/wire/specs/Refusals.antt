-- The numbers under which the desk refuses.
-- Assumes nothing.
use Rattle.std.specs.Prelude.{ℕ}
use Rattle.wire.specs.declared.refusal.Refusal.{Refusal}
use Rattle.wire.specs.declared.refusal.Refusal.TheVariants.{Empty, Overlong, UnknownType, Framing, Form, Absent, Bound, Linefeed, Room}
use Rattle.wire.specs.declared.refusal.Refusal.TheVariants.{Broken, OtherSession, Contradiction, AfterEnd, Clock, Range, NotForRecord}

abbrev pub number_of : Refusal → ℕ
number_of Empty = 1
number_of Overlong = 2
number_of UnknownType = 3
number_of Framing = 4
number_of Form = 5
number_of Absent = 6
number_of Bound = 7
number_of Linefeed = 8
number_of Room = 9
number_of Broken = 10
number_of OtherSession = 11
number_of Contradiction = 12
number_of AfterEnd = 13
number_of Clock = 14
number_of Range = 15
number_of NotForRecord = 16
