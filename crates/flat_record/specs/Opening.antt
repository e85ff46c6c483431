-- Opening a record.
-- Assumes nothing.
use Rattle.std.specs.Prelude.{ℕ, List, replicate}
use Rattle.wire.specs.Checks.{Verdict, refused, taken}
use Rattle.wire.specs.Refusals.{number_of}
use Rattle.names.specs.Names.{name_of}
use Rattle.record.specs.Record.{fresh, opening}
use Rattle.record.specs.declared.Session.TheVariants.{Memx}
use Rattle.record.specs.declared.Record.{Record}
use Rattle.flat_record.specs.Keeping.{flat_record}
use Rattle.flat_record.specs.declared.keeping.FlatRecord.{FlatRecord}
use Rattle.flat_record.specs.declared.opening.FlatOpened.{FlatOpened}

-- a session of a style, and no more
abbrev pub bare : ℕ → List ℕ → ℕ → FlatRecord
bare style name session = record { style = style; ended = 0; name = name; session = session; next = 0; top = 0; asked = 0; held = 0 }

abbrev no_name : List ℕ
no_name = replicate 10 0

-- on a refusal a record of zeros
abbrev pub flat_opened : FlatRecord → Verdict Record → FlatOpened
flat_opened given (refused why) = record { refusal = number_of why; opened = bare 0 no_name 0 }
flat_opened given (taken r) = record { refusal = 0; opened = flat_record given r }

-- the entries
abbrev pub open_ufo : List ℕ → FlatOpened
open_ufo name = flat_opened (bare 1 name 0) (opening (name_of name))

abbrev pub open_memx : ℕ → FlatOpened
open_memx session = flat_opened (bare 2 no_name session) (taken (fresh (Memx (record { 0 = session }))))
