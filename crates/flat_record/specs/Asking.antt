-- Asking for what is missing.
-- Assumes nothing.
use Rattle.std.specs.Prelude.{Float}
use Rattle.wire.specs.Checks.{Verdict, refused, taken, ◌into◌, ◌told_by◌}
use Rattle.wire.specs.Refusals.{number_of}
use Rattle.asking.specs.Asking.{Wish, asking, asked_of}
use Rattle.asking.specs.declared.Asked.{Asked}
use Rattle.asking.specs.declared.Asked.TheVariants.{Nothing, Wait, Request}
use Rattle.flat_clock.specs.Waiting.{known_sheet, rule_of}
use Rattle.flat_clock.specs.declared.FlatPatience.{FlatPatience}
use Rattle.flat_clock.specs.declared.FlatSheet.{FlatSheet}
use Rattle.flat_record.specs.Keeping.{known_record, flat_record}
use Rattle.flat_record.specs.declared.keeping.FlatRecord.{FlatRecord}
use Rattle.flat_record.specs.declared.requesting.FlatAsked.{FlatAsked}

-- 0 nothing, 1 wait, 2 request; the record is the one that was given but where a request is made
abbrev pub flat_asked : FlatRecord → Verdict Asked → FlatAsked
flat_asked given (refused why) = record { refusal = number_of why; what = 0; first = 0; count = 0; after = given }
flat_asked given (taken Nothing) = record { refusal = 0; what = 0; first = 0; count = 0; after = given }
flat_asked given (taken Wait) = record { refusal = 0; what = 1; first = 0; count = 0; after = given }
flat_asked given (taken (Request first count after)) =
    record { refusal = 0; what = 2; first = first.0; count = count; after = flat_record given after }

-- a style or flag that is none is 10, before all else
abbrev pub ask_verdict : FlatRecord → FlatSheet → FlatPatience → Float → Verdict Wish
ask_verdict given sheet patience elapsed =
    known_record given into λ r. known_sheet sheet into λ s. asking r s (rule_of patience) elapsed

-- the entry
abbrev pub ask_answer : FlatRecord → FlatSheet → FlatPatience → Float → FlatAsked
ask_answer given sheet patience elapsed = flat_asked given (ask_verdict given sheet patience elapsed told_by asked_of)
