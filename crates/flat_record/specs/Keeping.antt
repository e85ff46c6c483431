-- Session records: what is taken, and how they stand.
-- Assumes nothing.
use Rattle.std.specs.Prelude.{ℕ, ◌≡◌, Option, None, Some, Bool, ◌&&◌, ◌||◌, List, [], ◌∷◌, if◌then◌else◌}
use Rattle.wire.specs.Checks.{◌is◌, Verdict, refused, taken, ◌else◌, checked, ◌into◌, ◌told_by◌}
use Rattle.wire.specs.Refusals.{number_of}
use Rattle.names.specs.Names.{name_of}
use Rattle.wire.specs.Reply.{left_of}
use Rattle.wire.specs.declared.refusal.Refusal.TheVariants.{Broken}
use Rattle.record.specs.Standing.{standing, standing_of, range_at}
use Rattle.taking.specs.Taking.{Taking, taking, taken_of, blocks_of, area_of}
use Rattle.record.specs.declared.Session.{Session}
use Rattle.record.specs.declared.Session.TheVariants.{Ufo, Memx}
use Rattle.record.specs.declared.Record.{Record}
use Rattle.taking.specs.declared.Taken.{Taken}
use Rattle.record.specs.declared.standing.Standing.{Standing}
use Rattle.record.specs.declared.standing.Standing.TheVariants as stands
use Rattle.missing.specs.declared.Range.{Range}
use Rattle.flat.specs.Flag.{is_flag, says, byte_of}
use Rattle.flat_record.specs.declared.keeping.FlatRecord.{FlatRecord}
use Rattle.flat_record.specs.declared.keeping.FlatTaken.{FlatTaken}
use Rattle.flat_record.specs.declared.keeping.FlatStanding.{FlatStanding}
use Rattle.flat_record.specs.declared.keeping.FlatRange.{FlatRange}

-- 1 is UFO, with the name; 2 is MEMX-UDP, with the session
abbrev pub session_of : FlatRecord → Session
session_of r = if r.style is 1 then Ufo (name_of r.name) else Memx (record { 0 = r.session })

-- the record that a flat one is
abbrev pub record_of : FlatRecord → Record
record_of r = record {
  session = session_of r;
  next = record { 0 = r.next };
  top = record { 0 = r.top };
  ended = says r.ended;
  asked = record { 0 = r.asked };
  held = r.held;
}

-- style 1 or 2, ended 0 or 1
abbrev pub readable : FlatRecord → Bool
readable r = (r.style is 1 || r.style is 2) && is_flag r.ended

abbrev pub known_record : FlatRecord → Verdict Record
known_record r = checked ((readable r else Broken) ∷ []) (taken (record_of r))

-- and back: style, name and session stay as they were given; FlatAndBack: taken up again it is the record that was laid flat
abbrev pub flat_record : FlatRecord → Record → FlatRecord
flat_record given r = record {
  style = given.style;
  ended = byte_of r.ended;
  name = given.name;
  session = given.session;
  next = r.next.0;
  top = r.top.0;
  asked = r.asked.0;
  held = r.held;
}

-- on a refusal the record that was given
abbrev pub flat_taken : FlatRecord → Verdict Taken → FlatTaken
flat_taken given (refused why) = record { refusal = number_of why; bytes = 0; messages = 0; after = given }
flat_taken given (taken t) =
    record { refusal = 0; bytes = t.bytes; messages = t.messages; after = flat_record given t.after }

-- the answer r, the bytes left in the output and the area left are those of the verdict
pub record FlatAnswered (v : Verdict Taking) (given : FlatRecord) (area out : List ℕ) (r : FlatTaken) (area_left left : List ℕ) : Type 0
  where
    pub answer : r ≡ flat_taken given (v told_by taken_of)
    pub bytes : left ≡ left_of (blocks_of v) out
    pub slots : area_left ≡ area_of v area

-- missing: how many ranges are; first to last is the first of them
abbrev pub flat_standing : Verdict Standing → FlatStanding
flat_standing (refused why) = record { refusal = number_of why; complete = 0; missing = 0; first = 0; last = 0 }
flat_standing (taken stands.Complete) = record { refusal = 0; complete = 1; missing = 0; first = 0; last = 0 }
flat_standing (taken stands.Ongoing) = record { refusal = 0; complete = 0; missing = 0; first = 0; last = 0 }
flat_standing (taken (stands.Missing ranges first)) =
    record { refusal = 0; complete = 0; missing = ranges; first = first.first.0; last = first.last.0 }

-- noughts where there is none
abbrev pub flat_range : Verdict (Option Range) → FlatRange
flat_range (refused why) = record { refusal = number_of why; first = 0; last = 0 }
flat_range (taken None) = record { refusal = 0; first = 0; last = 0 }
flat_range (taken (Some r)) = record { refusal = 0; first = r.first.0; last = r.last.0 }

-- the entries: a style or flag that is none is 10, before all else; what they say of a record: Complete.complete-exactly-if and
-- Ranges.one_by_one
abbrev pub take_verdict : FlatRecord → (area datagram : List ℕ) (room : ℕ) → Verdict Taking
take_verdict given area datagram room = known_record given into λ r. taking r area datagram room

abbrev pub standing_answer : FlatRecord → FlatStanding
standing_answer given = flat_standing (known_record given into standing told_by standing_of)

abbrev pub range_answer : FlatRecord → (place : ℕ) → FlatRange
range_answer given place = flat_range (known_record given into λ r. range_at r place)
