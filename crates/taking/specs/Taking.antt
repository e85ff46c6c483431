-- What the record makes of a report, and of a datagram.
-- Assumes nothing.
use Rattle.std.specs.Prelude.{ℕ, ◌+◌, ◌-◌, max, ◌≡◌, List, [], ◌∷◌, ◌++◌, Bool, not, ◌&&◌, ◌||◌, length, drop, if◌then◌else◌}
use Rattle.wire.specs.Checks.{◌at_most◌, Verdict, refused, taken, Check, ◌else◌, checked, ◌into◌, ◌told_by◌}
use Rattle.wire.specs.Reply.{Reply, left_of}
use Rattle.wire.specs.declared.refusal.Refusal.TheVariants.{Room, Broken, Contradiction}
use Rattle.blocks.specs.Blocks.{frames}
use Rattle.held.specs.Slots.{freed_from}
use Rattle.held.specs.Hanging.{sound}
use Rattle.held.specs.Holding.{Holding, hold_all}
use Rattle.held.specs.Releasing.{released}
use Rattle.record.specs.Record.{hangs}
use Rattle.reports.specs.Reports.{Report, messages, news, end, top_of, is_end, report_of}
use Rattle.record.specs.declared.Record.{Record}
use Rattle.taking.specs.declared.Taken.{Taken}

-- the record is ended and the top exceeds T, or the packet is an end whose total is below T
abbrev pub clash : Record → ℕ → Bool → Bool
clash r top final = r.ended && not (top at_most r.top.0) || final && not (r.top.0 at_most top)

abbrev pub contradicts : Record → Report → Bool
contradicts r report = clash r (top_of report) (is_end report)

-- where the first number is at most N and the last at least N: the packet's own messages from N on; Numbered.others-deliver-nothing
abbrev pub own : ℕ → Report → List (List ℕ)
own next (messages first ms) =
    if first at_most next && next at_most top_of (messages first ms) then drop (next - first) ms else []
own next (news highest) = []
own next (end total) = []

-- its own messages go out, and their slots fall free; then what is held from there on; Numbered.delivers-by-number: each by its number
abbrev pub delivered : Record → List ℕ → Report → List (List ℕ)
delivered r area report =
    let ms = own r.next.0 report in
    ms ++ released (freed_from (length ms) r.held r.next.0) area (r.next.0 + length ms)

-- messages that come early are held; Numbered.holds-by-number: each by its number
abbrev pub holding_early : ℕ → Holding → Report → Holding
holding_early next h (messages first ms) = if first at_most next then h else hold_all next h first ms
holding_early next h (news highest) = h
holding_early next h (end total) = h

-- the slots of all that goes out fall free, and keep their bytes; Growing.never-forgets: nothing else is forgotten
abbrev pub freed_by : Record → List ℕ → Report → Holding
freed_by r area report = record {
  held = freed_from (length (delivered r area report)) r.held r.next.0;
  area = area;
}

abbrev pub holding : Record → List ℕ → Report → Holding
holding r area report = holding_early r.next.0 (freed_by r area report) report

-- T becomes the larger of the two, and an end marks the record ended; Growing.never-falls: neither goes back
abbrev pub told : Record → (next held top : ℕ) → Bool → Record
told r next held top final = record {
  session = r.session;
  next = record { 0 = next };
  top = record { 0 = max r.top.0 top };
  ended = r.ended || final;
  asked = r.asked;
  held = held;
}

abbrev pub after : Record → List ℕ → Report → Record
after r area report =
    told r (r.next.0 + length (delivered r area report)) (holding r area report).held (top_of report) (is_end report)

-- what is delivered, and the record and the area afterwards
pub record Taking : Type 0 where
  pub delivered : List (List ℕ)
  pub after : Record
  pub area : List ℕ

abbrev pub outcome : Record → List ℕ → Report → Taking
outcome r area report = record {
  delivered = delivered r area report;
  after = after r area report;
  area = (holding r area report).area;
}

abbrev pub report_checks : Record → List ℕ → ℕ → Report → List Check
report_checks r area room report =
    (not (contradicts r report) else Contradiction)
    ∷ (length (frames (delivered r area report)) at_most room else Room)
    ∷ []

unfoldable pub reporting : Record → List ℕ → ℕ → Report → Verdict Taking
reporting r area room report = checked (report_checks r area room report) (taken (outcome r area report))

-- a record and an area that don't hang together
abbrev pub broken : Record → List ℕ → List Check
broken r area = (hangs r else Broken) ∷ (sound r.held area else Broken) ∷ []

-- the order of refusals: 10; the reader's; 16; 11; 12; 9: Order; Kept.taking-hangs, taking-sound: what is left hangs together
unfoldable pub taking : Record → List ℕ → List ℕ → ℕ → Verdict Taking
taking r area d room = checked (broken r area) (report_of r.session d into reporting r area room)

-- the answer: how many bytes and messages are delivered, and the record afterwards
abbrev pub taken_of : Taking → Taken
taken_of t = record { bytes = length (frames t.delivered); messages = length t.delivered; after = t.after }

-- what goes into the lent output: the messages' blocks
abbrev pub blocks_of : Verdict Taking → Reply
blocks_of v = v into λ t. taken (frames t.delivered)

-- the area afterwards
abbrev pub area_of : Verdict Taking → List ℕ → List ℕ
area_of (refused n) area = area
area_of (taken t) area = t.area

-- the answer r, the bytes left in the output and the area left are those of the verdict
pub record Answered (verdict : Verdict Taking) (area out : List ℕ) (r : Verdict Taken) (area_left left : List ℕ) : Type 0 where
  pub answer : r ≡ verdict told_by taken_of
  pub bytes : left ≡ left_of (blocks_of verdict) out
  pub slots : area_left ≡ area_of verdict area
