-- What a datagram reports to a record of a session, in either style.
-- Assumes nothing.
use Rattle.std.specs.Prelude.{ℕ, ◌+◌, ◌-◌, ◌^◌, ◌≤◌, ◌<◌, ◌≡◌, List, [], ◌∷◌, Bool, true, false, length, drop}
use Rattle.wire.specs.Checks.{◌is◌, Verdict, refused, taken, ◌else◌, checked, ◌into◌}
use Rattle.wire.specs.declared.refusal.Refusal.TheVariants.{OtherSession, NotForRecord}
use Rattle.blocks.specs.Blocks.{cut, messages_of, fills}
use Rattle.ufo.specs.Down as ufo
use Rattle.memx.specs.Packet as memx
use Rattle.memx.specs.Read as memx_read
use Rattle.record.specs.declared.Session.{Session}
use Rattle.record.specs.declared.Session.TheVariants.{Ufo, Memx}
use Rattle.reports.specs.declared.Reported.{Reported}
use Rattle.reports.specs.declared.Reported.TheVariants as reported

-- messages numbered from the first on, in a UFO heartbeat none; the highest number published; or the total at the end
pub data Report : Type 0 where
  messages : (first : ℕ) (ms : List (List ℕ)) → Report
  news : (highest : ℕ) → Report
  end : (total : ℕ) → Report

-- a packet's own top
abbrev pub top_of : Report → ℕ
top_of (messages first ms) = first + length ms - 1
top_of (news highest) = highest
top_of (end total) = total

abbrev pub is_end : Report → Bool
is_end (messages first ms) = false
is_end (news highest) = false
is_end (end total) = true

-- `A` and `J` are not for the record; `S` and `E` name no session, so that whatever comes is taken for the record's
abbrev pub of_ufo : ufo.Packet → Verdict Report
of_ufo (ufo.accept session next) = refused NotForRecord
of_ufo (ufo.reject reason) = refused NotForRecord
of_ufo (ufo.messages first ms) = taken (messages first ms)
of_ufo (ufo.end total) = taken (end total)

-- a MEMX packet names its session, and only the record's own is reported: Whose.reported-memx
abbrev pub owned : ℕ → ℕ → Report → Verdict Report
owned own session report = checked ((session is own else OtherSession) ∷ []) (taken report)

-- a shutdown is an end whose total is the highest number
abbrev pub of_memx : ℕ → memx.Packet → Verdict Report
of_memx own (memx.heartbeat session highest extra) = owned own session (news highest)
of_memx own (memx.shutdown session highest extra) = owned own session (end highest)
of_memx own (memx.messages session first extra ms) = owned own session (messages first ms)

-- Reports.sound: what is reported keeps the style's bounds; reports-ufo, reports-memx: a lawful packet, written, is reported as what it is
unfoldable pub report_of : Session → List ℕ → Verdict Report
report_of (Ufo name) d = ufo.read d into of_ufo
report_of (Memx id) d = memx_read.read d into of_memx id.0

-- where the blocks of messages begin: in MEMX style the datagram says it
abbrev pub blocks_at : Session → List ℕ → ℕ
blocks_at (Ufo name) d = 7
blocks_at (Memx id) d = memx_read.blocks_at d

-- the code's answer: of messages how many there are, and where their blocks begin
abbrev pub reported_of : ℕ → Report → Reported
reported_of place (messages first ms) = reported.Messages (record { 0 = first }) (length ms) place
reported_of place (news highest) = reported.News (record { 0 = highest })
reported_of place (end total) = reported.End (record { 0 = total })

-- count messages from number first on, whose blocks stand in d from p to its end
pub record Fills (d : List ℕ) (p first count : ℕ) : Type 0 where
  pub blocks : fills d p count ≡ true
  pub some : 1 ≤ first
  pub bound : first + count < 2 ^ 64

-- these messages
abbrev pub blocks_from : List ℕ → ℕ → ℕ → List (List ℕ)
blocks_from d p count = messages_of (cut count (drop p d))
