-- A C program at both ends of the line, over hinurapay.h: what it holds, what its calls leave it with, as it reads their answers, and
-- which state of `session` that is; Claims shows that whatever it does is what `session` does.
-- Assumes nothing.
use Rattle.std.specs.Prelude.{ℕ, zero, suc, ◌^◌, ◌%◌, ◌≡◌, List, [], ◌∷◌, ◌++◌, cond, Float, length, take, drop, if◌then◌else◌}
use Rattle.wire.specs.Refusals.{number_of}
use Rattle.wire.specs.Fields.{Bytes}
use Rattle.wire.specs.Checks.{◌is◌, Verdict, refused, taken}
use Rattle.names.specs.Names.{name_bytes}
use Rattle.missing.specs.Missing.{◌at◌}
use Rattle.missing.specs.declared.Range.{Range}
use Rattle.record.specs.Standing.{State as Standing, complete, ongoing, missing}
use Rattle.record.specs.declared.Record.{Record}
use Rattle.session.specs.Session.{◌among◌, State, Act, adds, adds_many, declares, beats, ends, answers, accepts, rejects, serves, takes}
use Rattle.session.specs.Session.{asks, says}
use Rattle.flat.specs.declared.wrote.Wrote.{Wrote}
use Rattle.flat_clock.specs.Waiting.{known_sheet, rule_of}
use Rattle.flat_clock.specs.declared.FlatPatience.{FlatPatience}
use Rattle.flat_clock.specs.declared.FlatSheet.{FlatSheet}
use Rattle.flat_log.specs.Lending.{known_log}
use Rattle.flat_log.specs.declared.FlatLog.{FlatLog}
use Rattle.flat_log.specs.declared.FlatLogged.{FlatLogged}
use Rattle.flat_packet.specs.declared.Packet.{Packet}
use Rattle.flat_record.specs.Keeping.{known_record}
use Rattle.flat_record.specs.declared.keeping.FlatRange.{FlatRange}
use Rattle.flat_record.specs.declared.keeping.FlatRecord.{FlatRecord}
use Rattle.flat_record.specs.declared.keeping.FlatStanding.{FlatStanding}
use Rattle.flat_record.specs.declared.keeping.FlatTaken.{FlatTaken}
use Rattle.flat_record.specs.declared.opening.FlatOpened.{FlatOpened}
use Rattle.flat_record.specs.declared.requesting.FlatAsked.{FlatAsked}
use Rattle.flat_session.specs.Header.{hp-log-add, hp-log-add-many, hp-log-declare-end, hp-log-heartbeat, hp-log-end-packet}
use Rattle.flat_session.specs.Header.{hp-log-answer, hp-ufo-write-down, hp-ufo-write-message, hp-ufo-read-up, hp-ufo-read-message}
use Rattle.flat_session.specs.Header.{hp-next-block, hp-open-ufo, hp-take, hp-ask}

-- the server's hp_log and the bytes lent to it; the recorder's hp_record, its held area, and the messages that it has delivered; and
-- every datagram ever sent, server to recorder and back
pub record Held : Type 0 where
  pub log : FlatLog
  pub lent : List ℕ
  pub kept : FlatRecord
  pub area : List ℕ
  pub deliveries : List (List ℕ)
  pub down : List (List ℕ)
  pub up : List (List ℕ)

-- that is the state s: the header takes the log and the record, as those of s, and all else is the same
pub record Holds (h : Held) (s : State) : Type 0 where
  pub log : known_log h.log ≡ taken s.log
  pub lent : h.lent ≡ s.lent
  pub kept : known_record h.kept ≡ taken s.kept
  pub area : h.area ≡ s.area
  pub deliveries : h.deliveries ≡ s.deliveries
  pub down : h.down ≡ s.down
  pub up : h.up ≡ s.up

-- or it is some state of which this is true
abbrev pub HoldsSome : (State → Type 0) → Held → Type 0
HoldsSome Claim h = (s : State) × Holds h s × Claim s

-- the log in the answer, a refusal or not, and the bytes lent to it as they are now
abbrev pub with_log : Held → FlatLogged → List ℕ → Held
with_log h x left =
    record { log = x.log; lent = left; kept = h.kept; area = h.area; deliveries = h.deliveries; down = h.down; up = h.up }

-- the record in the answer, a refusal or not, the held area as it is now, and what is delivered
abbrev pub with_taken : Held → FlatTaken → (area : List ℕ) → (delivered : List (List ℕ)) → Held
with_taken h x area delivered = record {
  log = h.log;
  lent = h.lent;
  kept = x.after;
  area = area;
  deliveries = h.deliveries ++ delivered;
  down = h.down;
  up = h.up;
}

-- the datagram at the output's start, unless the answer is a refusal
abbrev pub written : Wrote → List ℕ → List (List ℕ)
written x left = if x.refusal is 0 then take x.bytes left ∷ [] else []

-- more on the line, from the server; from the recorder, and its record
abbrev pub sending : Held → List (List ℕ) → Held
sending h datagrams = record {
  log = h.log;
  lent = h.lent;
  kept = h.kept;
  area = h.area;
  deliveries = h.deliveries;
  down = h.down ++ datagrams;
  up = h.up;
}

abbrev pub saying : Held → FlatRecord → List (List ℕ) → Held
saying h kept datagrams = record {
  log = h.log;
  lent = h.lent;
  kept = kept;
  area = h.area;
  deliveries = h.deliveries;
  down = h.down;
  up = h.up ++ datagrams;
}

-- Here what is left depends on what is delivered, or goes out. As many messages as the answer says are delivered, each block at the place
-- after the one before it.
abbrev pub LeavesVisited : List ℕ → ℕ → ℕ → (List (List ℕ) → Type 0) → Type 0
LeavesVisited blocks zero place left = left []
LeavesVisited blocks (suc messages) place left =
    hp-next-block blocks place
    (λ x. LeavesVisited blocks messages x.next (λ more. left (take x.length (drop x.start blocks) ∷ more)))

-- The recorder is handed a datagram: the answer, and what the program holds then.
abbrev pub LeavesTaken : Held → (datagram : List ℕ) (room : ℕ) → (FlatTaken → Held → Type 0) → Type 0
LeavesTaken h datagram room left =
    hp-take h.kept h.area datagram room
    (λ x area out. LeavesVisited (take x.bytes out) x.messages 0 (λ delivered. left x (with_taken h x area delivered)))

-- A request that is to be made is written, its count as a uint16_t, and what was written goes out.
abbrev pub LeavesRequested : ℕ → FlatAsked → (List (List ℕ) → Type 0) → Type 0
LeavesRequested room x left =
    cond (x.what is 2)
    ((fields : Packet) → fields.kind ≡ 84 → fields.number ≡ x.first → fields.count ≡ x.count % 2 ^ 16
    → hp-ufo-write-message fields [] room (λ y out. left (written y out)))
    (left [])

-- The recorder asks: the answer, and what the program holds then.
abbrev pub LeavesAsked : Held → FlatSheet → FlatPatience → (elapsed : Float) (room : ℕ) → (FlatAsked → Held → Type 0) → Type 0
LeavesAsked h sheet patience elapsed room left =
    hp-ask h.kept sheet patience elapsed (λ x. LeavesRequested room x (λ said. left x (saying h x.after said)))

-- a server answers a request, and what was written goes out
abbrev pub LeavesAnswered : Held → (room first count : ℕ) → (List (List ℕ) → Type 0) → Type 0
LeavesAnswered h room first count left = hp-log-answer h.log h.lent first count room (λ x out. left (written x out))

-- A server that is handed a datagram reads how many messages it has, then message by message, each at the place after the one before
-- it, and answers each request, its number as a uint32_t, before it reads `on`.
abbrev pub LeavesMessage : Held → ℕ → Packet → (ℕ → (List (List ℕ) → Type 0) → Type 0) → (List (List ℕ) → Type 0) → Type 0
LeavesMessage h room m on left =
    cond (m.kind is 84)
    (LeavesAnswered h room (m.number % 2 ^ 32) m.count (λ answer. on m.next (λ answers. left (answer ++ answers))))
    (on m.next left)

abbrev pub LeavesEach : Held → ℕ → List ℕ → ℕ → ℕ → (List (List ℕ) → Type 0) → Type 0
LeavesEach h room datagram zero place left = left []
LeavesEach h room datagram (suc count) place left =
    hp-ufo-read-message datagram place (λ x. LeavesMessage h room x.packet (LeavesEach h room datagram count) left)

-- The program takes a step of `session` by calling these functions: whatever outcome their contracts allow, it is left with what `left`
-- says. What is added is bytes, and only what was sent arrives.
abbrev pub LeavesStep : Held → Act → (Held → Type 0) → Type 0
LeavesStep h (adds message) left =
    Bytes message → hp-log-add h.log h.lent message (λ x lent. left (with_log h x lent))
LeavesStep h (adds_many blocks) left =
    Bytes blocks → hp-log-add-many h.log h.lent blocks (λ x lent. left (with_log h x lent))
LeavesStep h declares left = hp-log-declare-end h.log h.lent (λ x. left (with_log h x h.lent))
LeavesStep h (beats room) left = hp-log-heartbeat h.log h.lent room (λ x out. left (sending h (written x out)))
LeavesStep h (ends room) left = hp-log-end-packet h.log h.lent room (λ x out. left (sending h (written x out)))
LeavesStep h (answers first count room) left = LeavesAnswered h room first count (λ answer. left (sending h answer))
LeavesStep h (accepts session next room) left =
    (fields : Packet) → fields.kind ≡ 65 → fields.name ≡ name_bytes session → fields.number ≡ next
    → hp-ufo-write-down fields [] room (λ x out. left (sending h (written x out)))
LeavesStep h (rejects reason room) left =
    (fields : Packet) → fields.kind ≡ 74 → fields.reason ≡ reason
    → hp-ufo-write-down fields [] room (λ x out. left (sending h (written x out)))
LeavesStep h (serves datagram room) left =
    Bytes datagram → datagram among h.up
    → hp-ufo-read-up datagram (λ x. LeavesEach h room datagram x.packet.count 0 (λ answers. left (sending h answers)))
LeavesStep h (takes datagram room) left = datagram among h.down → LeavesTaken h datagram room (λ x g. left g)
LeavesStep h (asks sheet rule elapsed room) left =
    (timed : FlatSheet) (patience : FlatPatience) → known_sheet timed ≡ taken sheet → rule_of patience ≡ rule
    → LeavesAsked h timed patience elapsed room (λ x g. left g)
LeavesStep h (says datagram) left = left (saying h h.kept (datagram ∷ []))

-- n steps, whatever they are
abbrev pub LeavesSteps : ℕ → Held → (Held → Type 0) → Type 0
LeavesSteps zero h left = left h
LeavesSteps (suc n) h left = (act : Act) → LeavesStep h act (λ g. LeavesSteps n g left)

-- a log of zeros in lent bytes, a record with a held area, and nothing on the line
abbrev pub begin : (lent area : List ℕ) → FlatRecord → Held
begin lent area kept = record {
  log = record { count = 0; used = 0; ended = 0 };
  lent = lent;
  kept = kept;
  area = area;
  deliveries = [];
  down = [];
  up = [];
}

-- the program opens a record and, unless the answer is a refusal, begins with it
abbrev pub LeavesOpened : (name lent area : List ℕ) → (Held → Type 0) → Type 0
LeavesOpened name lent area left = hp-open-ufo name (λ x. x.refusal ≡ 0 → left (begin lent area x.opened))

-- What the other answers say (by-opening, by-standing and by-range in Claims): a record is opened or refused;
abbrev pub Opens : FlatOpened → Verdict Record → Type 0
Opens x (refused why) = x.refusal ≡ number_of why
Opens x (taken kept) = (x.refusal ≡ 0) × (known_record x.opened ≡ taken kept)

-- it stands as complete or not, and so many ranges are missing, of which this is the first, noughts where there is none;
abbrev pub says_complete : Standing → ℕ
says_complete complete = 1
says_complete ongoing = 0
says_complete (missing ranges) = 0

abbrev pub ranges_of : Standing → List Range
ranges_of complete = []
ranges_of ongoing = []
ranges_of (missing ranges) = ranges

pub record Stands (x : FlatStanding) (v : Standing) : Type 0 where
  pub refusal : x.refusal ≡ 0
  pub complete : x.complete ≡ says_complete v
  pub missing : x.missing ≡ length (ranges_of v)
  pub first : x.first ≡ (ranges_of v at 0).first.0
  pub last : x.last ≡ (ranges_of v at 0).last.0

-- and the range at a place is this one, and noughts past the last.
pub record Ranges (x : FlatRange) (v : Standing) (place : ℕ) : Type 0 where
  pub refusal : x.refusal ≡ 0
  pub first : x.first ≡ (ranges_of v at place).first.0
  pub last : x.last ≡ (ranges_of v at place).last.0
