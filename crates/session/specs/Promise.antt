-- The words of what is promised: delivered, the outcome at the end and what is told of it, an exchange.
-- Assumes nothing.
use Rattle.std.specs.Prelude.{ℕ, suc, ◌+◌, ◌-◌, ◌≤◌, ◌<◌, ◌≡◌, ◌↔◌, ◌⊎◌, List, [], ◌∷◌, Bool, true, false, Float, length, take, get_or}
use Rattle.wire.specs.Checks.{Verdict, refused, taken}
use Rattle.wire.specs.declared.refusal.Refusal.TheVariants.{NotForRecord}
use Rattle.blocks.specs.Blocks.{frames}
use Rattle.ufo.specs.Down as ufo
use Rattle.ufo_up.specs.Up.{request, read_up}
use Rattle.ufo_up_write.specs.WriteUp.{reply}
use Rattle.clock.specs.declared.sheet.Sheet.{Sheet}
use Rattle.clock.specs.declared.patience.Patience.{Patience}
use Rattle.lent_log.specs.Log as log
use Rattle.lend.specs.Answer.{answer_reply}
use Rattle.held.specs.Slots.{held_message}
use Rattle.held.specs.Hanging.{sound}
use Rattle.missing.specs.Missing.{is_held}
use Rattle.missing.specs.declared.Range.{Range}
use Rattle.record.specs.Record as recording
use Rattle.record.specs.Standing as standings
use Rattle.record.specs.Standing.{complete, ongoing, missing, standing}
use Rattle.taking.specs.Taking.{Taking, taking}
use Rattle.asking.specs.Asking.{request as wanted, asking}
use Rattle.record.specs.declared.Record.{Record}
use Rattle.session.specs.Session.{◌among◌, State, logged, begin, serves, takes, asks, step, Run, Reached}

-- where a record was opened, a run begins with it, in any lent bytes and with any area of 32 slots
abbrev pub Begins : (lent area : List ℕ) → Verdict Record → Type 0
Begins lent area answer = (kept : Record) → answer ≡ taken kept → Reached (begin lent area kept)

-- number n is held
abbrev pub holds : State → ℕ → Bool
holds s n = is_held s.kept.held s.kept.next.0 n

-- The log hangs together, and so do the record and its area; the deliveries are the log's messages up to N, and its very bytes; and
-- what is held is the log's message of that number.
pub record Faithful (s : State) : Type 0 where
  pub hung : log.hangs s.log s.lent ≡ true
  pub kept : recording.hangs s.kept ≡ true
  pub area : sound s.kept.held s.area ≡ true
  pub begun : s.deliveries ≡ take (s.kept.next.0 - 1) (logged s)
  pub inside : s.kept.next.0 ≤ length (logged s) + 1
  pub bytes : frames s.deliveries ≡ take (length (frames s.deliveries)) s.lent
  pub held : (n : ℕ) → holds s n ≡ true → (n ≤ length (logged s)) × (held_message s.area n ≡ get_or (logged s) (n - 1) [])

-- an answer to a login, an `A` or a `J`
pub data LoginAnswer (d : List ℕ) : Type 0 where
  accepted : (session : List ℕ) (next : ℕ) → ufo.read d ≡ taken (ufo.accept session next) → LoginAnswer d
  rejected : (reason : ℕ) → ufo.read d ≡ taken (ufo.reject reason) → LoginAnswer d

-- a datagram that arrives is taken; or it answers a login, is refused as 16, and nothing changes
pub data Received (s : State) (datagram : List ℕ) (room : ℕ) : Type 0 where
  took : (t : Taking) → taking s.kept s.area datagram room ≡ taken t → Received s datagram room
  passed : LoginAnswer datagram
      → taking s.kept s.area datagram room ≡ refused NotForRecord
      → step s (takes datagram room) ≡ s
      → Received s datagram room

-- message n of the log has been delivered, as the n-th of all
pub record Delivered (s : State) (n : ℕ) : Type 0 where
  pub some : 1 ≤ n
  pub within : n ≤ length s.deliveries
  pub same : get_or s.deliveries (n - 1) [] ≡ get_or (logged s) (n - 1) []

-- one of the ranges names number n
abbrev pub Names : List Range → ℕ → Type 0
Names [] n = ⊥
Names (r ∷ rs) n = ((r.first.0 ≤ n) × (n ≤ r.last.0)) ⊎ Names rs n

-- they name exactly what of the log was not delivered and is not held
abbrev pub Lacks : State → List Range → Type 0
Lacks s ranges = (n : ℕ) → Names ranges n ↔ ((length s.deliveries < n) × (n ≤ length (logged s)) × (holds s n ≡ false))

-- how the record stands: complete, with the whole log; or something is missing, which is exactly what was not delivered and is not held
pub data Outcome (s : State) : Type 0 where
  whole : standing s.kept ≡ taken complete → s.deliveries ≡ logged s → Outcome s
  lacks : (ranges : List Range) → standing s.kept ≡ taken (missing ranges) → Lacks s ranges → Outcome s

-- what a program is told of such a record: complete, with the whole log; or that these ranges are missing; and nothing else
abbrev pub Tells : State → Verdict standings.State → Type 0
Tells s (refused n) = ⊥
Tells s (taken complete) = s.deliveries ≡ logged s
Tells s (taken ongoing) = ⊥
Tells s (taken (missing ranges)) = Lacks s ranges

-- a request for these numbers is due
pub record Due (s : State) (first count : ℕ) : Type 0 where
  pub sheet : Sheet
  pub rule : Patience
  pub elapsed : Float
  pub after : Record
  pub wish : asking s.kept sheet rule elapsed ≡ taken (wanted first count after)

-- the state once it is made
abbrev pub made : (s : State) {first count : ℕ} → Due s first count → ℕ → State
made s d room = step s (asks d.sheet d.rule d.elapsed room)

-- the request stands on the line as the datagram that its writer lays down, and is read as what it is
pub record Asked (u : State) (first count : ℕ) : Type 0 where
  pub datagram : List ℕ
  pub room : ℕ
  pub laid : reply (request first count) room ≡ taken datagram
  pub sent : datagram among u.up
  pub reads : read_up datagram ≡ taken (request first count ∷ [])

-- a datagram that the server is handed in u puts the answer to these numbers on the line
pub record Answered (u : State) (datagram : List ℕ) (first count room : ℕ) : Type 0 where
  pub answer : List ℕ
  pub laid : answer_reply u.log u.lent first count room ≡ taken answer
  pub sent : answer among (step u (serves datagram room)).down

-- A request is due in s and is made. Later, in u, the server answers its numbers by a datagram. Later still, in w, that
-- datagram arrives and is taken, with whatever room, which leaves t. Whatever else may happen in between. `Claims.exchange` shows that it
-- can be had.
pub record Exchange (s t : State) : Type 0 where
  pub first : ℕ
  pub count : ℕ
  pub due : Due s first count
  pub room_up : ℕ
  pub u : State
  pub run : Run (made s due room_up) u
  pub datagram : List ℕ
  pub room_down : ℕ
  pub answer : answer_reply u.log u.lent first count room_down ≡ taken datagram
  pub w : State
  pub later : Run u w
  pub arrives : datagram among w.down
  pub room_out : ℕ
  pub took : Taking
  pub takes-it : taking w.kept w.area datagram room_out ≡ taken took
  pub left : t ≡ step w (takes datagram room_out)

-- so many exchanges one after another, and whatever else may happen before, between and after them; `Claims.fillable` shows that they can
-- be had
pub data Exchanges (s : State) : ℕ → State → Type 0 where
  none : {t : State} → Run s t → Exchanges s 0 t
  more : {n : ℕ} {t u w : State} → Exchanges s n t → Exchange t u → Run u w → Exchanges s (suc n) w

-- the request of an exchange, or of each of them, is made with this sheet, under this rule, when so much has elapsed
abbrev pub Under : Sheet → Patience → Float → {s t : State} → Exchange s t → Type 0
Under sheet rule elapsed x = (x.due.sheet ≡ sheet) × (x.due.rule ≡ rule) × (x.due.elapsed ≡ elapsed)

abbrev pub EachUnder : Sheet → Patience → Float → {s t : State} {n : ℕ} → Exchanges s n t → Type 0
EachUnder sheet rule elapsed (none r) = Unit
EachUnder sheet rule elapsed (more e x r) = EachUnder sheet rule elapsed e × Under sheet rule elapsed x
