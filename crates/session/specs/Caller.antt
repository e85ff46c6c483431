-- What the caller of an entry is left with, read off its answer and the bytes that it lent, as a program reads them; and that
-- it is the step, or how the record stands, whatever outcome the entry's contract allows. The contract is taken as it is generated from the
-- source.
-- Assumes nothing.
use Rattle.std.specs.Prelude.{ℕ, zero, suc, ◌≡◌, List, [], ◌∷◌, ◌++◌, Float, length, take, Option, Some, None}
use borrow.Fn.Kinds.{ParamKind, ResultKind, Out, Dens, res_t, ended_of}
use contract.Lifetimes.{Lfts}
use denote.Triple.Clauses.{AtExit}
use Rattle.wire.specs.Checks.{Verdict, refused, taken}
use Rattle.wire.specs.Fields.{Bytes}
use Rattle.wire.specs.declared.kinds.Name.{Name}
use Rattle.wire.specs.declared.kinds.Sequence.{Sequence}
use Rattle.blocks.specs.Blocks.{cut, messages_of}
use Rattle.ufo_up.specs.declared.up.Placed.{Placed}
use Rattle.ufo_up.specs.declared.up.Up.{Up}
use Rattle.ufo_up.specs.declared.up.Up.TheVariants as up
use Rattle.clock.specs.declared.sheet.Sheet.{Sheet}
use Rattle.clock.specs.declared.patience.Patience.{Patience}
use Rattle.lent_log.specs.declared.Log.{Log}
use Rattle.missing.specs.Missing.{◌at◌}
use Rattle.missing.specs.declared.Range.{Range}
use Rattle.record.specs.Record.{opening}
use Rattle.record.specs.Standing as standings
use Rattle.record.specs.declared.Record.{Record}
use Rattle.record.specs.declared.standing.Standing.{Standing}
use Rattle.record.specs.declared.standing.Standing.TheVariants as stands
use Rattle.taking.specs.declared.Taken.{Taken}
use Rattle.asking.specs.declared.Asked.{Asked}
use Rattle.asking.specs.declared.Asked.TheVariants as asked
use Rattle.lent_log.proofs as log
use Rattle.lend.proofs as lend
use Rattle.ufo_write.proofs as ufo-write
use Rattle.ufo_up.proofs.up as ufo-up
use Rattle.ufo_up_write.proofs as ufo-up-write
use Rattle.record.proofs as recording
use Rattle.taking.proofs as taking
use Rattle.asking.proofs as asking
use Rattle.session.specs.Session.{State, adds, adds_many, declares, beats, ends, answers, accepts, rejects, serves, takes, asks}
use Rattle.session.specs.Session.{Allowed, sending, saying, step}

-- What an entry's contract leaves its caller with: where the arguments a are as `given`, whatever answer x the contract ensures, with
-- whatever the arguments may be at exit, e, comes to `left`. Both a and e stand in the order of the parameters, and are named so.
abbrev pub Leaves : {n : ℕ} (ps : List (ParamKind n)) (r : ResultKind n)
    → Out n ps r
    → ((κs : Lfts n) → Dens κs ps → Type 0)
    → ((κs : Lfts n) → (res_t r κs).Denot → AtExit (ended_of n ps r) κs → Type 0)
    → Type 0
Leaves {n} ps r ensures given left =
    (κs : Lfts n) (a : Dens κs ps) (x : (res_t r κs).Denot) (e : AtExit (ended_of n ps r) κs) → given κs a → ensures κs a x e → left κs x e

-- the log, and the bytes lent to it as they are now
abbrev pub with_log : State → Verdict Log → List ℕ → State
with_log s (refused why) left =
    record { log = s.log; lent = left; kept = s.kept; area = s.area; deliveries = s.deliveries; down = s.down; up = s.up }
with_log s (taken log) left =
    record { log = log; lent = left; kept = s.kept; area = s.area; deliveries = s.deliveries; down = s.down; up = s.up }

-- the datagram at the output's start
abbrev pub written : Verdict ℕ → List ℕ → List (List ℕ)
written (refused why) left = []
written (taken n) left = take n left ∷ []

-- as many messages as the answer says, in as many bytes from the output's start
abbrev pub handed : Verdict Taken → List ℕ → List (List ℕ)
handed (refused why) left = []
handed (taken t) left = messages_of (cut t.messages (take t.bytes left))

-- these are delivered, and the record is kept, and the area as it was left
abbrev pub with_taken : State → Verdict Taken → List ℕ → List ℕ → Record → State
with_taken s r area left kept =
    record {
      log = s.log;
      lent = s.lent;
      kept = kept;
      area = area;
      deliveries = s.deliveries ++ handed r left;
      down = s.down;
      up = s.up;
    }

-- which record is kept: the one in the answer, if there is one
abbrev pub once_taken : Record → Verdict Taken → Record
once_taken kept (refused why) = kept
once_taken kept (taken t) = t.after

abbrev pub once_asked : Record → Verdict Asked → Record
once_asked kept (refused why) = kept
once_asked kept (taken asked.Nothing) = kept
once_asked kept (taken asked.Wait) = kept
once_asked kept (taken (asked.Request first count after)) = after

-- Here what is left depends on what goes out. A request that is to be made is written, and what was written goes out.
abbrev pub LeavesAsked : ℕ → Verdict Asked → (List (List ℕ) → Type 0) → Type 0
LeavesAsked room (refused why) left = left []
LeavesAsked room (taken asked.Nothing) left = left []
LeavesAsked room (taken asked.Wait) left = left []
LeavesAsked room (taken (asked.Request first count after)) left =
    Leaves ufo-up-write.write_request.Kinds.ps ufo-up-write.write_request.Kinds.r ufo-up-write.write_request.Reads.Post
    (λ _ (first', (count', (out, _))). (first' ≡ first) × (count' ≡ count) × (length out.now ≡ room))
    (λ _ x (_, (_, (out, _))). left (written x out.now))

-- a server answers a request, and what was written goes out
abbrev pub LeavesAnswered : State → ℕ → Sequence → ℕ → (List (List ℕ) → Type 0) → Type 0
LeavesAnswered s room first count left =
    Leaves lend.answer.Kinds.ps lend.answer.Kinds.r lend.answer.Reads.Post
    (λ _ (log, (lent, (first', (count', (out, _))))).
    (log ≡ s.log) × (lent.now ≡ s.lent) × (first' ≡ first) × (count' ≡ count) × (length out.now ≡ room))
    (λ _ x (_, (_, (_, (_, (out, _))))). left (written x out.now))

-- A server that is handed a datagram reads it as a packet, then message by message, each at the place where the one before it ends,
-- and answers each request before it reads `on`.
abbrev pub LeavesMessage : State → ℕ → Up → ((List (List ℕ) → Type 0) → Type 0) → (List (List ℕ) → Type 0) → Type 0
LeavesMessage s room (up.Login user password session) on left = on left
LeavesMessage s room (up.Request first count) on left =
    LeavesAnswered s room first count (λ answer. on (λ answers. left (answer ++ answers)))
LeavesMessage s room (up.Unsequenced start size) on left = on left
LeavesMessage s room up.Heartbeat on left = on left
LeavesMessage s room up.Logout on left = on left

abbrev pub LeavesPlaced : State → ℕ → Verdict Placed → (ℕ → (List (List ℕ) → Type 0) → Type 0) → (List (List ℕ) → Type 0) → Type 0
LeavesPlaced s room (refused why) on left = left []
LeavesPlaced s room (taken placed) on left = LeavesMessage s room placed.message (on placed.next) left

abbrev pub LeavesEach : State → ℕ → List ℕ → ℕ → ℕ → (List (List ℕ) → Type 0) → Type 0
LeavesEach s room datagram zero place left = left []
LeavesEach s room datagram (suc count) place left =
    Leaves ufo-up.read_message.Kinds.ps ufo-up.read_message.Kinds.r ufo-up.read_message.Reads.Post
    (λ _ (packet, (place', _)). (packet.now ≡ datagram) × (place' ≡ place))
    (λ _ x _. LeavesPlaced s room x (LeavesEach s room datagram count) left)

abbrev pub LeavesServed : State → ℕ → List ℕ → Verdict ℕ → (List (List ℕ) → Type 0) → Type 0
LeavesServed s room datagram (refused why) left = left []
LeavesServed s room datagram (taken count) left = LeavesEach s room datagram count 0 left

abbrev pub LeavesOpened : Name → (Verdict Record → Type 0) → Type 0
LeavesOpened session left =
    Leaves recording.open.open_ufo.Kinds.ps recording.open.open_ufo.Kinds.r recording.open.open_ufo.Reads.Post
    (λ _ (name, _). name ≡ session)
    (λ _ x _. left x)

-- A program that is told that so many ranges are missing asks for each, by its place; that is not refused, and there is one.
abbrev pub LeavesRange : Verdict (Option Range) → (Range → Type 0) → Type 0
LeavesRange (refused why) left = ⊥
LeavesRange (taken None) left = ⊥
LeavesRange (taken (Some range)) left = left range

abbrev pub LeavesRanges : Record → (count place : ℕ) → (List Range → Type 0) → Type 0
LeavesRanges kept zero place left = left []
LeavesRanges kept (suc count) place left =
    Leaves recording.standing.missing_range.Kinds.ps recording.standing.missing_range.Kinds.r recording.standing.missing_range.Reads.Post
    (λ _ (kept', (place', _)). (kept' ≡ kept) × (place' ≡ place))
    (λ _ x _. LeavesRange x (λ range. LeavesRanges kept count (suc place) (λ others. left (range ∷ others))))

-- So it is told how the record stands: complete; ongoing; or these ranges are missing, of which the answer itself has the first.
abbrev pub LeavesTold : Record → Verdict Standing → (Verdict standings.State → Type 0) → Type 0
LeavesTold kept (refused why) left = left (refused why)
LeavesTold kept (taken stands.Complete) left = left (taken standings.complete)
LeavesTold kept (taken stands.Ongoing) left = left (taken standings.ongoing)
LeavesTold kept (taken (stands.Missing count first)) left =
    LeavesRanges kept count 0 (λ ranges. (ranges at 0 ≡ first) × left (taken (standings.missing ranges)))

abbrev pub LeavesStanding : Record → (Verdict standings.State → Type 0) → Type 0
LeavesStanding kept left =
    Leaves recording.standing.standing_of.Kinds.ps recording.standing.standing_of.Kinds.r recording.standing.standing_of.Reads.Post
    (λ _ (kept', _). kept' ≡ kept)
    (λ _ x _. LeavesTold kept x left)

-- Of each entry: an outcome that its contract allows leaves its caller with the step. And what is opened is what `Reached` begins with, and
-- what a program is told of the record is how it stands, of which the claims speak.
pub record ByContract (s : State) : Type 0 where
  pub add : (message : List ℕ) → Leaves log.add.Kinds.ps log.add.Kinds.r log.add.Reads.Post
      (λ _ (log, (lent, (text, _))). (log ≡ s.log) × (lent.now ≡ s.lent) × (text.now ≡ message))
      (λ _ x (_, (lent, _)). with_log s x lent.now ≡ step s (adds message))
  pub add_many : (blocks : List ℕ) → Leaves log.add_many.Kinds.ps log.add_many.Kinds.r log.add_many.Reads.Post
      (λ _ (log, (lent, (framed, _))). (log ≡ s.log) × (lent.now ≡ s.lent) × (framed.now ≡ blocks))
      (λ _ x (_, (lent, _)). with_log s x lent.now ≡ step s (adds_many blocks))
  pub declare_end : Leaves log.declare_end.Kinds.ps log.declare_end.Kinds.r log.declare_end.Reads.Post
      (λ _ (log, (lent, _)). (log ≡ s.log) × (lent.now ≡ s.lent))
      (λ _ x _. with_log s x s.lent ≡ step s declares)
  pub heartbeat : (room : ℕ) → Leaves lend.heartbeat.Kinds.ps lend.heartbeat.Kinds.r lend.heartbeat.Reads.Post
      (λ _ (log, (lent, (out, _))). (log ≡ s.log) × (lent.now ≡ s.lent) × (length out.now ≡ room))
      (λ _ x (_, (_, (out, _))). sending s (written x out.now) ≡ step s (beats room))
  pub end_packet : (room : ℕ) → Leaves lend.end_packet.Kinds.ps lend.end_packet.Kinds.r lend.end_packet.Reads.Post
      (λ _ (log, (lent, (out, _))). (log ≡ s.log) × (lent.now ≡ s.lent) × (length out.now ≡ room))
      (λ _ x (_, (_, (out, _))). sending s (written x out.now) ≡ step s (ends room))
  pub answer : (first : Sequence) (count room : ℕ)
      → LeavesAnswered s room first count (λ answer. sending s answer ≡ step s (answers first.0 count room))
  pub accept : (session : Name) (next room : ℕ)
      → Leaves ufo-write.write_accept.Kinds.ps ufo-write.write_accept.Kinds.r ufo-write.write_accept.Reads.Post
      (λ _ (name, (number, (out, _))). (name ≡ session) × (number.0 ≡ next) × (length out.now ≡ room))
      (λ _ x (_, (_, (out, _))). sending s (written x out.now) ≡ step s (accepts session next room))
  pub reject : (reason room : ℕ)
      → Leaves ufo-write.write_reject.Kinds.ps ufo-write.write_reject.Kinds.r ufo-write.write_reject.Reads.Post
      (λ _ (letter, (out, _)). (letter ≡ reason) × (length out.now ≡ room))
      (λ _ x (_, (out, _)). sending s (written x out.now) ≡ step s (rejects reason room))
  pub serve : (datagram : List ℕ) (room : ℕ)
      → Bytes datagram
      → Leaves ufo-up.read_up.Kinds.ps ufo-up.read_up.Kinds.r ufo-up.read_up.Reads.Post
      (λ _ (packet, _). packet.now ≡ datagram)
      (λ _ x _. LeavesServed s room datagram x (λ answers. sending s answers ≡ step s (serves datagram room)))
  pub take : (datagram : List ℕ) (room : ℕ)
      → Allowed s (takes datagram room)
      → Leaves taking.take.Kinds.ps taking.take.Kinds.r taking.take.Reads.Post
      (λ _ (kept, (area, (packet, (out, _)))).
      (kept ≡ s.kept) × (area.now ≡ s.area) × (packet.now ≡ datagram) × (length out.now ≡ room))
      (λ _ x (_, (area, (_, (out, _)))). with_taken s x area.now out.now (once_taken s.kept x) ≡ step s (takes datagram room))
  pub ask : (sheet : Sheet) (rule : Patience) (elapsed : Float) (room : ℕ)
      → Leaves asking.ask.Kinds.ps asking.ask.Kinds.r asking.ask.Reads.Post
      (λ _ (kept, (sheet', (rule', (elapsed', _)))). (kept ≡ s.kept) × (sheet' ≡ sheet) × (rule' ≡ rule) × (elapsed' ≡ elapsed))
      (λ _ x _. LeavesAsked room x (λ said. saying s (once_asked s.kept x) said ≡ step s (asks sheet rule elapsed room)))
  pub open_ufo : (session : Name) → LeavesOpened session (λ opened. opening session ≡ opened)
  pub standing : LeavesStanding s.kept (λ told. standings.standing s.kept ≡ told)
