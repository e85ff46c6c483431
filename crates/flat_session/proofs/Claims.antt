-- Demand 3 for a C program: whatever it does at both ends of the line by hinurapay.h, what it holds is a state that `session` reaches, so
-- that every claim of crates/session/proofs/Claims.antt holds of it; and the claims themselves, in the header's words.
-- Assumes nothing.
use Prim.Native.Nat.{ℕ}
use mathlib.Core.Path.{◌≡◌}
use mathlib.Core.List.{List}
use native.Mathlib.Omega.{arith}
use Rattle.wire.specs.declared.refusal.Refusal.TheVariants.{NotForRecord}
use Rattle.wire.specs.Checks.{taken}
use Rattle.names.specs.Names.{name_of}
use Rattle.record.specs.Record.{opening}
use Rattle.record.specs.Standing.{State as Standing, state, standing}
use Rattle.session.specs.Session.{◌among◌, State, Act, takes, step, stop, Run, Reached}
use Rattle.session.specs.Promise as session
use Rattle.session.proofs.Claims as claims
use Rattle.taking.specs.Taking.{taking}
use Rattle.flat_record.specs.declared.keeping.FlatTaken.{FlatTaken}
use Rattle.flat_session.specs.Header.{hp-open-ufo, hp-standing-of, hp-missing-range}
use Rattle.flat_session.specs.Face.{Held, Holds, HoldsSome, LeavesStep, LeavesSteps, Opens, Stands, Ranges}
use Rattle.flat_session.specs.Promise.{Always, Faithful, Received, took, passed, NeverRefused, OnceEnded}
use Rattle.flat_session.specs.Promise.{AtTheEnd, NeverEarly, Fetched, Filled}
use Rattle.flat_session.proofs.NeverNought as never-nought
use Rattle.flat_session.proofs.Taking.{TakenAs, take_left}
use Rattle.flat_session.proofs.Opening.{opens, opened-left}
use Rattle.flat_session.proofs.EachStep.{step_left, on, steps-left}
use Rattle.flat_session.proofs.Reading.{end_read, login-read}
use Rattle.flat_session.proofs.Holding.{messages-are, ended_so, faithful-so, delivered-so}
use Rattle.flat_session.proofs.Standing.{stood, standing-left, stands, ranges, lacking, complete-so, outcome-left}
use Rattle.flat_session.proofs.Exchanging.{exchange-left, exchanges-left}

-- Each step: a program that holds a state is left with the step's, whatever outcome the contracts of the header's functions allow.
pub by-header : {s : State} → Reached s → (h : Held) → Holds h s → (act : Act) → LeavesStep h act (λ g. Holds g (step s act))
by-header r h i act = step_left r h i act _ (λ g a j. j)

-- Any number of steps, whatever they are: the program's run is a run of `session`.
pub by-run : {s : State} → Reached s → (h : Held) → Holds h s → (n : ℕ) → LeavesSteps n h (HoldsSome (Run s))
by-run r h i n = steps-left stop r h i n _ (λ g t run _ j. (t, j, run))

-- And the answers that leave all as it was are what the claims speak of: hp_open_ufo says what opening a record comes to, hp_standing_of
-- how the record stands, and hp_missing_range which of the ranges that are missing then is the one at a place.
pub by-opening : (name : List ℕ) → hp-open-ufo name (λ x. Opens x (opening (name_of name)))
by-opening = opens

pub by-standing : {s : State} → Reached s → (h : Held) → Holds h s
    → hp-standing-of h.kept (λ x. (v : Standing) × (standing s.kept ≡ taken v) × Stands x v)
by-standing {s} r h i = λ κs a x e g p. (state s.kept, stood s r, stands h s i _ (stood s r) κs a x e g p)

pub by-range : {s : State} → Reached s → (h : Held) → Holds h s → (place : ℕ)
    → hp-missing-range h.kept place (λ x. (v : Standing) × (standing s.kept ≡ taken v) × Ranges x v place)
by-range {s} r h i place = λ κs a x e g p. (state s.kept, stood s r, ranges h s i _ (stood s r) place κs a x e g p)

-- What is true of whatever holds a state that `session` reaches is always true, from the record that hp_open_ufo opened on;
always : (Claim : Held → Type 0) → ((h : Held) (s : State) → Reached s → Holds h s → Claim h) → Always Claim
always Claim true name lent area b l n =
    opened-left name lent area b l _ (λ h s r i. steps-left stop r h i n Claim (λ g t _ q j. true g t q j))

-- and so whatever is true of every state that `session` reaches is true of what the program holds.
pub every-claim : (Claim : State → Type 0) → ((s : State) → Reached s → Claim s) → Always (HoldsSome Claim)
every-claim Claim true = always (HoldsSome Claim) (λ h s r i. (s, i, true s r))

-- 1. The deliveries are the log's beginning, each message once, in order, none skipped; and whatever is held was sent.
pub faithful : Always Faithful
faithful = always Faithful (λ h s r i. faithful-so h s i (claims.faithful r))

-- 2. No datagram that was sent is ever refused, but for an answer to a login, which changes nothing.
pub never-refused : Always NeverRefused
never-refused = always NeverRefused (λ h s r i d room m e.
    let there : d among s.down = rw i.down at m in
    take_left r h i d there room (Received h d) (λ x g told j. by h s d room x g told (claims.never-refused r d room there e))) where
      by : (h : Held) (s : State) (d : List ℕ) (room : ℕ) (x : FlatTaken) (g : Held) → TakenAs h (taking s.kept s.area d room) x g
          → session.Received s d room → Received h d x g
      by h s d room x g told (session.took t q) = took (rw (told.answer, q))
      by h s d room x g told (session.passed l q _) = passed (login-read d l) (rw (told.answer, q)) (told.same NotForRecord q)

-- 3. Once End of Session has been taken, the log has ended with that total, and the record stands as complete, with the whole log, or
-- names exactly what it lacks.
pub at-the-end : Always AtTheEnd
at-the-end = always AtTheEnd (λ h s r i d room m.
    let there : d among s.down = rw i.down at m in
    take_left r h i d there room (OnceEnded d) (λ x g told j z.
    let t = never-nought.took (taking _ _ d room) h.kept x told.answer z in
    λ κs a y e c p k n.
    steps-left stop (on r (takes d room) there) g j n _ (λ f u run q l.
    let end = claims.at-the-end r d room y.packet.number t.0 there t.1 (end_read d κs a y e c p k) run in
    (ended_so f u l end.0, rw (messages-are f u l) end.1, outcome-left f u l q end.2))))

-- And hp_standing_of never says complete but with the whole of a log that has ended.
pub never-early : Always NeverEarly
never-early = always NeverEarly (λ h s r i. complete-so h s i r)

-- 4. Once any answer to a request has been taken, the message that was first missing when it was asked has been delivered.
pub fetched : Always Fetched
fetched = always Fetched (λ h s r i. exchange-left r _ (λ g t x q j. delivered-so g t j x.first (claims.fetched r x)) h i)

-- 5. A hole, the first range that is missing, is fetched in no more exchanges than it has messages.
pub filled : Always Filled
filled = always Filled (λ h s r i κs a x e g p l n b.
    let w = lacking (standing s.kept) x (standing-left h s i κs a x e g p) l in
    exchanges-left (session.none stop) r h i n _ (λ f u m c e q j k low high.
    delivered-so f u j k (claims.filled r x.first x.last w.0 w.1 e (omega (arith, b, c)) k low high)))
