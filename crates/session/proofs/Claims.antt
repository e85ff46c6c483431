-- Demand 3, over bytes: what holds of one UFO server over an empty log in lent bytes, one fresh recorder whose area is lent back as it was
-- left, and a line that loses, repeats, delays and reorders datagrams either way and forges none. `Reached s` is any state that they can
-- come to.
-- Assumes nothing.
use Prim.Native.Nat.{ℕ, ◌+◌, ◌-◌, ◌≤◌, min}
use mathlib.Core.Path.{◌≡◌, refl}
use mathlib.Core.List.{List, [], ◌∷◌}
use mathlib.Core.Logic.{◌⊎◌}
use Rattle.std.specs.Prelude.{Some}
use mathlib.Core.Bool.{Bool, true}
use seplogic.Ra.Ura.{Ura}
use base.Logic.{SProp}
use prog.Memory.{Memory}
use prog.Routine.{Routine}
use types.Logic.{Logic}
use contract.Monad.{Fun}
use lib.Ieee.{Float}
use lib.ListN.{length}
use Rattle.wire.specs.Fields.{Bytes}
use Rattle.wire.specs.Checks.{taken}
use Rattle.wire.specs.declared.kinds.Name.{Name}
use Rattle.ufo.specs.Down as ufo
use Rattle.ufo_up.specs.Up.{Message, request, read_up}
use Rattle.clock.specs.Patience.{waiting, wait_over}
use Rattle.clock.specs.declared.sheet.Sheet.{Sheet}
use Rattle.clock.specs.declared.patience.Patience.{Patience}
use Rattle.held.specs.Slots.{area_size}
use Rattle.missing.specs.Missing.{◌to◌}
use Rattle.missing.specs.declared.Range.{Range}
use Rattle.record.specs.Standing.{complete, missing, standing}
use Rattle.taking.specs.Taking.{Taking, taking}
use Rattle.session.specs.Session.{◌among◌, enough, State, logged, takes, step, stop, Run, Reached}
use Rattle.session.specs.Caller.{LeavesOpened, LeavesStanding, ByContract}
use Rattle.session.specs.InPlace.{ByContractInPlace}
use Rattle.session.specs.Promise.{holds, Faithful, Received, Delivered, Outcome, Due, made, Asked, Answered, Exchange, Exchanges}
use Rattle.session.specs.Promise.{Begins, Tells, Under, EachUnder}
use Rattle.session.proofs.EveryStep.{inv, received}
use Rattle.session.proofs.Deliveries as deliveries
use Rattle.session.proofs.Standing as standings
use Rattle.session.proofs.Ending as ending
use Rattle.session.proofs.Fetching as fetching
use Rattle.session.proofs.Serving as serving
use Rattle.session.proofs.Waiting as waits
use Rattle.session.proofs.Filling as filling
use Rattle.session.proofs.Telling.{opened-left, standing-left}
use Rattle.session.proofs.Contracts as contracts
use Rattle.session.proofs.InPlace as in_place
use Rattle.session.proofs.Specimen as specimen

-- The steps are what the code does: whatever outcome the contract of an entry allows, its caller is left with the step, opens the record
-- that a run begins with, and is told how the record stands.
pub by-contract : {s : State} → Reached s → ByContract s
by-contract {s} r = contracts.by-contract s (inv r)

-- And so with a record that stays where it lies.
pub by-contract-in-place : {M : Type 1} {𝓤 : Ura M} (𝓛 : Logic 𝓤) (mem : Memory → SProp 𝓤) (run : Routine → Fun 𝓤)
    → {s : State}
    → Reached s
    → ByContractInPlace 𝓛 mem run s
by-contract-in-place 𝓛 mem run {s} r = in_place.by-contract 𝓛 mem run s (inv r)

-- And a run begins with what `open_ufo` opens.
pub opened : (session : Name) (lent area : List ℕ)
    → Bytes lent
    → area_size ≤ length area
    → LeavesOpened session (Begins lent area)
opened session lent area b l =
    opened-left session (Begins lent area)
    (λ kept e. record { lent = lent; bytes = b; area = area; slots = l; session = session; kept = kept; opened = e; run = stop })

-- 1. After every step the deliveries are the log's beginning: its first N - 1 messages, each once, in order, none skipped; and
-- the delivered blocks are the log's first bytes. And whatever is held was sent: it is the log's message of that number.
pub faithful : {s : State} → Reached s → Faithful s
faithful {s} r = deliveries.faithful s (inv r)

-- 2. With room for all that can be delivered at once, no genuine packet is ever refused: of every datagram that the server ever sent,
-- whenever and however often it arrives, the recorder takes it; or it is an answer to a login, is refused as not for the record, and
-- nothing changes.
pub never-refused : {s : State}
    → Reached s
    → (datagram : List ℕ) (room : ℕ)
    → datagram among s.down
    → enough ≤ room
    → Received s datagram room
never-refused {s} r datagram room m e = received s (inv r) datagram ((inv r).line datagram m) room e

-- 3. Once End of Session has been taken, with whatever room, it is the end of the server's log, and the record stands either as complete,
-- and the deliveries are the whole log; or as not complete, and the ranges that it names as missing are exactly what of the log was not
-- delivered and is not held.
pub at-the-end : {s t : State}
    → Reached s
    → (datagram : List ℕ) (room total : ℕ) (took : Taking)
    → datagram among s.down
    → taking s.kept s.area datagram room ≡ taken took
    → ufo.read datagram ≡ taken (ufo.end total)
    → Run (step s (takes datagram room)) t
    → (t.log.ended ≡ true) × (length (logged t) ≡ total) × Outcome t
at-the-end {s} {t} r datagram room total took m e reads run = ending.ended datagram total reads s t (inv r) room took m e run

-- And a record never stands as complete but with the whole of a log that has ended.
pub never-early : {s : State}
    → Reached s
    → standing s.kept ≡ taken complete
    → (s.log.ended ≡ true) × (s.deliveries ≡ logged s)
never-early {s} r e = standings.complete-so s (inv r) e

-- And so a program is told that asks `standing_of` and, for each range that is missing, `missing_range`: complete only with the whole of
-- a log that has ended;
pub told-complete : {s : State}
    → Reached s
    → LeavesStanding s.kept (λ told. told ≡ taken complete → (s.log.ended ≡ true) × (s.deliveries ≡ logged s))
told-complete {s} r = standing-left s.kept _ (never-early r)

-- and once the end has been taken, either complete, with the whole log, or the ranges that are exactly what of it was not delivered and is
-- not held.
pub told-outcome : {s : State} → Outcome s → LeavesStanding s.kept (Tells s)
told-outcome {s} o = standing-left s.kept (Tells s) (standings.outcome-told s o)

-- 4. Something is missing: then a request for the first range of it is due, unless one was made from there and the wait is not over.
pub is-due : {s : State}
    → Reached s
    → (first last : ℕ) (others : List Range)
    → standing s.kept ≡ taken (missing ((first to last) ∷ others))
    → (sheet : Sheet) (rule : Patience) (elapsed : Float) (late : Bool)
    → wait_over sheet rule elapsed ≡ taken late
    → ((s.kept.asked.0 ≡ first) → ⊥) ⊎ (late ≡ true)
    → Due s first (min (last - first + 1) 65535)
is-due {s} r = serving.due-so s (inv r)

-- What is due is a request for exactly the first range that is missing, its count capped at 65,535.
pub due-first : {s : State}
    → (first count : ℕ)
    → Due s first count
    → (last : ℕ)
    × (others : List Range)
    × (standing s.kept ≡ taken (missing ((first to last) ∷ others)))
    × (count ≡ min (last - first + 1) 65535)
due-first {s} first count due = fetching.due-first s first count due

-- Once it is made it stands on the line,
pub asked : {s u : State}
    → Reached s
    → (first count : ℕ) (due : Due s first count) (room : ℕ)
    → 1472 ≤ room
    → Run (made s due room) u
    → Asked u first count
asked {s} {u} r first count due room e run = serving.asked s u (inv r) first count due room run e

-- and in whatever packet it arrives at the server, and whenever, it is answered.
pub answered : {s u : State}
    → Reached s
    → (first count : ℕ) (due : Due s first count) (room_up : ℕ)
    → Run (made s due room_up) u
    → (datagram : List ℕ) (ms : List Message) (room : ℕ)
    → read_up datagram ≡ taken ms
    → request first count among ms
    → 1472 ≤ room
    → Answered u datagram first count room
answered {s} {u} r first count due room_up run = serving.answered s u (inv r) first count due room_up run

-- Once any answer to it has been taken, with whatever room, whenever it was made after the asking and however old it is, the message that
-- was first missing when it was asked has been delivered.
pub fetched : {s t : State} → Reached s → (x : Exchange s t) → Delivered t x.first
fetched {s} {t} r x = fetching.fetched s t (inv r) x

-- And it can be had: where the line carries the request and the answer, there is such an exchange.
pub exchange : {s : State} → Reached s → (first count : ℕ) (due : Due s first count) → (t : State) × (x : Exchange s t)
    × Under due.sheet due.rule due.elapsed x
exchange {s} r first count due = serving.exchange s (inv r) first count due

-- 5. A hole, the first range that is missing, is fetched in no more exchanges, one after another, than it has messages.
pub filled : {s t : State} {n : ℕ}
    → Reached s
    → (first last : ℕ) (others : List Range)
    → standing s.kept ≡ taken (missing ((first to last) ∷ others))
    → Exchanges s n t
    → last + 1 - first ≤ n
    → (k : ℕ)
    → first ≤ k
    → k ≤ last
    → Delivered t k
filled {s} {t} {n} r first last others e x = fetching.filled s t (inv r) n first last others e x

-- And it can be fetched, whatever the sheet, the rule and the time after which it is asked again, if only the wait is over by then:
-- where the line carries each request and its answer, there are exchanges, no more than that, after which the whole of it has
-- been delivered.
pub fillable : {s : State}
    → Reached s
    → (first last : ℕ) (others : List Range)
    → standing s.kept ≡ taken (missing ((first to last) ∷ others))
    → (sheet : Sheet) (rule : Patience) (elapsed : Float)
    → wait_over sheet rule elapsed ≡ taken true
    → (n : ℕ)
    × (t : State)
    × (x : Exchanges s n t)
    × EachUnder sheet rule elapsed x
    × (n ≤ last + 1 - first)
    × ((k : ℕ) → first ≤ k → k ≤ last → Delivered t k)
fillable {s} r first last others e sheet rule elapsed over = filling.fillable sheet rule elapsed over s (inv r) first last others e

-- Every rule that has a wait comes to that: once the wait has elapsed it is over.
pub wait-ends : (sheet : Sheet) (rule : Patience) (wait : Float) → waiting sheet rule ≡ taken (Some wait)
    → wait_over sheet rule wait ≡ taken true
wait-ends = waits.wait-ends

-- 6. And it happens, worked out byte by byte, with any area of 32 slots: a login is accepted, and the `A` arrives; of three messages the
-- third comes first and is held, the first comes twice and the second is lost; the end is taken with the second still missing; one exchange
-- fetches it, and the third goes out behind it.
pub happens : (area : List ℕ)
    → area_size ≤ length area
    → Reached (specimen.s area)
    × (standing (specimen.s area).kept ≡ taken (missing ((2 to 2) ∷ [])))
    × (holds (specimen.s area) 3 ≡ true)
    × Exchange (specimen.s area) (specimen.t area)
    × (standing (specimen.t area).kept ≡ taken complete)
    × ((specimen.t area).deliveries ≡ (72 ∷ 73 ∷ []) ∷ [] ∷ (79 ∷ 75 ∷ 33 ∷ []) ∷ [])
happens area slots =
    let l = specimen.lacking area slots in
    (specimen.reached area slots, l.0, l.1, specimen.exchanged area slots, (specimen.all_there area).0, refl)
