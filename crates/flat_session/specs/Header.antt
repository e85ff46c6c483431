-- The functions of hinurapay.h as a program calls them: given these arguments, whatever answer a function's contract allows, and whatever
-- that leaves in the bytes lent to it, `left` is true of both. The contracts are taken as they are generated from the source.
-- Assumes nothing.
use Rattle.std.specs.Prelude.{ℕ, ◌≡◌, List, Float, length}
use Rattle.session.specs.Caller.{Leaves}
use Rattle.flat.specs.declared.block.FlatBlock.{FlatBlock}
use Rattle.flat.specs.declared.wrote.Wrote.{Wrote}
use Rattle.flat_clock.specs.declared.FlatPatience.{FlatPatience}
use Rattle.flat_clock.specs.declared.FlatSheet.{FlatSheet}
use Rattle.flat_log.specs.declared.FlatLog.{FlatLog}
use Rattle.flat_log.specs.declared.FlatLogged.{FlatLogged}
use Rattle.flat_packet.specs.declared.Packet.{Packet}
use Rattle.flat_packet.specs.declared.Read.{Read}
use Rattle.flat_record.specs.declared.keeping.FlatRange.{FlatRange}
use Rattle.flat_record.specs.declared.keeping.FlatRecord.{FlatRecord}
use Rattle.flat_record.specs.declared.keeping.FlatStanding.{FlatStanding}
use Rattle.flat_record.specs.declared.keeping.FlatTaken.{FlatTaken}
use Rattle.flat_record.specs.declared.opening.FlatOpened.{FlatOpened}
use Rattle.flat_record.specs.declared.requesting.FlatAsked.{FlatAsked}
use Rattle.hinurapay.proofs.keeping
use Rattle.hinurapay.proofs.lending
use Rattle.hinurapay.proofs.reading
use Rattle.hinurapay.proofs.writing

-- packets; `room` is the length of the output
abbrev pub hp-ufo-read-down : (packet : List ℕ) → (Read → Type 0) → Type 0
hp-ufo-read-down packet left =
    Leaves reading.hp_ufo_read_down.Kinds.ps reading.hp_ufo_read_down.Kinds.r reading.hp_ufo_read_down.Reads.Post
    (λ _ (bytes, _). bytes.now ≡ packet)
    (λ _ answer _. left answer)

abbrev pub hp-ufo-read-up : (packet : List ℕ) → (Read → Type 0) → Type 0
hp-ufo-read-up packet left =
    Leaves reading.hp_ufo_read_up.Kinds.ps reading.hp_ufo_read_up.Kinds.r reading.hp_ufo_read_up.Reads.Post
    (λ _ (bytes, _). bytes.now ≡ packet)
    (λ _ answer _. left answer)

abbrev pub hp-ufo-read-message : (packet : List ℕ) (place : ℕ) → (Read → Type 0) → Type 0
hp-ufo-read-message packet place left =
    Leaves reading.hp_ufo_read_message.Kinds.ps reading.hp_ufo_read_message.Kinds.r reading.hp_ufo_read_message.Reads.Post
    (λ _ (bytes, (from, _)). (bytes.now ≡ packet) × (from ≡ place))
    (λ _ answer _. left answer)

abbrev pub hp-next-block : (blocks : List ℕ) (place : ℕ) → (FlatBlock → Type 0) → Type 0
hp-next-block blocks place left =
    Leaves reading.hp_next_block.Kinds.ps reading.hp_next_block.Kinds.r reading.hp_next_block.Reads.Post
    (λ _ (bytes, (from, _)). (bytes.now ≡ blocks) × (from ≡ place))
    (λ _ answer _. left answer)

abbrev pub hp-ufo-write-down : (fields : Packet) (body : List ℕ) (room : ℕ) → (Wrote → List ℕ → Type 0) → Type 0
hp-ufo-write-down fields body room left =
    Leaves writing.hp_ufo_write_down.Kinds.ps writing.hp_ufo_write_down.Kinds.r writing.hp_ufo_write_down.Reads.Post
    (λ _ (packet, (bytes, (out, _))). (packet ≡ fields) × (bytes.now ≡ body) × (length out.now ≡ room))
    (λ _ answer (_, (_, (out, _))). left answer out.now)

abbrev pub hp-ufo-write-message : (fields : Packet) (body : List ℕ) (room : ℕ) → (Wrote → List ℕ → Type 0) → Type 0
hp-ufo-write-message fields body room left =
    Leaves writing.hp_ufo_write_message.Kinds.ps writing.hp_ufo_write_message.Kinds.r writing.hp_ufo_write_message.Reads.Post
    (λ _ (packet, (bytes, (out, _))). (packet ≡ fields) × (bytes.now ≡ body) × (length out.now ≡ room))
    (λ _ answer (_, (_, (out, _))). left answer out.now)

-- the log
abbrev pub hp-log-add : (log : FlatLog) (lent message : List ℕ) → (FlatLogged → List ℕ → Type 0) → Type 0
hp-log-add log lent message left =
    Leaves lending.hp_log_add.Kinds.ps lending.hp_log_add.Kinds.r lending.hp_log_add.Reads.Post
    (λ _ (given, (bytes, (text, _))). (given ≡ log) × (bytes.now ≡ lent) × (text.now ≡ message))
    (λ _ answer (_, (bytes, _)). left answer bytes.now)

abbrev pub hp-log-add-many : (log : FlatLog) (lent blocks : List ℕ) → (FlatLogged → List ℕ → Type 0) → Type 0
hp-log-add-many log lent blocks left =
    Leaves lending.hp_log_add_many.Kinds.ps lending.hp_log_add_many.Kinds.r lending.hp_log_add_many.Reads.Post
    (λ _ (given, (bytes, (framed, _))). (given ≡ log) × (bytes.now ≡ lent) × (framed.now ≡ blocks))
    (λ _ answer (_, (bytes, _)). left answer bytes.now)

abbrev pub hp-log-declare-end : (log : FlatLog) (lent : List ℕ) → (FlatLogged → Type 0) → Type 0
hp-log-declare-end log lent left =
    Leaves lending.hp_log_declare_end.Kinds.ps lending.hp_log_declare_end.Kinds.r lending.hp_log_declare_end.Reads.Post
    (λ _ (given, (bytes, _)). (given ≡ log) × (bytes.now ≡ lent))
    (λ _ answer _. left answer)

abbrev pub hp-log-answer : (log : FlatLog) (lent : List ℕ) (first count room : ℕ) → (Wrote → List ℕ → Type 0) → Type 0
hp-log-answer log lent first count room left =
    Leaves lending.hp_log_answer.Kinds.ps lending.hp_log_answer.Kinds.r lending.hp_log_answer.Reads.Post
    (λ _ (given, (bytes, (from, (many, (out, _))))).
    (given ≡ log) × (bytes.now ≡ lent) × (from ≡ first) × (many ≡ count) × (length out.now ≡ room))
    (λ _ answer (_, (_, (_, (_, (out, _))))). left answer out.now)

abbrev pub hp-log-heartbeat : (log : FlatLog) (lent : List ℕ) (room : ℕ) → (Wrote → List ℕ → Type 0) → Type 0
hp-log-heartbeat log lent room left =
    Leaves lending.hp_log_heartbeat.Kinds.ps lending.hp_log_heartbeat.Kinds.r lending.hp_log_heartbeat.Reads.Post
    (λ _ (given, (bytes, (out, _))). (given ≡ log) × (bytes.now ≡ lent) × (length out.now ≡ room))
    (λ _ answer (_, (_, (out, _))). left answer out.now)

abbrev pub hp-log-end-packet : (log : FlatLog) (lent : List ℕ) (room : ℕ) → (Wrote → List ℕ → Type 0) → Type 0
hp-log-end-packet log lent room left =
    Leaves lending.hp_log_end_packet.Kinds.ps lending.hp_log_end_packet.Kinds.r lending.hp_log_end_packet.Reads.Post
    (λ _ (given, (bytes, (out, _))). (given ≡ log) × (bytes.now ≡ lent) × (length out.now ≡ room))
    (λ _ answer (_, (_, (out, _))). left answer out.now)

-- the session record; taking leaves the held area, and the output
abbrev pub hp-open-ufo : (name : List ℕ) → (FlatOpened → Type 0) → Type 0
hp-open-ufo name left =
    Leaves keeping.hp_open_ufo.Kinds.ps keeping.hp_open_ufo.Kinds.r keeping.hp_open_ufo.Reads.Post
    (λ _ (bytes, _). bytes.now ≡ name)
    (λ _ answer _. left answer)

abbrev pub hp-take : (kept : FlatRecord) (area datagram : List ℕ) (room : ℕ) → (FlatTaken → List ℕ → List ℕ → Type 0) → Type 0
hp-take kept area datagram room left =
    Leaves keeping.hp_take.Kinds.ps keeping.hp_take.Kinds.r keeping.hp_take.Reads.Post
    (λ _ (given, (slots, (bytes, (out, _)))).
    (given ≡ kept) × (slots.now ≡ area) × (bytes.now ≡ datagram) × (length out.now ≡ room))
    (λ _ answer (_, (slots, (_, (out, _)))). left answer slots.now out.now)

abbrev pub hp-standing-of : (kept : FlatRecord) → (FlatStanding → Type 0) → Type 0
hp-standing-of kept left =
    Leaves keeping.hp_standing_of.Kinds.ps keeping.hp_standing_of.Kinds.r keeping.hp_standing_of.Reads.Post
    (λ _ (given, _). given ≡ kept)
    (λ _ answer _. left answer)

abbrev pub hp-missing-range : (kept : FlatRecord) (place : ℕ) → (FlatRange → Type 0) → Type 0
hp-missing-range kept place left =
    Leaves keeping.hp_missing_range.Kinds.ps keeping.hp_missing_range.Kinds.r keeping.hp_missing_range.Reads.Post
    (λ _ (given, (at, _)). (given ≡ kept) × (at ≡ place))
    (λ _ answer _. left answer)

abbrev pub hp-ask : (kept : FlatRecord) (sheet : FlatSheet) (patience : FlatPatience) (elapsed : Float) → (FlatAsked → Type 0) → Type 0
hp-ask kept sheet patience elapsed left =
    Leaves keeping.hp_ask.Kinds.ps keeping.hp_ask.Kinds.r keeping.hp_ask.Reads.Post
    (λ _ (given, (timed, (rule, (since, _)))). (given ≡ kept) × (timed ≡ sheet) × (rule ≡ patience) × (since ≡ elapsed))
    (λ _ answer _. left answer)
