-- The ways through taking a datagram that are functions of their own in the code: a report is passed, or messages are taken.
-- Assumes nothing.
use Rattle.std.specs.Prelude.{ℕ, List, [], ◌∷◌, Bool, not, length}
use Rattle.wire.specs.Checks.{Verdict, taken, ◌else◌, checked}
use Rattle.wire.specs.declared.refusal.Refusal.TheVariants.{Contradiction}
use Rattle.record.specs.declared.Record.{Record}
use Rattle.reports.specs.Reports.{messages, blocks_from}
use Rattle.taking.specs.declared.Taken.{Taken}
use Rattle.taking.specs.declared.batch.Batch.{Batch}
use Rattle.taking.specs.Taking.{clash, told, Taking, reporting, Answered}

-- a report that delivers nothing and holds nothing; EarlyOrLate.reports-none: it is taken so
unfoldable pub passing : Record → List ℕ → ℕ → Bool → Verdict Taking
passing r area top final =
    checked
    ((not (clash r top final) else Contradiction) ∷ [])
    (taken (record { delivered = []; after = told r r.next.0 r.held top final; area = area }))

-- the answer r to the count messages from number first on whose blocks stand in the datagram from a place on, and what is left of the area
-- and of the output
abbrev pub TakesMessages : Record → (first count : ℕ) (area datagram : List ℕ) (place : ℕ) (out : List ℕ) → Verdict Taken
    → (area_left left : List ℕ)
    → Type 0
TakesMessages kept first count area datagram place out =
    Answered (reporting kept area (length out) (messages first (blocks_from datagram place count))) area out

-- and so to the messages of a batch
abbrev pub TakesBatch : Record → Batch → (area out : List ℕ) → Verdict Taken → (area_left left : List ℕ) → Type 0
TakesBatch kept b area out = TakesMessages kept b.first b.count area b.datagram.now b.place out
