-- A report has messages from N on, comes early, or brings nothing new: what of it is delivered, and what is held.
-- Assumes nothing.
use Prim.Native.Nat.{ℕ, ◌+◌, ◌-◌, ◌≤◌, ◌<◌}
use mathlib.Core.List.{List, [], ◌∷◌}
use mathlib.Core.Path.{◌≡◌, refl, ap}
use mathlib.Core.Bool.{Bool, true, false, not, ◌&&◌, and-false}
use native.Mathlib.Nat.{add-zero}
use native.Mathlib.Omega.{arith}
use borrow.Author.Tests.{le-leb, lt-leb, leb-true, leb-false}
use lib.Dec.{leb}
use lib.ListN.{length, drop, length-append}
use lib.Seq.{drop-nil}
use Rattle.wire.specs.Checks.{Verdict, taken, ◌else◌, checked, ◌told_by◌}
use Rattle.wire.specs.declared.refusal.Refusal.TheVariants.{Contradiction}
use Rattle.wire.proofs.Tests.{by-test}
use Rattle.blocks.specs.Blocks.{frames}
use Rattle.held.specs.Slots.{freed_from}
use Rattle.held.specs.Holding.{Holding, hold_all}
use Rattle.held.specs.Releasing.{run}
use Rattle.held.proofs.Hangs.{next-free}
use Rattle.held.proofs.Releases.{length-released, released-none}
use Rattle.record.specs.Record.{hangs}
use Rattle.record.specs.declared.Record.{Record}
use Rattle.record.proofs.Hanging.{hanging}
use Rattle.reports.specs.Reports.{Report, messages, news, end, top_of, is_end}
use Rattle.taking.specs.Taking.{clash, own, delivered, holding_early, holding, told, reporting, taken_of, Answered}
use Rattle.taking.specs.Ways.{passing}
use Rattle.taking.specs.declared.Taken.{Taken}

-- the first number is at most N and the last at least N
pub among : (next first : ℕ) (ms : List (List ℕ)) → first ≤ next → next < first + length ms
    → own next (messages first ms) ≡ drop (next - first) ms
among next first ms a b = rw (le-leb first next a, le-leb next (first + length ms - 1) (omega arith))

-- an early packet, and a late one
pub early : (next first : ℕ) (ms : List (List ℕ)) → next < first → own next (messages first ms) ≡ []
early next first ms a = rw (lt-leb first next a)

pub late : (next first : ℕ) (ms : List (List ℕ)) → 1 ≤ first + length ms → first + length ms ≤ next → own next (messages first ms) ≡ []
late next first ms s a =
    rw (lt-leb next (first + length ms - 1) (omega arith), and-false (leb first next))

-- of an early packet the messages are held; of any other, none
pub early-held : (next first : ℕ) (ms : List (List ℕ)) → next < first → (h : Holding)
    → holding_early next h (messages first ms) ≡ hold_all next h first ms
early-held next first ms a h = rw (lt-leb first next a)

pub none-held : (next first : ℕ) (ms : List (List ℕ)) → first ≤ next → (h : Holding) → holding_early next h (messages first ms) ≡ h
none-held next first ms a h = rw (le-leb first next a)

-- every report has messages from N on, or comes early, or brings nothing new
pub data Lies (next : ℕ) : Report → Type 0 where
  reaches : (first : ℕ) (ms : List (List ℕ)) → first ≤ next → next < first + length ms → Lies next (messages first ms)
  ahead : (first : ℕ) (ms : List (List ℕ)) → next < first → Lies next (messages first ms)
  passes : (report : Report) → own next report ≡ [] → ((h : Holding) → holding_early next h report ≡ h) → Lies next report

pub lies : (next : ℕ) (report : Report) → Lies next report
lies next (news highest) = passes (news highest) refl (λ h. refl)
lies next (end total) = passes (end total) refl (λ h. refl)
lies next (messages first ms) =
    by-test (leb first next)
    (λ a.
    by-test (leb next (first + length ms - 1))
    (λ b. by ms (leb-true first next a) (leb-true next (first + length ms - 1) b))
    (λ b. passes (messages first ms) (rw (b, and-false (leb first next))) (none-held next first ms (leb-true first next a))))
    (λ a. ahead first ms (leb-false first next a)) where
      by : (ms : List (List ℕ)) → first ≤ next → next ≤ first + length ms - 1 → Lies next (messages first ms)
      by [] a b =
          passes (messages first [])
          (by-test (leb first next && leb next (first + 0 - 1)) (λ e. rw e (drop-nil (next - first))) (λ e. rw e))
          (none-held next first [] a)
      by (m ∷ ms) a b = reaches first (m ∷ ms) a (omega arith)

-- how many go out: a report's own, and what is released behind them
pub delivers-many : (r : Record) (area : List ℕ) (report : Report)
    → (let k = length (own r.next.0 report) in
    length (delivered r area report) ≡ k + run 31 (freed_from k r.held r.next.0) (r.next.0 + k))
delivers-many r area report =
    let ms : List (List ℕ) = own r.next.0 report in
    rw length-append (ap (λ (n : ℕ). length ms + n)
    (length-released (freed_from (length ms) r.held r.next.0) area (r.next.0 + length ms)))

-- where none of a report's own messages goes out, nothing does: N's own slot is free
module _ (r : Record) (area : List ℕ) (report : Report) (h : hangs r ≡ true) (e : own r.next.0 report ≡ []) where
  pub delivers-none : delivered r area report ≡ []
  unfolding freed_from
  delivers-none = rw (e, add-zero r.next.0)
      (released-none r.held area r.next.0 (next-free r.held r.next.0 r.top.0 (hanging r h).placed))

  pub holds-early : holding r area report ≡ holding_early r.next.0 (record { held = r.held; area = area }) report
  unfolding freed_from
  holds-early = rw delivers-none

  -- and a report of which nothing is held either is passed
  pub reports-none : (room : ℕ) → ((h : Holding) → holding_early r.next.0 h report ≡ h)
      → reporting r area room report ≡ passing r area (top_of report) (is_end report)
  unfolding reporting passing frames freed_from
  reports-none room k = rw (delivers-none, k (record { held = r.held; area = area }), le-leb 0 room (omega arith), add-zero r.next.0)

-- an early one is held
pub reports-early : (r : Record) (area : List ℕ) (room first : ℕ) (ms : List (List ℕ)) → hangs r ≡ true → r.next.0 < first
    → (let h = hold_all r.next.0 (record { held = r.held; area = area }) first ms in
    reporting r area room (messages first ms) ≡ checked ((not (clash r (first + length ms - 1) false) else Contradiction) ∷ [])
    (taken (record { delivered = []; after = told r r.next.0 h.held (first + length ms - 1) false; area = h.area })))
unfolding reporting frames freed_from
reports-early r area room first ms h l =
    rw (
      delivers-none r area (messages first ms) h (early r.next.0 first ms l),
      lt-leb first r.next.0 l,
      le-leb 0 room (omega arith),
      add-zero r.next.0,
    )

-- what is passed leaves the lent output and the area, and its answer does not depend on them
pub leaves : (r : Record) (area : List ℕ) (top : ℕ) (final : Bool) (out : List ℕ) (a : Verdict Taken)
    → a ≡ (passing r [] top final told_by taken_of)
    → Answered (passing r area top final) area out a area out
unfolding passing frames
leaves r area top final out a e =
    by-test (clash r top final)
    (λ q. let g = rw q at e in rw q (record { answer = g; bytes = refl; slots = refl }))
    (λ q. let g = rw q at e in rw q (record { answer = g; bytes = refl; slots = refl }))
