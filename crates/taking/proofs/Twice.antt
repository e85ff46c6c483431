-- A datagram that comes again brings nothing.
-- Assumes nothing.
use Prim.Native.Nat.{ℕ, ◌+◌, ◌-◌, max}
use mathlib.Core.List.{List, []}
use mathlib.Core.Path.{◌≡◌, ap, sym, ◌∙◌}
use mathlib.Core.Bool.{Bool, true, false, not, ◌&&◌, ◌||◌, and-false, or_assoc, or_self}
use native.Mathlib.Nat.{add-zero}
use native.Mathlib.Omega.{arith}
use borrow.Author.Tests.{le-leb, leb-true, not-false}
use lib.Dec.{leb}
use lib.ListN.{length, length-drop}
use Rattle.wire.specs.Checks.{taken}
use Rattle.wire.specs.Fields.{Bytes}
use Rattle.blocks.specs.Blocks.{frames}
use Rattle.held.specs.Hanging.{sound}
use Rattle.held.specs.Holding.{Holding, hold_all}
use Rattle.held.proofs.Holds.{held-again}
use Rattle.record.specs.Record.{hangs}
use Rattle.reports.specs.Reports.{Report, messages, top_of, is_end}
use Rattle.taking.specs.Taking.{own, delivered, holding_early, holding, after, Taking, outcome, taking}
use Rattle.record.specs.declared.Record.{Record}
use Rattle.wire.proofs.Tests.{or_right}
use Rattle.taking.proofs.EarlyOrLate.{Lies, reaches, ahead, passes, lies, among, early, late, early-held, none-held, delivers-many}
use Rattle.taking.proofs.EarlyOrLate.{delivers-none, holds-early}
use Rattle.taking.proofs.Took.{took, takes}
use Rattle.taking.proofs.Kept.{taking-hangs, taking-sound}

-- the larger of two, once more
again : (a b : ℕ) → max (max a b) b ≡ max a b
again a b = omega arith

-- what was agreed to is agreed to again
agreed : (ended final : Bool) (top told : ℕ) → ended && not (leb told top) || final && not (leb top told) ≡ false
    → (ended || final) && not (leb told (max top told)) || final && not (leb (max top told) told) ≡ false
agreed ended false top told e = rw (le-leb told (max top told) (omega arith), and-false (ended || false))
agreed ended true top told e =
    let h = leb-true top told (not-false (leb top told) (or_right (ended && not (leb told top)) (not (leb top told)) e)) in
    rw (le-leb told (max top told) (omega arith), le-leb (max top told) told (omega arith), and-false (ended || true))

module _ (r : Record) (area : List ℕ) (h : hangs r ≡ true) where
  -- from the N that a report left, none of its own messages goes out
  none-own : (report : Report) → Lies r.next.0 report → own (after r area report).next.0 report ≡ []
  none-own report (passes _ e _) = rw (delivers-none r area report h e, add-zero r.next.0) e
  none-own report (ahead first ms a) =
      let e = early r.next.0 first ms a in
      rw (delivers-none r area (messages first ms) h e, add-zero r.next.0) e
  none-own report (reaches first ms a b) =
      let n : length (own r.next.0 (messages first ms)) ≡ length ms - (r.next.0 - first) =
      rw (among r.next.0 first ms a b) (length-drop (r.next.0 - first) ms) in
      let m = delivers-many r area (messages first ms) in
      late (r.next.0 + length (delivered r area (messages first ms))) first ms (omega arith) (omega arith)

  -- and N stays where none of them went out
  none_moves : (report : Report) → own r.next.0 report ≡ [] → (after r area report).next.0 ≡ r.next.0
  none_moves report e = rw (delivers-none r area report h e) (add-zero r.next.0)

  -- what of it is held, is held already
  held-already : (report : Report) → Lies r.next.0 report
      → holding_early (after r area report).next.0 (holding r area report) report ≡ holding r area report
  held-already report (passes _ e k) =
      let held = holding r area report in
      ap (λ (n : ℕ). holding_early n held report) (none_moves report e) ∙ k held
  held-already report (ahead first ms a) =
      let next = r.next.0 in
      let e = early next first ms a in
      let was : Holding = record { held = r.held; area = area } in
      let held = holding r area (messages first ms) in
      let same : held ≡ hold_all next was first ms = holds-early r area (messages first ms) h e ∙ early-held next first ms a was in
      ap (λ (n : ℕ). holding_early n held (messages first ms)) (none_moves (messages first ms) e)
      ∙ early-held next first ms a held
      ∙ ap (λ (x : Holding). hold_all next x first ms) same
      ∙ held-again next was first ms
      ∙ sym same
  held-already report (reaches first ms a b) =
      none-held (after r area (messages first ms)).next.0 first ms (omega arith) (holding r area (messages first ms))

  -- told the same again, a record delivers nothing, and it and the area are as they were
  same-again : (report : Report) → hangs (after r area report) ≡ true
      → (let now = after r area report in
      let left = (holding r area report).area in
      outcome now left report ≡ record { delivered = []; after = now; area = left })
  same-again report k =
      let l = lies r.next.0 report in
      let now = after r area report in
      let left = (holding r area report).area in
      let z = delivers-none now left report k (none-own report l) in
      let e : holding now left report ≡ holding r area report = holds-early now left report k (none-own report l) ∙ held-already report l in
      rw (e, z, add-zero, again, or_assoc, or_self)

-- A datagram taken twice in a row, with the area as it was left, delivers nothing the second time, whatever the room, and leaves the record
-- and the area as after the first.
pub twice : (r : Record) (area d : List ℕ) (room : ℕ) (t : Taking) → Bytes d → taking r area d room ≡ taken t → (more : ℕ)
    → taking t.after t.area d more ≡ taken (record { delivered = []; after = t.after; area = t.area })
unfolding frames
twice r area d room t b e more =
    let w = took r area d room t e in
    let report = w.report in
    let now = after r area report in
    let left = (holding r area report).area in
    let g = w.reported.gives in
    let h : hangs now ≡ true = rw g at (taking-hangs r area d room t b e) in
    let s : sound now.held left ≡ true = rw g at (taking-sound r area d room t e) in
    let a = agreed r.ended (is_end report) r.top.0 (top_of report) w.reported.agrees in
    let n = delivers-none now left report h (none-own r area w.hangs report (lies r.next.0 report)) in
    rw g (takes now left d more report h s w.reports a (rw n (omega arith)) ∙ ap taken (same-again r area w.hangs report h))
