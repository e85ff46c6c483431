-- A message that no slot has room for: early it is not held, though T rises to it, so it is missing; and when it is next it goes out.
-- Assumes nothing.
use Prim.Native.Nat.{ℕ, ◌+◌, ◌-◌, ◌≤◌, ◌<◌}
use mathlib.Core.Path.{◌≡◌, ap, sym, ◌∙◌}
use mathlib.Core.Bool.{true, false, true≢false}
use mathlib.Core.List.{List, []}
use native.Mathlib.Omega.{arith}
use lib.ListN.{length, get_or, drop, length-take, length-drop, get_or-append}
use lib.Seq.{get_or-drop}
use Rattle.wire.specs.Checks.{taken}
use Rattle.wire.specs.Fields.{Bytes}
use Rattle.wire.proofs.Checks.{taken-same}
use Rattle.wire.proofs.Tests.{by-test}
use Rattle.blocks.specs.Blocks.{stated}
use Rattle.held.specs.Slots.{longest, slot_of, freed_from, slot_at, held_message}
use Rattle.held.specs.Releasing.{released}
use Rattle.held.proofs.Hangs.{sound-fits, fits-at}
use Rattle.missing.specs.Missing.{is_held}
use Rattle.missing.proofs.Apart.{Within}
use Rattle.record.specs.Standing.{missing, missing_of, standing}
use Rattle.record.specs.declared.Record.{Record}
use Rattle.record.proofs.Complete.{missing-if, missing-means}
use Rattle.reports.specs.Reports.{messages, report_of}
use Rattle.taking.specs.Taking.{Taking, taking}
use Rattle.taking.proofs.Took.{took}
use Rattle.taking.proofs.Kept.{taking-hangs, taking-sound}
use Rattle.taking.proofs.Numbered.{is-held, Came, brought, was-held, holds-by-number, delivers-part}

-- a packet was taken, and number n is one of its messages
module _ (r : Record) (area d : List ℕ) (room : ℕ) (t : Taking) (e : taking r area d room ≡ taken t) (first : ℕ) (ms : List (List ℕ))
    (h : report_of r.session d ≡ taken (messages first ms)) (n : ℕ) (from : first ≤ n) (to : n < first + length ms) where
  abbrev message : List ℕ
  message = get_or ms (n - first) []

  -- T rises to it, whatever its length.
  pub top-rises : n ≤ t.after.top.0
  top-rises =
      let w = took r area d room t e in
      let same : w.report ≡ messages first ms = taken-same w.report (messages first ms) (sym w.reports ∙ h) in
      rw (w.reported.gives, same) (omega arith)

  -- what is held has room in its slot
  held_fits : is_held t.after.held t.after.next.0 n ≡ true → length (held_message t.area n) ≤ longest
  held_fits f =
      let s = slot_at t.area (slot_of n) in
      let p = sound-fits t.after.held t.area (taking-sound r area d room t e) in
      let l = fits-at t.after.held t.area p n (is-held t.after.held t.after.next.0 n f).full in
      omega (arith, length-take (stated s) (drop 2 s))

  module _ (long : longest < length message) (new : is_held r.held r.next.0 n ≡ false) where
    -- It is not held, unless one was held under its number before.
    pub long-not-held : is_held t.after.held t.after.next.0 n ≡ false
    long-not-held =
        by-test (is_held t.after.held t.after.next.0 n)
        (λ f. absurd (by (held_fits f) (holds-by-number r area d room t e (messages first ms) h n f)))
        (λ f. f) where
          by : length (held_message t.area n) ≤ longest → Came r area (messages first ms) n (held_message t.area n) → ⊥
          by l (brought q) = let same : length (held_message t.area n) ≡ length message = ap length q.2 in omega arith
          by l (was-held g _) = true≢false (sym g ∙ new)

    -- So if it did not go out, the record stands at what it lacks, and names it.
    pub long-missing : Bytes d → t.after.next.0 ≤ n
        → (standing t.after ≡ taken (missing (missing_of t.after))) × Within n (missing_of t.after)
    long-missing b l =
        let stands = missing-if t.after (taking-hangs r area d room t b e) (omega (arith, top-rises)) in
        (stands, (missing-means t.after (missing_of t.after) stands n).1 (l, top-rises, long-not-held))

  -- When N is among the packet's numbers it goes out, whatever its length.
  pub goes-out : first ≤ r.next.0 → r.next.0 ≤ n → get_or t.delivered (n - r.next.0) [] ≡ message
  goes-out a b =
      let next = r.next.0 in
      let more = released (freed_from (first + length ms - next) r.held next) area (first + length ms) in
      let p : next - first + (n - next) ≡ n - first = omega arith in
      ap (λ (x : List (List ℕ)). get_or x (n - next) []) (delivers-part r area d room t e first ms h a (omega arith))
      ∙ get_or-append (drop (next - first) ms) more [] (n - next) (rw length-drop (omega arith))
      ∙ get_or-drop (next - first) ms (n - next) []
      ∙ ap (λ (i : ℕ). get_or ms i []) p
