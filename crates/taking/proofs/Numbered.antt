-- What is delivered, by number: from the old N to one below the new N, first the packet's own messages, then those that were held; and what
-- is held, by number.
-- Assumes nothing.
use Prim.Native.Nat.{ℕ, ◌+◌, ◌-◌, ◌≤◌, ◌<◌}
use mathlib.Core.List.{List, [], ◌++◌}
use mathlib.Core.Path.{◌≡◌, refl, ap, sym, ◌∙◌}
use mathlib.Core.Bool.{true, ◌&&◌}
use mathlib.Core.Logic.{◌⊎◌, inl, inr}
use native.Mathlib.Nat.{add-zero}
use native.Mathlib.Omega.{arith}
use borrow.Author.Tests.{le-leb, leb-true, leb-false}
use lib.Dec.{leb}
use lib.ListN.{length, get_or, drop, length-drop, get_or-append}
use lib.Seq.{get_or-drop, get_or-append-add}
use Rattle.wire.specs.Checks.{taken}
use Rattle.wire.proofs.Tests.{by-test, both}
use Rattle.held.specs.Slots.{full, freed_from, held_message}
use Rattle.held.specs.Hanging.{in_place, sound}
use Rattle.held.specs.Holding.{Holding, hold_all}
use Rattle.held.specs.Releasing.{run, released}
use Rattle.held.proofs.Bitmap.{freed-was}
use Rattle.held.proofs.Hangs.{still-numbered, Fits, sound-fits}
use Rattle.held.proofs.Holds.{all-keeps, all_new}
use Rattle.held.proofs.Releases.{run-full, held_at, released-numbered}
use Rattle.missing.specs.Missing.{is_held}
use Rattle.record.specs.Record.{hangs}
use Rattle.record.specs.declared.Record.{Record}
use Rattle.record.proofs.Hanging.{hanging}
use Rattle.reports.specs.Reports.{Report, messages, news, end, report_of}
use Rattle.taking.specs.Taking.{own, delivered, freed_by, holding, after, Taking, outcome, taking}
use Rattle.taking.proofs.EarlyOrLate.{Lies, reaches, ahead, passes, lies, among, early, early-held, none-held, delivers-many}
use Rattle.taking.proofs.EarlyOrLate.{delivers-none, holds-early}
use Rattle.taking.proofs.Took.{Took, took}

-- what is held, as facts
pub record Held (held next m : ℕ) : Type 0 where
  pub past : next + 1 ≤ m
  pub near : m ≤ next + 31
  pub full : full held m ≡ true

module _ (held next m : ℕ) where
  pub is-held : is_held held next m ≡ true → Held held next m
  is-held e =
      let a = leb (next + 1) m in
      let b = leb m (next + 31) in
      let p = both (a && b) (full held m) e in
      let q = both a b p.0 in
      record { past = leb-true _ _ q.0; near = leb-true _ _ q.1; full = p.1 }

  pub held-so : Held held next m → is_held held next m ≡ true
  held-so h = rw (le-leb (next + 1) m h.past, le-leb m (next + 31) h.near) h.full

-- m is the message number i of the report
abbrev pub Holds : Report → ℕ → List ℕ → Type 0
Holds (messages first ms) i m = (first ≤ i) × (i < first + length ms) × (m ≡ get_or ms (i - first) [])
Holds (news number) i m = ⊥
Holds (end total) i m = ⊥

-- m is the message number i of the report, or the one that was held as number i
pub data Came (r : Record) (area : List ℕ) (report : Report) (i : ℕ) (m : List ℕ) : Type 0 where
  brought : Holds report i m → Came r area report i m
  was-held : is_held r.held r.next.0 i ≡ true → m ≡ held_message area i → Came r area report i m

none : (k next i : ℕ) → k ≡ 0 → next ≤ i → i < next + k → ⊥
none k next i z a b = omega arith

-- the report's own
own-by-number : (next : ℕ) (report : Report) → Lies next report → (i : ℕ) → next ≤ i → i < next + length (own next report)
    → Holds report i (get_or (own next report) (i - next) [])
own-by-number next report (passes _ e _) i a b = absurd (none (length (own next report)) next i (ap length e) a b)
own-by-number next report (ahead first ms l) i a b =
    absurd (none (length (own next (messages first ms))) next i (ap length (early next first ms l)) a b)
own-by-number next report (reaches first ms l h) i a b =
    let d = among next first ms l h in
    let c : i < next + length (drop (next - first) ms) = rw d at b in
    let n : next - first + (i - next) ≡ i - first = omega arith in
    (omega arith, omega (arith, rw length-drop at c), rw (d, get_or-drop, n))

module _ (r : Record) (area : List ℕ) (report : Report) (h : hangs r ≡ true) where
  abbrev k : ℕ
  k = length (own r.next.0 report)

  abbrev left : ℕ
  left = freed_from k r.held r.next.0

  -- the one released in the place j was held
  released-by-number : (j : ℕ) → j < run 31 left (r.next.0 + k)
      → (is_held r.held r.next.0 (r.next.0 + k + j) ≡ true)
      × (get_or (delivered r area report) (k + j) [] ≡ held_message area (r.next.0 + k + j))
  released-by-number j l =
      let n = released-numbered r.held r.next.0 r.top.0 k (hanging r h).placed j l in
      let f = freed-was k r.held r.next.0 (r.next.0 + k + j) (run-full 31 left (r.next.0 + k) j l) in
      let a = n.0 in
      let b = n.1 in
      let i : ℕ = r.next.0 + k + j in (
        rw (le-leb (r.next.0 + 1) i (omega arith), le-leb i (r.next.0 + 31) (omega arith)) f,
        get_or-append-add (own r.next.0 report) (released left area (r.next.0 + k)) j []
            ∙ held_at (run 31 left (r.next.0 + k)) area (r.next.0 + k) j l,
      )

  pub by_number : (i : ℕ) → r.next.0 ≤ i → i < r.next.0 + length (delivered r area report)
      → Came r area report i (get_or (delivered r area report) (i - r.next.0) [])
  by_number i a b =
      by-test (leb (r.next.0 + k) i)
      (λ e.
      let l = leb-true (r.next.0 + k) i e in
      let m = delivers-many r area report in
      let j : ℕ = i - (r.next.0 + k) in
      let s : r.next.0 + k + j ≡ i = omega arith in
      let p : k + j ≡ i - r.next.0 = omega arith in
      let q = released-by-number j (omega arith) in
      was-held (rw s at q.0) (ap (λ (x : ℕ). get_or (delivered r area report) x []) (sym p) ∙ q.1 ∙ ap (held_message area) s))
      (λ e.
      let l = leb-false (r.next.0 + k) i e in
      let s = get_or-append (own r.next.0 report) (released left area (r.next.0 + k)) [] (i - r.next.0) (omega arith) in
      brought (rw s (own-by-number r.next.0 report (lies r.next.0 report) i a (omega arith))))

-- what is held behind n messages that went out was held before
still-was : (held next top n m : ℕ) → in_place held next top ≡ true → Held (freed_from n held next) (next + n) m → is_held held next m
    ≡ true
still-was held next top n m e h =
    let a = h.past in
    let b = h.near in
    let d : ℕ = m - (next + n) in
    let s : next + n + d ≡ m = omega arith in
    let w = still-numbered held next top e n d (omega arith) (ap (full (freed_from n held next)) s ∙ h.full) in
    held-so held next m (record { past = omega arith; near = omega (arith, w.0); full = freed-was n held next m h.full })

module _ (r : Record) (area : List ℕ) (h : hangs r ≡ true) (s : sound r.held area ≡ true) (i : ℕ) where
  freed-came : (report : Report) → is_held (freed_by r area report).held (after r area report).next.0 i ≡ true
      → Came r area report i (held_message area i)
  freed-came report e =
      let n = length (delivered r area report) in
      was-held (still-was r.held r.next.0 r.top.0 n i (hanging r h).placed
      (is-held (freed_from n r.held r.next.0) (r.next.0 + n) i e)) refl

  -- an early packet's messages lie in the area beside those that were there
  early-came : (first : ℕ) (ms : List (List ℕ))
      → (let k = hold_all r.next.0 (record { held = r.held; area = area }) first ms in
      Held k.held r.next.0 i → Came r area (messages first ms) i (held_message k.area i))
  early-came first ms e = by (all_new r.next.0 was first ms fits i e.past e.near e.full) where
    was : Holding
    was = record { held = r.held; area = area }

    fits : Fits r.held area
    fits = sound-fits r.held area s

    by : (full r.held i ≡ true) ⊎ ((first ≤ i) × (i < first + length ms)
        × (held_message (hold_all r.next.0 was first ms).area i ≡ get_or ms (i - first) []))
        → Came r area (messages first ms) i (held_message (hold_all r.next.0 was first ms).area i)
    by (inl f) = was-held (held-so r.held r.next.0 i (record { past = e.past; near = e.near; full = f }))
        ((all-keeps r.next.0 was first ms).same fits i f)
    by (inr q) = brought q

  held-came : (report : Report) → Lies r.next.0 report → is_held (after r area report).held (after r area report).next.0 i ≡ true
      → Came r area report i (held_message (holding r area report).area i)
  held-came report (passes _ z k) e =
      let same = k (freed_by r area report) in
      rw same (freed-came report (rw same at e))
  held-came report (reaches first ms a b) e =
      let same = none-held r.next.0 first ms a (freed_by r area (messages first ms)) in
      rw same (freed-came (messages first ms) (rw same at e))
  held-came report (ahead first ms a) e =
      let z = early r.next.0 first ms a in
      let was : Holding = record { held = r.held; area = area } in
      let n : length (delivered r area (messages first ms)) ≡ 0 = ap length (delivers-none r area (messages first ms) h z) in
      let same = holds-early r area (messages first ms) h z ∙ early-held r.next.0 first ms a was in
      rw same (early-came first ms (is-held _ r.next.0 i (rw (same, n, add-zero r.next.0) at e)))

  pub holds-as-number : (report : Report) → is_held (after r area report).held (after r area report).next.0 i ≡ true
      → Came r area report i (held_message (holding r area report).area i)
  holds-as-number report = held-came report (lies r.next.0 report)

module _ (r : Record) (area d : List ℕ) (room : ℕ) (t : Taking) (e : taking r area d room ≡ taken t) where
  -- As many messages are delivered as N rises.
  pub delivers-so-many : t.after.next.0 ≡ r.next.0 + length t.delivered
  delivers-so-many = let w = took r area d room t e in rw w.reported.gives

  w : Took r area d room t
  w = took r area d room t e

  module _ (report : Report) (h : report_of r.session d ≡ taken report) where
    reported-is : t ≡ outcome r area report
    reported-is =
        let same : w.report ≡ report = cc w.reports in
        rw same at w.reported.gives

    -- The message delivered as number i, from the old N to one below the new N, is the packet's message number i, or the one that was held
    -- as number i.
    pub delivers-by-number : (i : ℕ) → r.next.0 ≤ i → i < t.after.next.0
        → Came r area report i (get_or t.delivered (i - r.next.0) [])
    delivers-by-number i a b = rw reported-is (by_number r area report w.hangs i a (rw reported-is at b))

    -- What is held afterwards as number i is the packet's message number i, or the one that was held as number i.
    pub holds-by-number : (i : ℕ) → is_held t.after.held t.after.next.0 i ≡ true → Came r area report i (held_message t.area i)
    holds-by-number i f = rw reported-is (holds-as-number r area w.hangs w.sound i report (rw reported-is at f))

  module _ (first : ℕ) (ms : List (List ℕ)) (h : report_of r.session d ≡ taken (messages first ms)) where
    module _ (a : first ≤ r.next.0) (b : r.next.0 < first + length ms) where
      many : length (drop (r.next.0 - first) ms) ≡ first + length ms - r.next.0
      many = rw length-drop (omega arith)

      -- Data with first number at most N and last at least N: the packet's messages from N on go out, then what is held from last + 1 on,
      pub delivers-part : t.delivered ≡ drop (r.next.0 - first) ms
          ++ released (freed_from (first + length ms - r.next.0) r.held r.next.0) area (first + length ms)
      delivers-part =
          let n : r.next.0 + (first + length ms - r.next.0) ≡ first + length ms = omega arith in
          rw (reported-is (messages first ms) h, among r.next.0 first ms a b, many, n)

      -- and N becomes last + 1 and as many more.
      pub next-past-last : t.after.next.0
          ≡ first + length ms + run 31 (freed_from (first + length ms - r.next.0) r.held r.next.0) (first + length ms)
      next-past-last =
          let n : r.next.0 + (first + length ms - r.next.0) ≡ first + length ms = omega arith in
          let m = rw (among r.next.0 first ms a b, many, n) at (delivers-many r area (messages first ms)) in
          rw (reported-is (messages first ms) h, among r.next.0 first ms a b, many, n, m) (omega arith)

    -- Other data deliver nothing, and N stays.
    pub others-deliver-nothing : (first ≤ r.next.0 → r.next.0 < first + length ms → ⊥)
        → (t.delivered ≡ []) × (t.after.next.0 ≡ r.next.0)
    others-deliver-nothing o = by (lies r.next.0 (messages first ms)) where
      passed : own r.next.0 (messages first ms) ≡ [] → (t.delivered ≡ []) × (t.after.next.0 ≡ r.next.0)
      passed z = rw (reported-is (messages first ms) h, delivers-none r area (messages first ms) w.hangs z) (refl, add-zero r.next.0)

      by : Lies r.next.0 (messages first ms) → (t.delivered ≡ []) × (t.after.next.0 ≡ r.next.0)
      by (passes _ z _) = passed z
      by (ahead _ _ a) = passed (early r.next.0 first ms a)
      by (reaches _ _ a b) = absurd (o a b)
