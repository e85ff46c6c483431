-- A report that a log vouches for is never a contradiction, and it leaves a record and an area that tell nothing false of the log.
-- Laws over lists and numbers.
-- Assumes nothing.
use Prim.Native.Nat.{ℕ, suc, ◌+◌, ◌-◌, ◌≤◌, max}
use mathlib.Core.Path.{◌≡◌, refl, ap, ◌∙◌}
use mathlib.Core.List.{List, [], ◌++◌}
use mathlib.Core.Logic.{◌⊎◌, inl, inr}
use mathlib.Core.Bool.{Bool, true, false, not, ◌&&◌, ◌||◌}
use native.Mathlib.Omega.{arith}
use borrow.Author.Tests.{le-leb, leb-true, leb-false}
use lib.ListN.{length, get_or, take, drop, length-append, length-drop}
use lib.Seq.{get_or-take, get_or-drop}
use lib.Dec.{leb}
use Rattle.wire.proofs.Tests.{by-test, either}
use Rattle.blocks.specs.Blocks.{frames}
use Rattle.blocks.proofs.Frames.{frames-none, frames-append, frames-drop}
use Rattle.held.specs.Slots.{held_message, freed_from}
use Rattle.held.specs.Hanging.{in_place, sound}
use Rattle.held.specs.Releasing.{released}
use Rattle.held.proofs.Hangs.{in_place_lem, sound-fits, freed-fits}
use Rattle.held.proofs.Releases.{released-lean}
use Rattle.missing.specs.Missing.{is_held}
use Rattle.record.specs.Record.{hangs}
use Rattle.record.specs.declared.Record.{Record}
use Rattle.reports.specs.Reports.{Report, messages, news, end, top_of, is_end}
use Rattle.taking.specs.Taking.{contradicts, own, delivered, holding, after}
use Rattle.taking.proofs.EarlyOrLate.{lies, among, delivers-many}
use Rattle.taking.proofs.Kept.{near-after, placed-after, kept-sound}
use Rattle.taking.proofs.Numbered.{is-held, Holds, Came, brought, was-held, by_number, holds-as-number}
use Rattle.session.proofs.Stretches.{joined}

-- the number of a report's first message; of a report with none, the next to be published
abbrev pub first_of : Report → ℕ
first_of (messages first ms) = first
first_of (news highest) = highest + 1
first_of (end total) = total + 1

abbrev pub carried : Report → List (List ℕ)
carried (messages first ms) = ms
carried (news highest) = []
carried (end total) = []

-- a report that a log may have given rise to, whether it has ended or not
pub record Genuine (log : List (List ℕ)) (over : Bool) (p : Report) : Type 0 where
  pub start : 1 ≤ first_of p
  pub inside : first_of p + length (carried p) ≤ suc (length log)
  pub part : carried p ≡ take (length (carried p)) (drop (first_of p - 1) log)
  pub final : is_end p ≡ true → (over ≡ true) × (top_of p ≡ length log)

-- the record, its area and its deliveries tell nothing false of the log
pub record Hold (log : List (List ℕ)) (over : Bool) (r : Record) (area : List ℕ) (got : List (List ℕ)) : Type 0 where
  pub begun : got ≡ take (r.next.0 - 1) log
  pub one : 1 ≤ r.next.0
  pub near : r.next.0 ≤ suc r.top.0
  pub known : r.top.0 ≤ length log
  pub old : r.asked.0 ≤ r.next.0
  pub final : r.ended ≡ true → (over ≡ true) × (r.top.0 ≡ length log)
  pub placed : in_place r.held r.next.0 r.top.0 ≡ true
  pub sound : sound r.held area ≡ true
  pub sent : (n : ℕ) → is_held r.held r.next.0 n ≡ true → held_message area n ≡ get_or log (n - 1) []

-- what is held is a number of the log
pub held-known : (log : List (List ℕ)) (over : Bool) (r : Record) (area : List ℕ) (got : List (List ℕ)) → Hold log over r area got → (n : ℕ)
    → is_held r.held r.next.0 n ≡ true → (1 ≤ n) × (n ≤ length log)
held-known log over r area got h n e =
    let k = is-held r.held r.next.0 n e in
    let a = k.past in
    let b = k.near in
    let d : ℕ = n - r.next.0 in
    let s : r.next.0 + d ≡ n = omega arith in
    let q = in_place_lem r.held r.next.0 r.top.0 h.placed d (omega arith) (rw s k.full) in
    (omega arith, omega (arith, q.1, h.known))

-- a report's top is one below the number after its last message
pub top-is : (p : Report) → 1 ≤ first_of p → suc (top_of p) ≡ first_of p + length (carried p)
top-is (messages first ms) h = omega arith
top-is (news highest) h = omega arith
top-is (end total) h = omega arith

-- neither flag goes with a test that fails
flags : (e f : Bool) (a b : ℕ) → (e ≡ true → a ≤ b) → (f ≡ true → b ≤ a) → (e && not (leb a b) || f && not (leb b a)) ≡ false
flags true true a b p q = rw (le-leb a b (p refl), le-leb b a (q refl))
flags true false a b p q = rw (le-leb a b (p refl))
flags false true a b p q = rw (le-leb b a (q refl))
flags false false a b p q = refl

-- the message number i of a genuine report is the log's
carried-at : (log : List (List ℕ)) (over : Bool) (p : Report) → Genuine log over p → (i : ℕ) (m : List ℕ) → Holds p i m
    → m ≡ get_or log (i - 1) []
carried-at log over (messages first ms) g i m q =
    let a = q.0 in
    let b = q.1 in
    let s = g.start in
    let n : first - 1 + (i - first) ≡ i - 1 = omega arith in
    q.2
    ∙ ap (λ (x : List (List ℕ)). get_or x (i - first) []) g.part
    ∙ get_or-take (length ms) (drop (first - 1) log) (i - first) [] (omega arith)
    ∙ get_or-drop (first - 1) log (i - first) []
    ∙ ap (λ (x : ℕ). get_or log x []) n
carried-at log over (news highest) g i m q = absurd q
carried-at log over (end total) g i m q = absurd q

-- its own messages, and their bytes
own-past : (n : ℕ) (p : Report) → 1 ≤ first_of p → first_of p ≤ n → first_of p + length (carried p) ≤ n + length (own n p)
own-past n (messages first ms) s a =
    by-test (leb (first + length ms) n)
    (λ e. omega (arith, leb-true (first + length ms) n e))
    (λ e.
    let l = leb-false (first + length ms) n e in
    rw (among n first ms a l, length-drop) (omega arith))
own-past n (news highest) s a = omega arith
own-past n (end total) s a = omega arith

own-lean : (n : ℕ) (p : Report) → length (frames (own n p)) ≤ length (frames (carried p))
own-lean n (messages first ms) =
    by-test (leb first n && leb n (first + length ms - 1))
    (λ e. rw e (frames-drop (n - first) ms))
    (λ e. rw e (omega (arith, frames-none)))
own-lean n (news highest) = omega arith
own-lean n (end total) = omega arith

-- What a genuine report brings: it is no contradiction, the record and the area still tell nothing false, and where the report begins at or
-- before N all its messages have been delivered.
pub record Brings (log : List (List ℕ)) (over : Bool) (r : Record) (area : List ℕ) (got : List (List ℕ)) (p : Report) : Type 0 where
  pub fair : contradicts r p ≡ false
  pub hold : Hold log over (after r area p) (holding r area p).area (got ++ delivered r area p)
  pub past : first_of p ≤ r.next.0 → first_of p + length (carried p) ≤ r.next.0 + length (delivered r area p)
  pub lean : length (frames (delivered r area p)) ≤ length (frames (carried p)) + 45632

module _ (log : List (List ℕ)) (over : Bool) (r : Record) (area : List ℕ) (got : List (List ℕ)) (p : Report) (whole : hangs r ≡ true)
    (h : Hold log over r area got) (g : Genuine log over p) where
  fair : contradicts r p ≡ false
  fair =
      let t = top-is p g.start in
      flags r.ended (is_end p) (top_of p) r.top.0 (λ e. omega (arith, (h.final e).1, g.inside))
      (λ e. omega (arith, (g.final e).1, h.known))

  final-after : r.ended || is_end p ≡ true → (over ≡ true) × (max r.top.0 (top_of p) ≡ length log)
  final-after e = by (either r.ended (is_end p) e) where
    by : (r.ended ≡ true) ⊎ (is_end p ≡ true) → (over ≡ true) × (max r.top.0 (top_of p) ≡ length log)
    by (inl a) = ((h.final a).0, omega (arith, (h.final a).1, top-is p g.start, g.inside))
    by (inr b) = ((g.final b).0, omega (arith, (g.final b).1, h.known))

  -- whatever came as number i is the log's message of that number
  came : (i : ℕ) (m : List ℕ) → Came r area p i m → m ≡ get_or log (i - 1) []
  came i m (brought q) = carried-at log over p g i m q
  came i m (was-held e q) = q ∙ h.sent i e

  known-after : max r.top.0 (top_of p) ≤ length log
  known-after = omega (arith, h.known, g.inside, top-is p g.start)

  begun-after : got ++ delivered r area p ≡ take (r.next.0 + length (delivered r area p) - 1) log
  begun-after =
      let n : ℕ = r.next.0 in
      let k : ℕ = length (delivered r area p) in
      let o = h.one in
      let l : n - 1 + k ≤ length log = omega (arith, near-after r area whole p, known-after) in
      let e : n + k - 1 ≡ n - 1 + k = omega arith in
      rw (h.begun, e)
      (joined log (n - 1) (delivered r area p) l
      (λ i b.
      let a : n + i - n ≡ i = omega arith in
      let c : n + i - 1 ≡ n - 1 + i = omega arith in
      let q = came (n + i) (get_or (delivered r area p) (n + i - n) []) (by_number r area p whole (n + i) (omega arith) (omega arith)) in
      rw (a, c) at q))

  pub brings : Brings log over r area got p
  brings = record {
    fair = fair;
    hold = record {
      begun = begun-after;
      one = omega (arith, h.one);
      near = omega (arith, near-after r area whole p);
      known = known-after;
      old = omega (arith, h.old);
      final = final-after;
      placed = placed-after r area whole p (lies r.next.0 p);
      sound = kept-sound r area whole p h.sound;
      sent = λ n e. came n (held_message (holding r area p).area n) (holds-as-number r area whole h.sound n p e);
    };
    past = λ a. omega (arith, own-past r.next.0 p g.start a, delivers-many r area p);
    lean =
        let ms : List (List ℕ) = own r.next.0 p in
        let held = freed_from (length ms) r.held r.next.0 in
        let l = released-lean held area (r.next.0 + length ms)
        (freed-fits r.held area (length ms) r.next.0 (sound-fits r.held area h.sound)) in
        rw (frames-append ms (released held area (r.next.0 + length ms)), length-append) (omega (arith, own-lean r.next.0 p));
  }
