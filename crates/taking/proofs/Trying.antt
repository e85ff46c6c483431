-- Messages that come early: each is tried at its slot, and nothing goes out, whatever the room.
-- Assumes nothing.
use Prim.Native.Nat.{ℕ, suc, ◌+◌, ◌-◌, ◌≤◌, ◌<◌}
use mathlib.Core.List.{List, [], ◌∷◌}
use mathlib.Core.Path.{◌≡◌, refl, ap, sym, ◌∙◌}
use mathlib.Core.Bool.{true, false}
use native.Mathlib.Omega.{arith}
use borrow.Author.Tests.{le-leb}
use lib.ListN.{length, drop}
use Rattle.wire.specs.Checks.{Verdict, refused, taken}
use Rattle.wire.proofs.Tests.{by-test}
use Rattle.blocks.specs.Blocks.{frames, first, whole, cut, fills, end_at}
use Rattle.blocks.proofs.Counting.{fills-cut}
use Rattle.blocks.proofs.Skipping.{stepped-at, none-at}
use Rattle.held.specs.Holding.{Holding, hold_one, hold_all, Held}
use Rattle.held.proofs.Holds.{all-keeps}
use Rattle.record.specs.Record.{hangs}
use Rattle.reports.specs.Reports.{blocks_from}
use Rattle.reports.proofs.Reports.{counted}
use Rattle.taking.specs.Taking.{clash, told}
use Rattle.taking.specs.Ways.{TakesBatch}
use Rattle.record.specs.declared.Record.{Record}
use Rattle.taking.specs.declared.Taken.{Taken}
use Rattle.taking.specs.declared.batch.Batch.{Batch}
use Rattle.taking.proofs.Brought.{brings}
use Rattle.taking.proofs.EarlyOrLate.{reports-early}
use Rattle.wire.specs.declared.refusal.Refusal.TheVariants.{Contradiction}

-- of n blocks that fill a datagram from p on, the first, and those behind it
pub record Tried (d : List ℕ) (next : ℕ) (h : Holding) (number p n : ℕ) : Type 0 where
  pub inside : end_at d p ≤ length d
  pub others : fills d (end_at d p) (n - 1) ≡ true
  pub goes_on : hold_all next h number (blocks_from d p n)
      ≡ hold_all next (hold_one next h number (first (drop p d))) (number + 1) (blocks_from d (end_at d p) (n - 1))

pub tried : (d : List ℕ) (next : ℕ) (h : Holding) (number p n : ℕ) → 0 < n → fills d p n ≡ true → Tried d next h number p n
unfolding hold_all
tried d next h number p n some f =
    let s : n ≡ suc (n - 1) = omega arith in
    let c = (fills-cut d p n f).1 in
    let t = stepped-at (n - 1) d p (blocks_from d p n) (ap (λ (k : ℕ). cut k (drop p d)) (sym s) ∙ c) in
    let o : blocks_from d (end_at d p) (n - 1) ≡ t.others = rw t.cuts in
    let e : suc number ≡ number + 1 = omega arith in
    record {
      inside = t.inside;
      others = rw (le-leb (end_at d p) (length d) t.inside, t.cuts);
      goes_on = ap (hold_all next h number) t.are ∙ rw (o, ← e) refl;
    }

-- none are left
pub none_tried : (d : List ℕ) (next : ℕ) (h : Holding) (number p n : ℕ) → n ≤ 0 → fills d p n ≡ true
    → hold_all next h number (blocks_from d p n) ≡ h
unfolding hold_all
none_tried d next h number p n z f =
    let e : n ≡ 0 = omega arith in
    let c : cut 0 (drop p d) ≡ whole (blocks_from d p 0) = rw e at (fills-cut d p n f).1 in
    rw e (ap (hold_all next h number) (none-at d p (blocks_from d p 0) c).0)

-- one that is tried leaves the area's length
pub one-long : (next : ℕ) (h : Holding) (number : ℕ) (message : List ℕ) → length (hold_one next h number message).area ≡ length h.area
unfolding hold_all
one-long next h number message = (all-keeps next h number (message ∷ [])).long

-- messages whose blocks fill the datagram from p on come early
module _ (b : Batch) (r : Record) (area : List ℕ) (h : hangs r ≡ true) (a : r.next.0 < b.first) where
  abbrev from : ℕ
  from = b.first

  abbrev ms : List (List ℕ)
  ms = blocks_from b.datagram.now b.place b.count

  many : length ms ≡ b.count
  many = counted b.datagram.now b.place from b.count (brings b)

  -- the packet contradicts
  pub early-clash : clash r (from + b.count - 1) false ≡ true → TakesBatch r b area [] (refused Contradiction) area []
  early-clash c = rw (reports-early r area 0 from ms h a, many, c) (record { answer = refl; bytes = refl; slots = refl })

  -- or its messages are held
  pub early-kept : (held : ℕ) (left : List ℕ) → clash r (from + b.count - 1) false ≡ false
      → Held (hold_all r.next.0 (record { held = r.held; area = area }) from ms) held left
      → TakesBatch r b area []
      (taken (record { bytes = 0; messages = 0; after = told r r.next.0 held (from + b.count - 1) false })) left []
  unfolding frames
  early-kept held left c k =
      rw (reports-early r area 0 from ms h a, many, c, k.bitmap, k.bytes) (record { answer = refl; bytes = refl; slots = refl })

  -- and the output does not matter
  pub early-any : (t : Verdict Taken) (left out : List ℕ) → TakesBatch r b area [] t left []
      → TakesBatch r b area out t left out
  unfolding frames
  early-any t left out e =
      let k = rw (reports-early r area 0 from ms h a, many) at e in
      rw (reports-early r area (length out) from ms h a, many)
      (by-test (clash r (from + b.count - 1) false)
      (λ c. let g = rw c at k in rw c (record { answer = g.answer; bytes = refl; slots = g.slots }))
      (λ c. let g = rw c at k in rw c (record { answer = g.answer; bytes = refl; slots = g.slots })))
