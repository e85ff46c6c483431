-- How a record stands that tells nothing false of its log: missing is what of N to T is not held, N first, and complete is said only with
-- the whole log.
-- Assumes nothing.
use Prim.Native.Nat.{ℕ, ◌+◌, ◌-◌, ◌≤◌}
use mathlib.Core.List.{List, [], ◌∷◌}
use mathlib.Core.Path.{◌≡◌, refl, ap, ◌∙◌}
use mathlib.Core.Logic.{inl, inr}
use mathlib.Core.Bool.{Bool, true, false}
use native.Mathlib.Omega.{arith}
use borrow.Author.Tests.{leb-true, leb-false}
use lib.Seq.{take_all}
use lib.Dec.{leb}
use Rattle.wire.specs.Checks.{taken}
use Rattle.missing.specs.Missing.{◌to◌}
use Rattle.missing.specs.declared.Range.{Range}
use Rattle.missing.proofs.Apart.{Within}
use Rattle.missing.proofs.Exactly.{missing-exactly, next-missing, first-from-next, first-within}
use Rattle.record.specs.Record.{hangs}
use Rattle.record.specs.Standing.{complete, missing, missing_of, standing}
use Rattle.record.specs.declared.Record.{Record}
use Rattle.record.proofs.Complete.{missing-if, complete-if, standing-means}
use Rattle.session.specs.Session.{State, logged}
use Rattle.session.specs.Promise.{Names, Outcome, whole, lacks, Tells}
use Rattle.session.proofs.Invariant.{Inv}
use Rattle.session.proofs.EveryStep.{hung-record}
use Rattle.session.proofs.Deliveries.{length-deliveries}

-- a number lies within the ranges that name it
within : (rs : List Range) (n : ℕ) → Names rs n → Within n rs
within [] n a = a
within (r ∷ rs) n (inl a) = inl a
within (r ∷ rs) n (inr b) = inr (within rs n b)

named : (rs : List Range) (n : ℕ) → Within n rs → Names rs n
named [] n a = a
named (r ∷ rs) n (inl a) = inl a
named (r ∷ rs) n (inr b) = inr (named rs n b)

-- what is missing begins with a range from N on
module _ (r : Record) where
  pub record First : Type 0 where
    pub last : ℕ
    pub others : List Range
    pub are : missing_of r ≡ (r.next.0 to last) ∷ others
    pub stands : standing r ≡ taken (missing ((r.next.0 to last) ∷ others))

  pub begins-at-next : hangs r ≡ true → r.next.0 ≤ r.top.0 → First
  begins-at-next h l = by (missing_of r) refl where
    by : (rs : List Range) → missing_of r ≡ rs → First
    by [] e = absurd (rw e at (next-missing r.held r.next.0 r.top.0 l))
    by (q ∷ rs) e =
        let f : q.first.0 ≡ r.next.0 = rw e at (first-from-next r.held r.next.0 r.top.0 l) in
        let same : missing_of r ≡ (r.next.0 to q.last.0) ∷ rs = e ∙ ap (λ (x : ℕ). (x to q.last.0) ∷ rs) f in
        record { last = q.last.0; others = rs; are = same; stands = rw (← same) (missing-if r h l) }

  -- and the first range reaches from N to T at most
  pub record Reaches (first last : ℕ) : Type 0 where
    pub from : first ≡ r.next.0
    pub some : first ≤ last
    pub top : last ≤ r.top.0

  pub reaches : (first last : ℕ) (others : List Range) → standing r ≡ taken (missing ((first to last) ∷ others)) → Reaches first last
  reaches first last others e =
      let m = standing-means r (missing ((first to last) ∷ others)) e in
      let f : first ≡ r.next.0 = rw (← m.0) at (first-from-next r.held r.next.0 r.top.0 m.1) in
      let w : (r.next.0 ≤ last) × (last ≤ r.top.0) = rw (← m.0) at (first-within r.held r.next.0 r.top.0 m.1) in
      record { from = f; some = omega (arith, w.0); top = w.1 }

module _ (s : State) (i : Inv s) where
  -- complete is said only with the whole log
  pub all_there : s.kept.ended ≡ true → s.kept.next.0 ≡ s.kept.top.0 + 1 → s.deliveries ≡ logged s
  all_there e n = let t = (i.hold.final e).1 in i.hold.begun ∙ take_all (s.kept.next.0 - 1) (logged s) (omega arith)

  pub complete-so : standing s.kept ≡ taken complete → (s.log.ended ≡ true) × (s.deliveries ≡ logged s)
  complete-so e = let t = standing-means s.kept complete e in ((i.hold.final t.0).0, all_there t.0 t.1)

  -- the end was taken: all is there, or exactly what was not delivered and is not held is missing
  pub outcome : s.kept.ended ≡ true → Outcome s
  outcome e = by (leb s.kept.next.0 s.kept.top.0) refl where
    by : (b : Bool) → leb s.kept.next.0 s.kept.top.0 ≡ b → Outcome s
    by true q =
        let h = leb-true s.kept.next.0 s.kept.top.0 q in
        let t = (i.hold.final e).1 in
        let l = length-deliveries s i in
        let o = i.hold.one in
        let rs = missing_of s.kept in
        let exactly = missing-exactly s.kept.held s.kept.next.0 s.kept.top.0 in
        lacks rs (missing-if s.kept (hung-record s i) h)
        (λ n. (
          λ a. let w = (exactly n).0 (within rs n a) in (omega (arith, w.0), omega (arith, w.1), w.2),
          λ b. named rs n ((exactly n).1 (omega (arith, b.0), omega (arith, b.1), b.2)),
        ))
    by false q =
        let h = leb-false s.kept.next.0 s.kept.top.0 q in
        let n : s.kept.next.0 ≡ s.kept.top.0 + 1 = omega (arith, i.hold.near) in
        whole (complete-if s.kept (hung-record s i) e n) (all_there e n)

-- and so it is told
pub outcome-told : (s : State) → Outcome s → Tells s (standing s.kept)
outcome-told s (whole e all) = rw e all
outcome-told s (lacks ranges e exactly) = rw e exactly
