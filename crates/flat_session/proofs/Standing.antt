-- What hp_standing_of and hp_missing_range answer of the record that a program holds is how the record of its state stands.
-- Assumes nothing.
use Prim.Native.Nat.{ℕ, zero, suc, ◌≤◌, ◌<◌}
use mathlib.Core.Path.{◌≡◌, refl, sym, ◌∙◌}
use mathlib.Core.List.{List, [], ◌∷◌}
use mathlib.Core.Logic.{inl, inr}
use mathlib.Core.Bool.{true, false}
use native.Mathlib.Omega.{arith}
use lib.ListN.{length}
use Rattle.std.specs.Prelude.{slice_get}
use Rattle.wire.specs.Checks.{◌told_by◌, Verdict, refused, taken, ◌else◌}
use Rattle.wire.specs.declared.refusal.Refusal.TheVariants.{Broken}
use Rattle.wire.proofs.Checks.{all-passed, taken-same}
use Rattle.missing.specs.Missing.{◌to◌, ◌at◌}
use Rattle.missing.specs.declared.Range.{Range}
use Rattle.missing.proofs.Walking.{none-missing}
use Rattle.record.specs.Record.{hangs}
use Rattle.record.specs.Standing.{State as Standing, complete, ongoing, missing, missing_of, state, standing, standing_of, range_at}
use Rattle.record.specs.declared.Record.{Record}
use Rattle.record.proofs.Complete.{standing-means}
use Rattle.session.specs.Session.{State, logged, Reached}
use Rattle.session.specs.Promise as session
use Rattle.session.specs.Promise.{Names}
use Rattle.session.proofs.EveryStep.{inv, hung-record}
use Rattle.session.proofs.Standing.{begins-at-next}
use Rattle.session.proofs.Claims.{never-early}
use Rattle.flat_record.specs.Keeping.{flat_standing}
use Rattle.flat_record.proofs.Ranges.{flat-at}
use Rattle.flat_record.specs.declared.keeping.FlatStanding.{FlatStanding}
use Rattle.flat_record.proofs.Complete.{complete-exactly-if}
use Rattle.flat_session.specs.Header.{hp-standing-of, hp-missing-range}
use Rattle.flat_session.specs.Face.{Held, Holds, ranges_of, Stands, Ranges}
use Rattle.flat_session.specs.Promise.{NeverEarly, Lacks, Outcome, whole, lacks}
use Rattle.flat_session.proofs.Holding.{ended_so, messages-are, holds_same}

none : (k : ℕ) → k < 0 → ⊥
none k l = omega arith

-- a number that ranges name is in the one at some place, and back
named-at : (rs : List Range) (n : ℕ) → Names rs n → (k : ℕ) × (k < length rs) × ((rs at k).first.0 ≤ n) × (n ≤ (rs at k).last.0)
named-at [] n a = absurd a
named-at (r ∷ rs) n (inl a) = (0, omega arith, a.0, a.1)
named-at (r ∷ rs) n (inr b) = let w = named-at rs n b in (suc w.0, omega (arith, w.1), w.2, w.3)

names-so : (rs : List Range) (k n : ℕ) → k < length rs → (rs at k).first.0 ≤ n → n ≤ (rs at k).last.0 → Names rs n
names-so [] k n l a b = absurd (none k l)
names-so (r ∷ rs) zero n l a b = inl (a, b)
names-so (r ∷ rs) (suc k) n l a b = inr (names-so rs k n (omega arith) a b)

-- ranges of which the first is told
pub lacking : (v : Verdict Standing) (x : FlatStanding) → x ≡ flat_standing (v told_by standing_of) → 1 ≤ x.missing
    → (others : List Range) × (v ≡ taken (missing ((x.first to x.last) ∷ others)))
lacking (refused n) x e l = absurd (none 0 (rw e at l))
lacking (taken complete) x e l = absurd (none 0 (rw e at l))
lacking (taken ongoing) x e l = absurd (none 0 (rw e at l))
lacking (taken (missing [])) x e l = absurd (none 0 (rw e at l))
lacking (taken (missing (q ∷ rs))) x e l = (rs, rw e)

-- the answers, laid flat
as-it-stands : (v : Standing) → Stands (flat_standing (taken (standing_of v))) v
as-it-stands complete = record { refusal = refl; complete = refl; missing = refl; first = refl; last = refl }
as-it-stands ongoing = record { refusal = refl; complete = refl; missing = refl; first = refl; last = refl }
as-it-stands (missing rs) = record { refusal = refl; complete = refl; missing = refl; first = refl; last = refl }

all-ranges : (r : Record) (v : Standing) → standing r ≡ taken v → missing_of r ≡ ranges_of v
all-ranges r complete e = let m = standing-means r complete e in none-missing r.held r.next.0 r.top.0 (omega (arith, m.1))
all-ranges r ongoing e = let m = standing-means r ongoing e in none-missing r.held r.next.0 r.top.0 (omega (arith, m.1))
all-ranges r (missing rs) e = sym (standing-means r (missing rs) e).0

range_at_lem : (r : Record) (v : Standing) → standing r ≡ taken v → (place : ℕ) → range_at r place ≡ taken (slice_get (ranges_of v) place)
unfolding standing range_at
range_at_lem r v e place =
    let hung : hangs r ≡ true = (all-passed ((hangs r else Broken) ∷ []) (taken (state r)) v e).0.0 in
    rw (hung, all-ranges r v e)

-- the record of every state hangs together, so that it stands somehow
pub stood : (s : State) → Reached s → standing s.kept ≡ taken (state s.kept)
unfolding standing
stood s r = rw (hung-record s (inv r))

module _ (h : Held) (s : State) (i : Holds h s) where
  pub standing-left : hp-standing-of h.kept (λ x. x ≡ flat_standing (standing s.kept told_by standing_of))
  standing-left κs a x e g p = rw (p, g, i.kept)

  pub stands : (v : Standing) → standing s.kept ≡ taken v → hp-standing-of h.kept (λ x. Stands x v)
  stands v q κs a x e g p = rw (p, g, i.kept, q) (as-it-stands v)

  pub ranges : (v : Standing) → standing s.kept ≡ taken v → (k : ℕ) → hp-missing-range h.kept k (λ x. Ranges x v k)
  ranges v q k κs a x e g p =
      rw (p, g.0, g.1, i.kept, range_at_lem s.kept v q k, flat-at (ranges_of v) k) (record { refusal = refl; first = refl; last = refl })

  -- complete is said only with the whole of a log that has ended
  pub complete-so : Reached s → NeverEarly h
  complete-so r κs a x e g p c =
      let w = (complete-exactly-if h.kept).0 (rw (p, g) at c) in
      let same = taken-same w.0 s.kept (sym w.1 ∙ i.kept) in
      let t = never-early r (rw same at w.2) in
      (ended_so h s i t.0, rw (i.deliveries, messages-are h s i) t.1)

  -- what of the log is lacking, ranges name, each at its place, and nothing else
  lacks-same : (n : ℕ) → Lacks h n ≡ ((length s.deliveries < n) × (n ≤ length (logged s)) × (session.holds s n ≡ false))
  lacks-same n = simp (i.deliveries, messages-are h s i, holds_same h s i n)

  module _ (r : Reached s) (rs : List Range) (q : standing s.kept ≡ taken (missing rs)) (names : session.Lacks s rs) where
    some-range : 1 ≤ length rs
    some-range =
        let m = standing-means s.kept (missing rs) q in
        let f = begins-at-next s.kept (hung-record s (inv r)) m.1 in
        rw (m.0, f.are) (omega arith)

    within-lacks : (k : ℕ) → k < length rs → hp-missing-range h.kept k (λ x. (n : ℕ) → x.first ≤ n → n ≤ x.last → Lacks h n)
    within-lacks k l κs a x e g p n low high =
        let w = ranges (missing rs) q k κs a x e g p in
        rw (lacks-same n) ((names n).0 (names-so rs k n l (rw w.first at low) (rw w.last at high)))

    lacks-within : (n : ℕ) → Lacks h n → (k : ℕ) × (k < length rs) × hp-missing-range h.kept k (λ x. (x.first ≤ n) × (n ≤ x.last))
    lacks-within n lack =
        let found = named-at rs n ((names n).1 (rw (lacks-same n) at lack)) in
        let here = ranges (missing rs) q found.0 in
        (found.0, found.1, λ κs a x e g p. let w = here κs a x e g p in (rw w.first found.2, rw w.last found.3))

  pub outcome-left : Reached s → session.Outcome s → hp-standing-of h.kept (λ x. (x.refusal ≡ 0) × Outcome h x)
  outcome-left r (session.whole q d) = λ κs a x e g p.
      let t = stands complete q κs a x e g p in (t.refusal, whole t.complete (rw (i.deliveries, messages-are h s i) d))
  outcome-left r (session.lacks rs q names) = λ κs a x e g p.
      let t = stands (missing rs) q κs a x e g p in (
        t.refusal,
        lacks t.complete (rw t.missing (some-range r rs q names)) (rw t.missing (within-lacks r rs q names))
            (rw t.missing (lacks-within r rs q names)),
      )
