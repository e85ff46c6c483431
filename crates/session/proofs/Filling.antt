-- A hole can be fetched: where the line carries each request and its answer, and the wait is over before each, exchanges are to be had
-- until it is.
-- Assumes nothing.
use Prim.Native.Nat.{ℕ, zero, suc, ◌+◌, ◌-◌, ◌≤◌, ◌<◌}
use mathlib.Core.Path.{◌≡◌, refl}
use mathlib.Core.List.{List, ◌∷◌}
use mathlib.Core.Logic.{inr}
use mathlib.Core.Bool.{Bool, true, false}
use native.Mathlib.Omega.{arith}
use borrow.Author.Tests.{leb-true, leb-false}
use lib.Dec.{leb}
use lib.Ieee.{Float}
use Rattle.wire.specs.Checks.{taken}
use Rattle.clock.specs.Patience.{wait_over}
use Rattle.clock.specs.declared.sheet.Sheet.{Sheet}
use Rattle.clock.specs.declared.patience.Patience.{Patience}
use Rattle.missing.specs.Missing.{◌to◌}
use Rattle.missing.specs.declared.Range.{Range}
use Rattle.record.specs.Standing.{missing, standing}
use Rattle.asking.specs.Asking.{asked_now}
use Rattle.session.specs.Session.{State, stop}
use Rattle.session.specs.Promise.{Delivered, Exchange, Exchanges, none, more, Under, EachUnder}
use Rattle.session.proofs.Invariant.{Inv}
use Rattle.session.proofs.EveryStep.{hung-record}
use Rattle.session.proofs.Deliveries.{delivered}
use Rattle.session.proofs.Standing.{begins-at-next, reaches}
use Rattle.session.proofs.Fetching.{exchanged}
use Rattle.session.proofs.Serving.{wish-so, exchange}

module _ (sheet : Sheet) (rule : Patience) (elapsed : Float) (over : wait_over sheet rule elapsed ≡ taken true) where
  -- while something is missing, one more is to be had
  again : (t : State) → Inv t → t.kept.next.0 ≤ t.kept.top.0 → (u : State) × (x : Exchange t u) × Under sheet rule elapsed x
  again t i l =
      let n : ℕ = t.kept.next.0 in
      let f = begins-at-next t.kept (hung-record t i) l in
      let w = wish-so t i n f.last f.others f.stands sheet rule elapsed true over (inr refl) in
      exchange t i n _ (record { sheet = sheet; rule = rule; elapsed = elapsed; after = asked_now t.kept; wish = w })

  -- exchanges from s on, at most so many, after which the number to be delivered next is past the last
  record Led (s : State) (last most : ℕ) : Type 0 where
    n : ℕ
    t : State
    had : Exchanges s n t
    under : EachUnder sheet rule elapsed had
    few : n ≤ most
    inv : Inv t
    past : last < t.kept.next.0

  -- n were had, up to t; at most k more lead there
  leads : (s : State) (last k n : ℕ) (t : State) (x : Exchanges s n t) → EachUnder sheet rule elapsed x → Inv t → last ≤ t.kept.top.0
      → last + 1 ≤ t.kept.next.0 + k → Led s last (n + k)
  leads s last zero n t x v i l h = record { n = n; t = t; had = x; under = v; few = omega arith; inv = i; past = omega arith }
  leads s last (suc k) n t x v i l h = by (leb t.kept.next.0 last) refl (leads s last k (suc n)) where
    by : (b : Bool) → leb t.kept.next.0 last ≡ b
        → ((u : State) (y : Exchanges s (suc n) u) → EachUnder sheet rule elapsed y → Inv u → last ≤ u.kept.top.0
        → last + 1 ≤ u.kept.next.0 + k → Led s last (suc n + k))
        → Led s last (n + suc k)
    by false e go =
        let p = leb-false t.kept.next.0 last e in
        record { n = n; t = t; had = x; under = v; few = omega arith; inv = i; past = omega arith }
    by true e go =
        let q = leb-true t.kept.next.0 last e in
        let y = again t i (omega arith) in
        let g = exchanged t y.0 i y.1 in
        let r = go y.0 (more x y.1 stop) (v, y.2) g.0.inv (omega (arith, g.0.later.top)) (omega (arith, g.1)) in
        record { n = r.n; t = r.t; had = r.had; under = r.under; few = omega (arith, r.few); inv = r.inv; past = r.past }

  pub fillable : (s : State) → Inv s → (first last : ℕ) (others : List Range)
      → standing s.kept ≡ taken (missing ((first to last) ∷ others))
      → (n : ℕ) × (t : State) × (x : Exchanges s n t) × EachUnder sheet rule elapsed x × (n ≤ last + 1 - first)
      × ((k : ℕ) → first ≤ k → k ≤ last → Delivered t k)
  fillable s i first last others e =
      let m = reaches s.kept first last others e in
      let r = leads s last (last + 1 - first) 0 s (none stop) tt i m.top (omega (arith, m.from)) in
      let all : (k : ℕ) → first ≤ k → k ≤ last → Delivered r.t k =
      λ k a b. delivered r.t r.inv k (omega (arith, m.from, i.hold.one)) (omega (arith, r.past)) in
      (r.n, r.t, r.had, r.under, omega (arith, r.few), all)
