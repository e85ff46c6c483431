-- An end that is taken is the log's own, and marks the record ended for good.
-- Assumes nothing.
use Prim.Native.Nat.{ℕ}
use mathlib.Core.Path.{◌≡◌, refl, sym}
use mathlib.Core.List.{List, Memᴰ}
use mathlib.Core.Bool.{true, or-true}
use lib.ListN.{length}
use Rattle.wire.specs.Checks.{taken}
use Rattle.ufo.specs.Down as ufo
use Rattle.reports.specs.Reports.{end}
use Rattle.taking.specs.Taking.{Taking, taking}
use Rattle.session.specs.Session.{State, logged, takes, step, Run}
use Rattle.session.specs.Promise.{Outcome}
use Rattle.session.proofs.Invariant.{Vouches, Inv}
use Rattle.session.proofs.EveryStep.{took-so, vouched-if-reported, vouched-if-taken, good, along}
use Rattle.session.proofs.Standing.{outcome}
use Rattle.session.proofs.Fetching.{same-report}

module _ (datagram : List ℕ) (total : ℕ) (e : ufo.read datagram ≡ taken (ufo.end total)) where
  -- what it reports, wherever it arrives
  reports : (s : State) (g : Vouches s datagram) → g.report ≡ end total
  reports s g = same-report datagram g.packet (ufo.end total) g.report (end total) g.gives.reads e g.vouched.reports refl

  marks : (s : State) (i : Inv s) (g : Vouches s datagram) (room : ℕ) (took : Taking)
      → taking s.kept s.area datagram room ≡ taken took → (step s (takes datagram room)).kept.ended ≡ true
  marks s i g room took h = rw (h, took-so s i datagram g room took h, reports s g) (or-true s.kept.ended)

  pub ended : (s t : State) → Inv s → (room : ℕ) (took : Taking) → Memᴰ datagram s.down
      → taking s.kept s.area datagram room ≡ taken took → Run (step s (takes datagram room)) t
      → (t.log.ended ≡ true) × (length (logged t) ≡ total) × Outcome t
  ended s t i room took m h r =
      let w = vouched-if-taken s i datagram (i.line datagram m) room took h in
      let g = good s (takes datagram room) m i in
      let k = along r g.inv in
      let j = k.inv in
      let n = k.later.down datagram (g.later.down datagram m) in
      let v = vouched-if-reported t j datagram (j.line datagram n) (ufo.end total) (end total) e refl in
      let f = rw (reports t v) at v.vouched.genuine.final in
      let o = f refl in
      (o.0, sym o.1, outcome t j (k.later.over (marks s i w room took h)))
