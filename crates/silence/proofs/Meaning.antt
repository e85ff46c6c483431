-- What silence means, said with sums: so much later than the last packet.
-- Assumes nothing.
use Prim.Native.Nat.{ℕ, ◌+◌, ◌-◌, ◌<◌}
use mathlib.Core.Path.{◌≡◌, refl}
use mathlib.Core.Bool.{true, false, not}
use mathlib.Core.List.{[], ◌∷◌}
use mathlib.Core.Logic.{◌↔◌}
use native.Mathlib.Omega.{arith}
use borrow.Author.Tests.{le-leb, lt-leb, leb-false, leb-true}
use lib.Dec.{leb}
use Rattle.wire.specs.Checks.{taken, ◌else◌}
use Rattle.wire.specs.declared.kinds.Tick.{Tick}
use Rattle.wire.specs.declared.refusal.Refusal.TheVariants.{Clock}
use Rattle.wire.proofs.Tests.{failed}
use Rattle.wire.proofs.Checks.{all-passed, taken-same}
use Rattle.silence.specs.Silence.{exceeds}

module _ (limit : ℕ) (now last : Tick) where
  passes : exceeds limit now last ≡ taken true → last.0 + limit < now.0
  passes e =
      let p = all-passed ((leb last.0 now.0 else Clock) ∷ []) (taken (not (leb (now.0 - last.0) limit))) true e in
      let early = leb-true last.0 now.0 p.0.0 in
      let more : leb (now.0 - last.0) limit ≡ false = failed refl (taken-same (not (leb (now.0 - last.0) limit)) true p.1) in
      let long = leb-false (now.0 - last.0) limit more in
      omega arith

  passed : last.0 + limit < now.0 → exceeds limit now last ≡ taken true
  passed l = rw (le-leb last.0 now.0 (omega arith), lt-leb (now.0 - last.0) limit (omega arith))

  longer : (exceeds limit now last ≡ taken true) ↔ (last.0 + limit < now.0)
  longer = (passes, passed)

-- The line is lost exactly if it was last heard more than 10,000 milliseconds ago.
pub lost : (now heard : Tick) → (exceeds 10000 now heard ≡ taken true) ↔ (heard.0 + 10000 < now.0)
lost = longer 10000

-- A heartbeat is due exactly if something was last sent more than 1,000 milliseconds ago.
pub due : (now sent : Tick) → (exceeds 1000 now sent ≡ taken true) ↔ (sent.0 + 1000 < now.0)
due = longer 1000
