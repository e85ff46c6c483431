use mathlib.Core.Path.{◌≡◌, sym, ◌∙◌}
use mathlib.Core.Bool.{true}
use native.Mathlib.Omega.{arith}
use Rattle.held.specs.Hanging.{sound}
use Rattle.held.proofs.Going.{run_fits}
use Rattle.held.proofs.Letting.{lets_go, nothing-goes}
use Rattle.held.proofs.releasing.release.Goals.{Else-not-is_sound}
use Rattle.held.proofs.releasing.release.Goals as goal

sound-so : (c : Else-not-is_sound) → sound c.args.held c.args.area.now ≡ true
sound-so c = sym c.is_sound.ensures ∙ c.if-not-is_sound.false

pub returns-then-held-eq0 : goal.returns-then-held-eq0
returns-then-held-eq0 c =
    let a = c.args in
    nothing-goes a.held a.area.now a.number a.at a.out.now (sound-so (goal.at.returns-then-held-eq0 c).Else-not-is_sound) c.if-held-eq0.true
    c.if-out-at.false

pub size-bytes-requires : goal.size-bytes-requires
size-bytes-requires c =
    let a = c.args in
    rw c.run-messages.ensures.0 (run_fits a.held a.area.now a.number (sound-so (goal.at.size-bytes-requires c).Else-not-is_sound))

pub lay-requires : goal.lay-requires
lay-requires c =
    let a = c.args in (
      rw c.run-messages.ensures.0 (run_fits a.held a.area.now a.number (sound-so (goal.at.lay-requires c).Else-not-is_sound)),
      omega (arith, c.if-out-at-2.false, c.if-out-at.false, c.size-bytes.ensures),
    )

pub returns : goal.returns
returns c =
    let a = c.args in
    lets_go a.held a.area.now a.number a.at a.out.now (sound-so (goal.at.returns c).Else-not-is_sound) c.run-messages.result
    c.run-messages.ensures.0 _ _
    c.size-bytes.ensures (omega (arith, c.if-out-at-2.false, c.if-out-at.false)) c.lay.ensures
