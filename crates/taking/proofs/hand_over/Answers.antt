-- `hand_over` meets its contract: 12; else what is delivered, its own and the released, has room or not, and the record follows.
use Prim.Native.Nat.{max, ◌+◌, ◌-◌, ◌<◌, ◌^◌, ◌≤◌}
use mathlib.Core.Path.{◌≡◌}
use mathlib.Core.Bool.{false}
use native.Mathlib.Omega.{arith}
use lib.ListN.{length}
use Rattle.record.specs.Record.{highest}
use Rattle.record.specs.declared.Session.{Session}
use Rattle.record.specs.declared.Session.TheVariants.{Ufo, Memx}
use Rattle.record.proofs.Hanging.{hanging}
use Rattle.held.specs.declared.releasing.Released.{Released}
use Rattle.wire.specs.Checks.{taken}
use Rattle.wire.proofs.Checks.{passed-on}
use Rattle.held.proofs.Hangs.{freed-sound}
use Rattle.taking.specs.Delivering.{Handed}
use Rattle.taking.proofs.Telling.{contradicted, heard}
use Rattle.taking.proofs.HandingOver.{hands-others, room, tells-clash, tells, released-few}
use Rattle.taking.proofs.hand_over.Goals.{After-deliver}
use Rattle.taking.proofs.hand_over.Goals as goal

-- the highest number of either style, and the one after it, fit
highest-fits : (s : Session) → highest s < 2 ^ 64 - 1
highest-fits (Ufo name) = omega arith
highest-fits (Memx id) = omega arith

given_so : (c : After-deliver) → let a = c.args in
    Handed (room a.batch a.kept a.area.now a.out.now)
    a.out.now c.deliver.result c.deliver.new.out
given_so c =
    let a = c.args in
    let sound = freed-sound a.kept.held a.area.now (a.batch.first + a.batch.count - a.kept.next.0) a.kept.next.0 c.requires.1 in
    rw (hands-others a.batch
    (a.kept.next.0 - a.batch.first) _ a.area.now (a.batch.first + a.batch.count) (length a.out.now) (omega arith) sound) at
    (rw (c.free_from-held.ensures, c.past-past.ensures) at c.deliver.ensures)

reaches : (c : After-deliver) (g : Released) → c.deliver.result ≡ taken g → let a = c.args in
    (g.messages ≤ 31) × (a.batch.first + a.batch.count + g.messages ≤ max a.kept.top.0 (a.batch.first + a.batch.count - 1) + 1)
reaches c g e =
    let a = c.args in
    released-few a.batch a.kept a.area.now a.out.now c.requires.0
    c.requires.2 c.requires.3
    g _ (rw e at (given_so c))

pub returns-in_err-told : goal.returns-in_err-told
returns-in_err-told c =
    let a = c.args in
    let t = contradicted a.kept (a.batch.first + a.batch.count - 1) false (rw c.past-past.ensures at c.tell.ensures) c.in_err-told.was in
    rw (passed-on c.from_residual.result c.from_residual.ensures.1, t.1) (tells-clash a.batch a.kept a.area.now a.out.now t.0)

pub overflow_add-reached : goal.overflow_add-reached
overflow_add-reached c =
    let f = reaches (goal.at.overflow_add-reached c).After-deliver _ c.in_ok-given.was in
    let t = (hanging c.args.kept c.requires.0).bound in
    let u = highest-fits c.args.kept.session in
    omega (arith, f.1)

pub overflow_cast-result : goal.overflow_cast-result
overflow_cast-result c =
    let f = reaches (goal.at.overflow_cast-result c).After-deliver _ c.in_ok-given.was in
    omega (arith, f.0, c.requires.2)

pub returns-in_err-given : goal.returns-in_err-given
returns-in_err-given c =
    let a = c.args in
    let t = heard a.kept (a.batch.first + a.batch.count - 1) false (rw c.past-past.ensures at c.tell.ensures) c.in_ok-told.was in
    let r = c.from_residual-in_err-given in
    rw (passed-on r.result r.ensures.1)
    (tells a.batch a.kept a.area.now a.out.now c.requires.2 c.requires.3 t.0 _ _
    (rw c.in_err-given.was at (given_so (goal.at.returns-in_err-given c).After-deliver)))

pub returns : goal.returns
returns c =
    let a = c.args in
    let t = heard a.kept (a.batch.first + a.batch.count - 1) false (rw c.past-past.ensures at c.tell.ensures) c.in_ok-told.was in
    rw (t.1, c.free_from.ensures, c.free_from-held.ensures, c.past-past.ensures)
    (tells a.batch a.kept a.area.now a.out.now c.requires.2 c.requires.3 t.0 _ _
    (rw c.in_ok-given.was at (given_so (goal.at.returns c).After-deliver)))
