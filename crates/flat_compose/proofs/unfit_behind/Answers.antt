-- `unfit_behind` meets its contract: 4 for the place, then what is there is read, then the size of the whole decides.
use Prim.Native.Nat.{◌+◌}
use mathlib.Core.Path.{sym, ◌∙◌}
use native.Mathlib.Omega.{arith}
use native.Mathlib.Nat.{add_assoc}
use lib.ListN.{length, take, length-take}
use Rattle.wire.proofs.Checks.{passed-on, told-refused}
use Rattle.ufo_up.proofs.UpPacket.{was-taken}
use Rattle.ufo_compose.specs.Compose.{so_far}
use Rattle.flat_compose.proofs.Behind.{past_the_end, as-so-far, and-then-unfit}
use Rattle.flat_compose.proofs.unfit_behind.Goals as goal

pub returns-then-out-used : goal.returns-then-out-used
returns-then-out-used c = past_the_end _ _ _ _ c.if-out-used.true

pub slice_bounds-read_so_far-end-2 : goal.slice_bounds-read_so_far-end-2
slice_bounds-read_so_far-end-2 c =
    let a = c.args in
    rw (length-take a.used a.out.now) (omega arith)

pub returns-in_err-read_so_far : goal.returns-in_err-read_so_far
returns-in_err-read_so_far c =
    let a = c.args in
    let why = c.in_err-read_so_far.field-0.0 in
    rw (passed-on c.from_residual.result c.from_residual.ensures.1)
    (as-so-far a.out.now a.used _ _ (omega arith) why
    (told-refused (so_far (take a.used a.out.now)) length why (sym c.read_so_far.ensures ∙ c.in_err-read_so_far.was)))

pub returns : goal.returns
returns c =
    let a = c.args in
    let begun = was-taken (so_far (take a.used a.out.now)) c.in_ok-read_so_far.field-0
    (sym c.read_so_far.ensures ∙ c.in_ok-read_so_far.was) in
    and-then-unfit a.out.now a.used (a.size + length a.body.now) _ (omega arith) begun _
    (rw (← add_assoc a.used a.size (length a.body.now)) c.unfit.ensures)
