-- `read` meets its contract: what the room reads of the whole packet, its refusal or how many messages, is laid flat.
use mathlib.Core.Path.{sym, ◌∙◌}
use native.Mathlib.Omega.{arith}
use Rattle.flat_ufo_up.proofs.Counting.{few}
use Rattle.flat_ufo_up.proofs.read.Goals as goal

pub overflow_cast-count : goal.overflow_cast-count
overflow_cast-count c =
    let h = few c.args.packet.now (λ i. (c.shared_slice_known-1.given i).fits) c.in-Ok.count
    (sym c.read_up.ensures ∙ c.in-Ok.is) in
    omega arith
