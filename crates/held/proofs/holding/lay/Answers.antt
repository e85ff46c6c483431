-- `lay` meets its contract: two length bytes and the message, stored side by side, are its block.
use Prim.Native.Nat.{◌*◌}
use native.Mathlib.Omega.{arith}
use lib.ListN.{length}
use lib.Seq.{take_all}
use Rattle.wire.specs.Fields.{bytes_of}
use Rattle.wire.proofs.Width.{length-bytes_of, sets-after}
use Rattle.held.proofs.holding.lay.Goals as goal

pub returns : goal.returns
returns c =
    let a = c.args in
    let m = a.message.now in
    rw (c.copy.ensures, c.put2.ensures, take_all (length m) m (omega arith))
    (sets-after a.area.now (1472 * a.slot) 2 (bytes_of 2 (length m)) m (length-bytes_of 2 (length m)))
