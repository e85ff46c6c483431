-- `copy` meets its contract: the library's copy, told of the part of the output from a place on.
use Rattle.std.proofs.Common.{arith}
use Rattle.wire.proofs.Settling.{copied}
use Rattle.wire.proofs.output.copy.Goals as goal

pub returns : goal.returns
returns c =
    let a = c.args in
    copied a.out.now a.src.now a.at a.from a.len (omega arith) (omega arith) _ c.copy_from_slice.ensures.after
