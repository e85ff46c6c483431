use Rattle.std.proofs.Common.{arith}
use Rattle.decimal.proofs.Digits.{less-48}
use Rattle.decimal.proofs.figure.Goals as goal

pub returns : goal.returns
returns c = less-48 _ _ (omega arith) (omega arith) c.wrapping_sub_u64.ensures.value
