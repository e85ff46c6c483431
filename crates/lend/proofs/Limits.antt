-- A packet's 1,472 bytes are a header of 7, a block's length of 2, and the longest message of a log.
-- Assumes nothing.
use Prim.Native.Nat.{◌+◌}
use mathlib.Core.Path.{◌≡◌, refl}
use Rattle.wire.specs.Datagram.{limit}
use Rattle.lent_log.specs.Log.{longest}

pub longest-fills-a-packet : limit ≡ 7 + 2 + longest
longest-fills-a-packet = refl
