-- A packet's 1,472 bytes are a block's length of 2, a type byte, and the most data of `U`.
-- Assumes nothing.
use Prim.Native.Nat.{◌+◌}
use mathlib.Core.Path.{◌≡◌, refl}
use Rattle.wire.specs.Datagram.{limit}
use Rattle.ufo_up.specs.Up.{most_data}

pub most-data-fills-a-packet : limit ≡ 3 + most_data
most-data-fills-a-packet = refl
