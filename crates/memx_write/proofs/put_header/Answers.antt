-- The type and the header's length are stored byte by byte, and what follows by calls; together they are the header (`header-put`).
use Prim.Native.Nat.{ℕ, ◌+◌}
use mathlib.Core.List.{List, []}
use mathlib.Core.Path.{◌≡◌}
use lib.ListN.{length, take, drop, set}
use lib.Seq.{take-length, sets}
use Rattle.wire.specs.Fields.{bytes_of}
use Rattle.memx.specs.Packet.{header_size, headed}
use Rattle.memx.proofs.Header.{header-put}
use Rattle.memx_write.proofs.put_header.Goals as goal

-- the type, the header's length, the two numbers and the extra bytes, stored one after the other
stored : (out a b left extra : List ℕ) (kind session number : ℕ) → a ≡ sets (set (set out 0 kind) 1 (header_size + length extra)) 2
    (bytes_of 8 session) → b ≡ sets a 10 (bytes_of 8 number) → left ≡ sets b 18 (take (length extra) (drop 0 extra))
    → left ≡ sets out 0 (headed kind session number extra [])
stored out a b left extra kind session number e f g =
    rw (g, f, e, take-length) (header-put out kind session number extra)

pub returns : goal.returns
returns c =
    let a = c.args in
    rw (← c.byte.ensures) (stored a.out.now _ _ _ a.extra.now _ a.session.0 a.number.0 c.put8.ensures c.put8-2.ensures
    c.copy.ensures)
