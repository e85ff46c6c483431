-- `put_messages` meets its contract: header, count and blocks, stored one after the other, are the packet.
use Prim.Native.Nat.{ℕ, ◌+◌}
use mathlib.Core.List.{List, []}
use mathlib.Core.Path.{◌≡◌}
use lib.ListN.{length, take, drop}
use lib.Seq.{take-length, sets}
use Rattle.wire.specs.Fields.{bytes_of}
use Rattle.memx.specs.Packet.{header_size, headed, laid}
use Rattle.memx.proofs.Header.{laid-put}
use Rattle.memx_write.proofs.put_messages.Goals as goal

-- the header, the count and the blocks, stored one after the other
stored : (out a b left extra blocks : List ℕ) (session first count : ℕ) → let n = header_size + length extra in
    a ≡ sets out 0 (headed 2 session first extra []) → b ≡ sets a n (bytes_of 2 count)
    → left ≡ sets b (n + 2) (take (length blocks) (drop 0 blocks)) → left ≡ sets out 0 (laid session first count extra blocks)
stored out a b left extra blocks session first count e f g =
    rw (g, f, e, take-length) (laid-put out session first count extra blocks)

pub returns : goal.returns
returns c =
    let a = c.args in
    stored a.out.now _ _ _ a.extra.now a.blocks.now a.session.0 a.first.0 a.count c.put_header.ensures
    c.put2.ensures c.copy.ensures
