-- `write_accept` meets its contract: its texts and its number, side by side, are the packet that is then sent.
use Prim.Native.Nat.{ℕ}
use mathlib.Core.Path.{refl, ap}
use mathlib.Core.List.{List}
use lib.ListN.{length, replicate}
use Rattle.names.specs.Names.{name_bytes}
use Rattle.names.proofs.Packing.{length-name_bytes}
use Rattle.wire.proofs.Settling.{settled-by}
use Rattle.soup_write.specs.Writing.{sent}
use Rattle.soup_write.proofs.Laying.{number-laid, accept-laid}
use Rattle.soup_write.proofs.write_accept.Goals as goal

pub returns : goal.returns
returns c =
    let a = c.args in
    let w = number-laid _ _ _ 11 a.number.0 c.characters-digits.ensures c.copy.ensures in
    let e = accept-laid (replicate 32 0) _ _ (name_bytes a.session) a.number.0 refl (length-name_bytes a.session)
    c.put_name.ensures w in
    settled-by (ap (λ (packet : List ℕ). sent packet (length a.out.now)) e) c.write_packet.ensures
