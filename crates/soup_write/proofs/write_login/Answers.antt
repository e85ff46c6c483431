-- `write_login` meets its contract: its texts and its number, side by side, are the packet that is then sent.
use Prim.Native.Nat.{ℕ}
use mathlib.Core.Path.{refl, ap}
use mathlib.Core.List.{List}
use lib.ListN.{length, replicate}
use Rattle.names.specs.Names.{name_bytes, user_bytes}
use Rattle.names.proofs.Packing.{length-name_bytes, length-user_bytes}
use Rattle.wire.proofs.Settling.{settled-by}
use Rattle.soup_write.specs.Writing.{sent}
use Rattle.soup_write.proofs.Laying.{number-laid, login-laid}
use Rattle.soup_write.proofs.write_login.Goals as goal

pub returns : goal.returns
returns c =
    let a = c.args in
    let w = number-laid _ _ _ 27 a.number.0 c.characters-digits.ensures c.copy.ensures in
    let e = login-laid (replicate 48 0) _ _ _ _ (user_bytes a.user) (name_bytes a.password.0) (name_bytes a.session) a.number.0
    refl (length-user_bytes a.user) (length-name_bytes a.password.0) (length-name_bytes a.session) c.put_user.ensures
    c.put_name.ensures c.put_name-2.ensures w in
    settled-by (ap (λ (packet : List ℕ). sent packet (length a.out.now)) e) c.write_packet.ensures
