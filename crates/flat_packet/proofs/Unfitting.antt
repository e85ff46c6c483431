-- The refusal of a body that doesn't belong settles the reply, and leaves the output.
-- Assumes nothing.
use Rattle.std.specs.Prelude.{if◌then◌else◌}
use Prim.Native.Nat.{ℕ}
use mathlib.Core.Path.{◌≡◌, refl}
use mathlib.Core.Bool.{Bool, true, false}
use mathlib.Core.List.{List}
use lib.Dec.{leb}
use Rattle.wire.specs.Checks.{Verdict, refused}
use Rattle.wire.specs.Reply.{Reply, answer_of, left_of, Settled}
use Rattle.wire.specs.declared.refusal.Refusal.{Refusal}
use Rattle.wire.specs.declared.refusal.Refusal.TheVariants.{Overlong}
use Rattle.flat_packet.specs.Fitting.{unfit}

leaves : (b : Bool) (why : Refusal) (out : List ℕ) → out ≡ left_of (if b then refused why else refused Overlong) out
leaves true why out = refl
leaves false why out = refl

pub unfits : (reply : Reply) (out : List ℕ) (limit size : ℕ) (why : Refusal) (r : Verdict ℕ) → reply ≡ unfit limit size why
    → r ≡ answer_of (unfit limit size why) → Settled reply out r out
unfits reply out limit size why r e a = rw e (record { answer = a; bytes = leaves (leb size limit) why out })
