-- `size_of` meets its contract: the length of each message's block, as a number, is that of the block laid out.
use Prim.Native.Nat.{ℕ}
use mathlib.Core.List.{List, ◌∷◌}
use mathlib.Core.Path.{◌≡◌}
use mathlib.Core.Logic.{◌⊎◌, inl, inr}
use native.Mathlib.Omega.{arith}
use lib.ListN.{length}
use Rattle.wire.specs.Fields.{bytes_of}
use Rattle.blocks.specs.Blocks.{frame}
use Rattle.blocks.proofs.Frames.{length-frame}
use Rattle.ufo_up.specs.Up.{write_message}
use Rattle.ufo_compose.specs.Compose.{message_of}
use Rattle.ufo_compose.specs.declared.Message as declared
use Rattle.ufo_compose.specs.declared.Message.TheVariants as given
use Rattle.ufo_compose.proofs.size_of.Goals as goal

pub returns-in-Login : goal.returns-in-Login
unfolding bytes_of
returns-in-Login c = rw c.in-Login.is

pub returns-in-Request : goal.returns-in-Request
unfolding bytes_of
returns-in-Request c = rw c.in-Request.is

pub returns-in-Unsequenced : goal.returns-in-Unsequenced
returns-in-Unsequenced c =
    let bytes = c.args.«data».now in
    rw (c.in-Unsequenced.is, length-frame (85 ∷ bytes)) (omega arith)

-- a type byte alone
alone : (m : declared.Message) (bytes : List ℕ) → (m ≡ given.Heartbeat) ⊎ (m ≡ given.Logout)
    → 3 ≡ length (frame (write_message (message_of m bytes)))
unfolding bytes_of
alone m bytes (inl e) = rw e
alone m bytes (inr e) = rw e

pub returns-in-Heartbeat : goal.returns-in-Heartbeat
returns-in-Heartbeat c = alone c.args.message c.args.«data».now c.in-Heartbeat.is
