-- UFO, client to server: writing one message as a block.
-- Assumes nothing.
use Rattle.std.specs.Prelude.{ℕ, List, [], ◌∷◌, Bool, true}
use Rattle.wire.specs.Checks.{Verdict, taken, ◌else◌, checked, ◌into◌}
use Rattle.wire.specs.Reply.{Reply, settle}
use Rattle.wire.specs.declared.refusal.Refusal.TheVariants.{Bound}
use Rattle.blocks.specs.Blocks.{frame}
use Rattle.ufo.specs.Numbers.{held, capped}
use Rattle.ufo_up.specs.Up.{Message, login, request, unsequenced, heartbeat, logout, write_message, read_up}

-- the message, with its number brought down to what its field can hold
abbrev pub capped_in : Message → Message
capped_in (login user password session) = login user password session
capped_in (request first count) = request (capped first) count
capped_in (unsequenced bytes) = unsequenced bytes
capped_in heartbeat = heartbeat
capped_in logout = logout

-- its field can hold it as it is
abbrev pub held_in : Message → Bool
held_in (login user password session) = true
held_in (request first count) = held first
held_in (unsequenced bytes) = true
held_in heartbeat = true
held_in logout = true

-- what the reader says of the packet that holds this message alone; then a number that its field can't hold is 7
unfoldable pub verdict : Message → Verdict (List Message)
verdict m = read_up (frame (write_message (capped_in m))) into (λ ms. checked ((held_in m else Bound) ∷ []) (taken ms))

-- `UpReplies` shows the reply by the message's fields, and that a lawful one is written
unfoldable pub reply : Message → ℕ → Reply
reply m room = settle (verdict m) (frame (write_message m)) room
