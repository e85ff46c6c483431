-- UFO, client to server: a message added behind the packet that the output's first bytes are so far.
-- Assumes nothing.
use Rattle.std.specs.Prelude.{ℕ, List, [], ◌∷◌, ◌++◌, length, take, if◌then◌else◌}
use Rattle.wire.specs.Checks.{◌is◌, ◌at_most◌, Verdict, taken, ◌else◌, checked, ◌into◌}
use Rattle.wire.specs.Reply.{Reply, settle}
use Rattle.wire.specs.declared.refusal.Refusal.TheVariants.{Framing, Bound}
use Rattle.names.specs.Names.{name_bytes, user_bytes}
use Rattle.blocks.specs.Blocks.{frame}
use Rattle.ufo_up.specs.Up.{Message, login, request, unsequenced, heartbeat, logout, write_message, read_up}
use Rattle.ufo_up_write.specs.WriteUp.{capped_in, held_in}
use Rattle.ufo_compose.specs.declared.Message as declared
use Rattle.ufo_compose.specs.declared.Message.TheVariants as given

-- the message that is given, with the data lent beside it
abbrev pub message_of : declared.Message → List ℕ → Message
message_of (given.Login user password session) bytes = login (user_bytes user) (name_bytes password.0) (name_bytes session)
message_of (given.Request first count) bytes = request first.0 count
message_of given.Unsequenced bytes = unsequenced bytes
message_of given.Heartbeat bytes = heartbeat
message_of given.Logout bytes = logout

-- the packet so far: nothing is no fault, and of anything else its reader decides
abbrev pub so_far : List ℕ → Verdict (List Message)
so_far s = if length s is 0 then taken [] else read_up s

-- what the reader says of the packet with the message behind it; then a number that its field can't hold is 7
unfoldable pub verdict_after : List ℕ → Message → Verdict (List Message)
verdict_after s m = read_up (s ++ frame (write_message (capped_in m))) into (λ ms. checked ((held_in m else Bound) ∷ []) (taken ms))

-- a mark past the output's end is 4; then the reader's word on what stands there, then on the whole, and then the room decide. `Composed`
-- shows that what is added to nothing, message by message, is `write_up` of the messages
unfoldable pub add_reply : Message → List ℕ → ℕ → Reply
add_reply m out used =
    checked ((used at_most length out else Framing) ∷ [])
    (so_far (take used out)
    into (λ _. settle (verdict_after (take used out) m) (take used out ++ frame (write_message m)) (length out)))
