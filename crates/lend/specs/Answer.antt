-- The packet that a request gets, and the heartbeats and ends that can be had at any time.
-- Assumes nothing.
use Rattle.std.specs.Prelude.{ℕ, zero, suc, ◌+◌, ◌-◌, List, [], ◌∷◌, Bool, not, ◌&&◌, length, take, drop, if◌then◌else◌}
use Rattle.wire.specs.Checks.{◌is◌, ◌at_most◌, taken, Check, ◌else◌, checked}
use Rattle.wire.specs.Datagram.{limit}
use Rattle.wire.specs.Reply.{Reply, within}
use Rattle.wire.specs.declared.refusal.Refusal.TheVariants.{Absent, Room, Broken, Contradiction}
use Rattle.blocks.specs.Blocks.{end_at}
use Rattle.ufo.specs.Down.{Packet, messages, end, write}
use Rattle.lent_log.specs.Log.{messages_in, hangs}
use Rattle.lent_log.specs.declared.Log.{Log}
use Rattle.lend.specs.declared.Run.{Run}

-- the greatest k up to c that passes the test, and 0 where none does; Greatest shows that it is
unfoldable pub greatest : (ℕ → Bool) → ℕ → ℕ
greatest p zero = 0
greatest p (suc c) = if p (suc c) then suc c else greatest p c

-- k messages from number f on
abbrev pub from : ℕ → ℕ → List (List ℕ) → Packet
from f k ms = messages f (take k (drop (f - 1) ms))

-- there are so many, and their packet has at most 1,472 bytes
abbrev pub goes : List (List ℕ) → ℕ → ℕ → Bool
goes ms f k = f + k - 1 at_most length ms && length (write (from f k ms)) at_most limit

-- the packet with the most messages, and at most c
abbrev pub packed : List (List ℕ) → ℕ → ℕ → Packet
packed ms f c = from f (greatest (goes ms f) c) ms

-- a heartbeat names the next number, and an end how many there are
abbrev pub heartbeat_of : List (List ℕ) → Packet
heartbeat_of ms = messages (length ms + 1) []

abbrev pub end_of : List (List ℕ) → Packet
end_of ms = end (length ms)

-- the answer to a request for c messages from number f on; Answering shows that it carries one message at least, and as many as go in
unfoldable pub answer_to : Bool → List (List ℕ) → ℕ → ℕ → Packet
answer_to ended ms f c =
    if f at_most length ms then packed ms f c else
    if ended then end_of ms else
    heartbeat_of ms

-- a request that may be answered: it names a number and a count, and there is room for any packet
abbrev pub answerable : Log → List ℕ → ℕ → ℕ → ℕ → List Check
answerable l s f c room =
    (hangs l s else Broken)
    ∷ (not (f is 0) else Absent)
    ∷ (not (c is 0) else Absent)
    ∷ (limit at_most room else Room)
    ∷ []

-- what is laid into lent output of so much room; Given shows that it is a lawful packet, which the reader takes
unfoldable pub answer_reply : Log → List ℕ → ℕ → ℕ → ℕ → Reply
answer_reply l s f c room =
    checked (answerable l s f c room) (taken (write (answer_to l.ended (messages_in l s) f c)))

unfoldable pub heartbeat_reply : Log → List ℕ → ℕ → Reply
heartbeat_reply l s room = checked ((hangs l s else Broken) ∷ []) (within room (write (heartbeat_of (messages_in l s))))

unfoldable pub end_packet_reply : Log → List ℕ → ℕ → Reply
end_packet_reply l s room =
    checked ((hangs l s else Broken) ∷ (l.ended else Contradiction) ∷ []) (within room (write (end_of (messages_in l s))))

-- the pass that counts them: after k blocks of s, which ended at p, c more at most, while all lie within what the header leaves of a
-- packet, from the place `at` on; Measuring shows that it finds the greatest number of them
unfoldable pub run : List ℕ → ℕ → ℕ → ℕ → ℕ → Run
run s at p k zero = record { count = k; end = p }
run s at p k (suc c) =
    if end_at s p at_most length s && end_at s p - at at_most limit - 7
    then run s at (end_at s p) (k + 1) c
    else record { count = k; end = p }
