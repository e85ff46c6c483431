-- What goes into lent output: one pair of definitions for every writer.
-- Assumes nothing.
use Rattle.std.specs.Prelude.{ℕ, ◌≡◌, List, ◌++◌, length, drop, if◌then◌else◌}
use Rattle.wire.specs.Checks.{◌at_most◌, Verdict, refused, taken, ◌told_by◌}
use Rattle.wire.specs.declared.refusal.Refusal.TheVariants.{Room}

-- a refusal, or the bytes of a packet
abbrev pub Reply : Type 0
Reply = Verdict (List ℕ)

-- the writer's answer: the refusal, or how many bytes were written
abbrev pub answer_of : Reply → Verdict ℕ
answer_of reply = reply told_by length

-- every byte of the lent output afterwards
abbrev pub left_of : Reply → List ℕ → List ℕ
left_of (refused n) out = out
left_of (taken packet) out = packet ++ drop (length packet) out

-- the answer r and the bytes left are those of the reply; so any two outcomes are equal (`Outcomes.same-reply`)
pub record Settled (reply : Reply) (out : List ℕ) (r : Verdict ℕ) (left : List ℕ) : Type 0 where
  pub answer : r ≡ answer_of reply
  pub bytes : left ≡ left_of reply out

-- the packet, if the room is enough for it
abbrev pub within : ℕ → List ℕ → Reply
within room packet = if length packet at_most room then taken packet else refused Room

-- a packet is refused under the number that its reader gives, then for want of room
abbrev pub settle : {A : Type 0} → Verdict A → List ℕ → ℕ → Reply
settle (refused n) packet room = refused n
settle (taken a) packet room = within room packet
