-- What is promised to a program in C, in the header's words: of what it holds, and of what the header's functions answer of that. Claims
-- shows each of these from the claim of `session` that has its name.
-- Assumes nothing.
use Rattle.std.specs.Prelude.{ℕ, zero, suc, ◌+◌, ◌-◌, ◌^◌, ◌%◌, ◌≤◌, ◌<◌, ◌≡◌, ◌⊎◌, List, [], Bool, true, false, Float, length, take}
use Rattle.std.specs.Prelude.{get_or}
use Rattle.wire.specs.Fields.{Bytes}
use Rattle.blocks.specs.Blocks.{frames}
use Rattle.lent_log.specs.Log.{messages_in}
use Rattle.held.specs.Slots.{area_size, held_message}
use Rattle.missing.specs.Missing.{is_held}
use Rattle.session.specs.Session.{◌among◌, enough}
use Rattle.flat_clock.specs.declared.FlatPatience.{FlatPatience}
use Rattle.flat_clock.specs.declared.FlatSheet.{FlatSheet}
use Rattle.flat_log.specs.Lending.{log_of}
use Rattle.flat_record.specs.declared.keeping.FlatStanding.{FlatStanding}
use Rattle.flat_record.specs.declared.keeping.FlatTaken.{FlatTaken}
use Rattle.flat_session.specs.Header.{hp-ufo-read-down, hp-log-answer, hp-standing-of, hp-missing-range}
use Rattle.flat_session.specs.Face.{Held, LeavesTaken, LeavesAsked, LeavesSteps, LeavesOpened}

-- Whatever the program does, from the record that hp_open_ufo opened on: after any number of steps this is true of what it holds.
abbrev pub Always : (Held → Type 0) → Type 0
Always Claim =
    (name lent area : List ℕ) → Bytes lent → area_size ≤ length area → (n : ℕ) → LeavesOpened name lent area (λ h. LeavesSteps n h Claim)

-- the messages of the log, whose blocks stand in the lent bytes; and whether number n is held
abbrev pub messages : Held → List (List ℕ)
messages h = messages_in (log_of h.log) h.lent

abbrev pub holds : Held → ℕ → Bool
holds h n = is_held h.kept.held h.kept.next n

-- 1. The deliveries are the log's first messages, each once, in order, and its very bytes; what is held is the log's message of its number.
pub record Faithful (h : Held) : Type 0 where
  pub begun : h.deliveries ≡ take (h.kept.next - 1) (messages h)
  pub inside : h.kept.next ≤ length (messages h) + 1
  pub bytes : frames h.deliveries ≡ take (length (frames h.deliveries)) h.lent
  pub held : (n : ℕ) → holds h n ≡ true → (n ≤ length (messages h)) × (held_message h.area n ≡ get_or (messages h) (n - 1) [])

-- 2. A datagram that was sent is taken, given 47,104 bytes of output; or it is an `A` or a `J`, is refused as 16, and all stays as it was.
abbrev pub AnswersLogin : List ℕ → Type 0
AnswersLogin datagram = hp-ufo-read-down datagram (λ x. (x.refusal ≡ 0) × ((x.packet.kind ≡ 65) ⊎ (x.packet.kind ≡ 74)))

pub data Received (h : Held) (datagram : List ℕ) (x : FlatTaken) (g : Held) : Type 0 where
  took : x.refusal ≡ 0 → Received h datagram x g
  passed : AnswersLogin datagram → x.refusal ≡ 16 → g ≡ h → Received h datagram x g

abbrev pub NeverRefused : Held → Type 0
NeverRefused h = (datagram : List ℕ) (room : ℕ) → datagram among h.down → enough ≤ room
    → LeavesTaken h datagram room (Received h datagram)

-- 3. Once an `E` has been taken, with whatever output, its total is the log's, which has ended; and hp_standing_of says complete, with the
-- whole log delivered, or so many ranges, of which hp_missing_range tells exactly what of the log is neither delivered nor held.
abbrev pub Lacks : Held → ℕ → Type 0
Lacks h n = (length h.deliveries < n) × (n ≤ length (messages h)) × (holds h n ≡ false)

pub data Outcome (h : Held) (x : FlatStanding) : Type 0 where
  whole : x.complete ≡ 1 → h.deliveries ≡ messages h → Outcome h x
  lacks : x.complete ≡ 0
      → 1 ≤ x.missing
      → ((k : ℕ) → k < x.missing → hp-missing-range h.kept k (λ r. (n : ℕ) → r.first ≤ n → n ≤ r.last → Lacks h n))
      → ((n : ℕ) → Lacks h n → (k : ℕ) × (k < x.missing) × hp-missing-range h.kept k (λ r. (r.first ≤ n) × (n ≤ r.last)))
      → Outcome h x

abbrev pub Ended : ℕ → Held → Type 0
Ended total h =
    (h.log.ended ≡ 1) × (length (messages h) ≡ total) × hp-standing-of h.kept (λ x. (x.refusal ≡ 0) × Outcome h x)

abbrev pub OnceEnded : (datagram : List ℕ) → FlatTaken → Held → Type 0
OnceEnded datagram x h = x.refusal ≡ 0
    → hp-ufo-read-down datagram (λ y. y.packet.kind ≡ 69 → (m : ℕ) → LeavesSteps m h (Ended y.packet.number))

abbrev pub AtTheEnd : Held → Type 0
AtTheEnd h = (datagram : List ℕ) (room : ℕ) → datagram among h.down → LeavesTaken h datagram room (OnceEnded datagram)

-- hp_standing_of never says complete but with the whole of a log that has ended.
abbrev pub NeverEarly : Held → Type 0
NeverEarly h = hp-standing-of h.kept (λ x. x.complete ≡ 1 → (h.log.ended ≡ 1) × (h.deliveries ≡ messages h))

-- 4. An exchange: hp_ask says to request some numbers. Later hp_log_answer writes a datagram for them, the first as a uint32_t and the
-- count as a uint16_t. Later still that datagram arrives and is taken, with whatever output. Whatever else may happen in between.
abbrev pub LeavesFetched : Held → (datagram : List ℕ) → (Held → Type 0) → Type 0
LeavesFetched h datagram left = (room : ℕ) → datagram among h.down → LeavesTaken h datagram room (λ x g. x.refusal ≡ 0 → left g)

abbrev pub LeavesServed : Held → (first count : ℕ) → (Held → Type 0) → Type 0
LeavesServed h first count left = (room : ℕ)
    → hp-log-answer h.log h.lent (first % 2 ^ 32) (count % 2 ^ 16) room
    (λ x out. x.refusal ≡ 0 → (m : ℕ) → LeavesSteps m h (λ g. LeavesFetched g (take x.bytes out) left))

abbrev pub LeavesExchanged : Held → (ℕ → Held → Type 0) → Type 0
LeavesExchanged h left = (sheet : FlatSheet) (patience : FlatPatience) (elapsed : Float) (room : ℕ)
    → LeavesAsked h sheet patience elapsed room
    (λ x g. x.what ≡ 2 → (m : ℕ) → LeavesSteps m g (λ f. LeavesServed f x.first x.count (left x.first)))

-- Then the first of those numbers has been delivered, as the log has it.
pub record Delivered (h : Held) (n : ℕ) : Type 0 where
  pub some : 1 ≤ n
  pub within : n ≤ length h.deliveries
  pub same : get_or h.deliveries (n - 1) [] ≡ get_or (messages h) (n - 1) []

abbrev pub Fetched : Held → Type 0
Fetched h = LeavesExchanged h (λ first g. Delivered g first)

-- 5. So many exchanges one after another, and whatever else may happen before, between and after them. As many as the first missing range
-- has messages, and the whole of it has been delivered.
abbrev pub LeavesAll : ℕ → Held → (Held → Type 0) → Type 0
LeavesAll zero h left = (m : ℕ) → LeavesSteps m h left
LeavesAll (suc n) h left = (m : ℕ) → LeavesSteps m h (λ g. LeavesExchanged g (λ first f. LeavesAll n f left))

abbrev pub Filled : Held → Type 0
Filled h =
    hp-standing-of h.kept (λ x. 1 ≤ x.missing → (n : ℕ) → x.last + 1 - x.first ≤ n
    → LeavesAll n h (λ g. (k : ℕ) → x.first ≤ k → k ≤ x.last → Delivered g k))
