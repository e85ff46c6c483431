-- SoupTCP as it comes off the wire: a machine that eats one byte after another, so that it can't matter how they were cut (`Cutting`).
-- Assumes nothing.
use Rattle.std.specs.Prelude.{ℕ, suc, ◌-◌, ◌^◌, List, [], ◌∷◌, ◌++◌, Bool, true, false, not, length, if◌then◌else◌}
use Rattle.wire.specs.Checks.{◌is◌, ◌at_most◌, Verdict, refused, taken, Check, ◌else◌, checked, ◌into◌}
use Rattle.wire.specs.declared.refusal.Refusal.{Refusal}
use Rattle.wire.specs.declared.refusal.Refusal.TheVariants.{Overlong, Bound, NotForRecord}
use Rattle.soup.specs.Packet.{Packet, debug, accept, reject, sequenced, server_heartbeat, end_of_session, login, unsequenced}
use Rattle.soup.specs.Packet.{client_heartbeat}
use Rattle.soup.specs.Packet.{logout, line_limit}
use Rattle.soup.specs.Read.{read}

-- its state: the bytes of an unfinished packet; whether the rest of an overlong one is being dropped; the number of the next S, 0 before
-- Login Accepted
pub record Machine : Type 0 where
  pub kept : List ℕ
  pub dropping : Bool
  pub next : ℕ

-- what it hands out: a packet, its bytes and its number (0 for one that has none), or the bytes of a refused packet and why; `Genuine`
-- shows that both are the reader's word and the count's
pub data Yield : Type 0 where
  packet : (bytes : List ℕ) (says : Packet) (number : ℕ) → Yield
  refusal : (bytes : List ℕ) (why : Refusal) → Yield

-- the fate of a byte: it is kept, or dropped, or something is handed out that ends with it
pub data Fate : Type 0 where
  keeps : Fate
  drops : (byte : ℕ) → Fate
  gives : Yield → Fate

pub record Eaten : Type 0 where
  pub fate : Fate
  pub machine : Machine

-- ---- which packets may come when

-- what a packet is to the count: Login Accepted begins it at a number, an S is counted, all others are neither
pub data Role : Type 0 where
  begins : (number : ℕ) → Role
  counted : Role
  neither : Role

abbrev pub role_of : Packet → Role
role_of (accept session number) = begins number
role_of (sequenced message) = counted
role_of (debug text) = neither
role_of (reject reason) = neither
role_of server_heartbeat = neither
role_of end_of_session = neither
role_of (login user password session number) = neither
role_of (unsequenced message) = neither
role_of client_heartbeat = neither
role_of logout = neither

-- an S before Login Accepted, or a second A, is 16; an S whose number would be 2^64-1 is 7; `Turns` shows it of the machine
abbrev pub turn_checks : (next : ℕ) → Role → List Check
turn_checks next (begins number) = (next is 0 else NotForRecord) ∷ []
turn_checks next counted = (not (next is 0) else NotForRecord) ∷ (next at_most 2 ^ 64 - 2 else Bound) ∷ []
turn_checks next neither = []

-- the number of a packet
abbrev pub number_of : (next : ℕ) → Role → ℕ
number_of next (begins number) = 0
number_of next counted = next
number_of next neither = 0

-- and that of the next S after it
abbrev pub next_after : (next : ℕ) → Role → ℕ
next_after next (begins number) = number
next_after next counted = suc next
next_after next neither = next

-- what the reader says of a packet, and then whether it is its turn
unfoldable pub judge : (next : ℕ) → List ℕ → Verdict Packet
judge next d = read d into λ p. checked (turn_checks next (role_of p)) (taken p)

-- ---- one byte

-- nothing is kept
abbrev pub empty : (dropping : Bool) (next : ℕ) → Machine
empty dropping next = record { kept = []; dropping = dropping; next = next }

-- a packet has ended: taken or refused it is used up, and a refused one leaves the number alone; `Counting` shows that messages are
-- numbered in turn
abbrev pub ended : ℕ → List ℕ → Verdict Packet → Eaten
ended next d (refused why) = record { fate = gives (refusal d why); machine = empty false next }
ended next d (taken p) = record
    { fate = gives (packet d p (number_of next (role_of p))); machine = empty false (next_after next (role_of p)) }

-- a linefeed ends what is dropped, or a packet; a packet whose 4,098th byte is none is refused there, and the rest is dropped; `Whole`
-- shows that nothing is lost, `Overlong` that it is refused once
unfoldable pub eat : Machine → ℕ → Eaten
eat s b =
    let d = s.kept ++ b ∷ [] in
    if s.dropping then record { fate = drops b; machine = empty (not (b is 10)) s.next } else
    if b is 10 then ended s.next d (judge s.next d) else
    if length d is line_limit then record { fate = gives (refusal d Overlong); machine = empty true s.next } else
    record { fate = keeps; machine = record { kept = d; dropping = false; next = s.next } }

-- ---- many bytes

-- the fates of all of them, and the machine that was fed with them
unfoldable pub fates : Machine → List ℕ → List Fate
fates s [] = []
fates s (b ∷ bs) = (eat s b).fate ∷ fates (eat s b).machine bs

unfoldable pub fed : Machine → List ℕ → Machine
fed s [] = s
fed s (b ∷ bs) = fed (eat s b).machine bs

-- what is handed out with them
unfoldable pub yielded : List Fate → List Yield
yielded [] = []
yielded (keeps ∷ fs) = yielded fs
yielded (drops b ∷ fs) = yielded fs
yielded (gives y ∷ fs) = y ∷ yielded fs

-- its bytes
abbrev pub yield_bytes : Yield → List ℕ
yield_bytes (packet d p number) = d
yield_bytes (refusal d why) = d

-- and all the bytes that were handed out, taken or refused, or dropped
unfoldable pub spent : List Fate → List ℕ
spent [] = []
spent (keeps ∷ fs) = spent fs
spent (drops b ∷ fs) = b ∷ spent fs
spent (gives y ∷ fs) = yield_bytes y ++ spent fs

-- ---- as far as the first thing that is handed out

-- the bytes are used up; or something is handed out, with the machine then and the bytes that are left; `Reaching` shows that going on from
-- there comes to the same
pub data First : Type 0 where
  used_up : Machine → First
  given : Yield → Machine → (left : List ℕ) → First

abbrev pub unless_given : Fate → Machine → (left : List ℕ) → First → First
unless_given keeps s left on = on
unless_given (drops b) s left on = on
unless_given (gives y) s left on = given y s left

unfoldable pub first : Machine → List ℕ → First
first s [] = used_up s
first s (b ∷ bs) = unless_given (eat s b).fate (eat s b).machine bs (first (eat s b).machine bs)
