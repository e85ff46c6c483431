-- What an entry of the specimen book can be, and what it says, by the definitions that the desk's contracts cite.
-- Assumes nothing.
use Rattle.std.specs.Prelude.{ℕ, zero, suc, ◌+◌, ◌≤◌, ◌≡◌, List, [], ◌∷◌, true, false, Float, Some, length, if◌then◌else◌}
use Rattle.wire.specs.Checks.{Verdict, taken, ◌into◌}
use Rattle.ufo.specs.Down as server
use Rattle.ufo_up.specs.Up as client
use Rattle.memx.specs.Packet as broadcast
use Rattle.memx.specs.Read as broadcast_read
use Rattle.soup.specs.Packet as stream
use Rattle.soup.specs.Read as stream_read
use Rattle.clock.specs.Sheet.{timing}
use Rattle.clock.specs.Patience.{waiting}
use Rattle.clock.specs.Milliseconds.{whole}
use Rattle.clock.specs.declared.sheet.Sheet.{Sheet}
use Rattle.clock.specs.declared.patience.Patience.{Patience}
use Rattle.record.specs.Record.{fresh, opening}
use Rattle.held.specs.Slots.{area_size}
use Rattle.missing.specs.Missing.{is_held}
use Rattle.taking.specs.Room.{room_for}
use Rattle.taking.specs.Taking.{Taking, taking, area_of}
use Rattle.record.specs.Standing.{State, standing}
use Rattle.in_place.specs.Lent.{once_taken}
use Rattle.record.specs.declared.Record.{Record}
use Rattle.record.specs.declared.Session.{Session}
use Rattle.record.specs.declared.Session.TheVariants.{Ufo, Memx}

infixr 5 ◌and◌
-- a line of a record's story: a datagram, what it delivers or why it is refused, and N, T, the numbers held and how the record stands
-- afterwards
pub record Line : Type 0 where
  pub datagram : List ℕ
  pub answer : Verdict (List (List ℕ))
  pub next : ℕ
  pub top : ℕ
  pub held : List ℕ
  pub stands : Verdict State

-- a timed answer: how long it took, and mean, spread and wait afterwards
pub record Timed : Type 0 where
  pub sample : Float
  pub mean : Float
  pub spread : Float
  pub wait : Float

-- a packet with what its reader says; a record that is opened and hears nothing; one that is opened and hears datagrams; timed answers
pub data Entry : Type 0 where
  down : List ℕ → Verdict server.Packet → Entry
  up : List ℕ → Verdict (List client.Message) → Entry
  memx : List ℕ → Verdict broadcast.Packet → Entry
  soup : List ℕ → Verdict stream.Packet → Entry
  unheard : Session → State → Entry
  story : Session → List Line → Entry
  clock : Patience → List Timed → Entry

abbrev pub opened : Session → Verdict Record
opened (Ufo name) = opening name
opened (Memx id) = taken (fresh (Memx id))

-- those of n numbers from m on that are held
unfoldable pub held_among : (held next m n : ℕ) → List ℕ
held_among held next m zero = []
held_among held next m (suc n) =
    if is_held held next m then m ∷ held_among held next (suc m) n else
    held_among held next (suc m) n

-- one of N+1 to N+31
abbrev pub held_by : Record → List ℕ
held_by r = held_among r.held r.next.0 (r.next.0 + 1) 31

-- a datagram, with what the record makes of it
abbrev pub retells : Record → List ℕ → Verdict Taking → Line
retells kept datagram verdict =
    let after = once_taken kept verdict in
    record {
      datagram = datagram;
      answer = verdict into λ t. taken t.delivered;
      next = after.next.0;
      top = after.top.0;
      held = held_by after;
      stands = standing after;
    }

-- the same datagrams, with room for a packet and all held messages; the area is lent back as it was left
abbrev pub retold : Record → List ℕ → List Line → List Line
retold kept area [] = []
retold kept area (l ∷ ls) =
    let verdict = taking kept area l.datagram (room_for kept.session) in
    retells kept l.datagram verdict ∷ retold (once_taken kept verdict) (area_of verdict area) ls

abbrev pub untimed : Sheet
untimed = record { mean = whole 0; spread = whole 0; timed = false }

abbrev pub sheet_of : Timed → Sheet
sheet_of t = record { mean = t.mean; spread = t.spread; timed = true }

-- each answer leaves the sheet and the wait that stand beside it
abbrev pub Reckoned : Patience → Sheet → List Timed → Type 0
Reckoned rule sheet [] = Unit
Reckoned rule sheet (t ∷ ts) =
    (timing sheet t.sample ≡ taken (sheet_of t)) × (waiting (sheet_of t) rule ≡ taken (Some t.wait)) × Reckoned rule (sheet_of t) ts

-- what an entry says; a story is told with any area of 32 slots
abbrev pub Says : Entry → Type 0
Says (down d v) = server.read d ≡ v
Says (up d v) = client.read_up d ≡ v
Says (memx d v) = broadcast_read.read d ≡ v
Says (soup d v) = stream_read.read d ≡ v
Says (unheard session state) = opened session into standing ≡ taken state
Says (story session ls) =
    (area : List ℕ) → area_size ≤ length area → opened session into (λ kept. taken (retold kept area ls)) ≡ taken ls
Says (clock rule ts) = Reckoned rule untimed ts

-- every entry of a list holds
pub data All : List Entry → Type 0 where
  none : All []
  ◌and◌ : {e : Entry} {es : List Entry} → Says e → All es → All (e ∷ es)
