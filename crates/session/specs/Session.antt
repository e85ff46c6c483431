-- One UFO server over a log in lent bytes, one recorder, and a line that loses, repeats, delays and reorders datagrams
-- either way but forges none. Each step is an entry of `lend` or `record`, by the definition that its contract cites.
-- Assumes nothing.
use Rattle.std.specs.Prelude.{ℕ, ◌≤◌, ◌≡◌, false, Float, length}
use mathlib.Core.List.{List, [], ◌∷◌, ◌++◌, Memᴰ}
use Rattle.wire.specs.Fields.{Bytes}
use Rattle.wire.specs.Checks.{Verdict, refused, taken}
use Rattle.wire.specs.Reply.{Reply}
use Rattle.wire.specs.declared.kinds.Name.{Name}
use Rattle.names.specs.Names.{name_bytes}
use Rattle.ufo_write.specs.WriteDown.{accept_reply, reject_reply}
use Rattle.ufo_up.specs.Up.{Message, login, request, unsequenced, heartbeat, logout, read_up}
use Rattle.ufo_up_write.specs.WriteUp.{reply}
use Rattle.clock.specs.declared.sheet.Sheet.{Sheet}
use Rattle.clock.specs.declared.patience.Patience.{Patience}
use Rattle.lent_log.specs.Log.{messages_in, Kept, adding, adding_many, declaring}
use Rattle.lend.specs.Answer.{answer_reply, heartbeat_reply, end_packet_reply}
use Rattle.lent_log.specs.declared.Log.{Log}
use Rattle.held.specs.Slots.{area_size}
use Rattle.record.specs.Record.{opening}
use Rattle.taking.specs.Taking.{Taking, taking}
use Rattle.asking.specs.Asking.{Wish, nothing, wait, request as wanted, asking}
use Rattle.record.specs.declared.Record.{Record}

infix 40 ◌among◌
abbrev pub ◌among◌ : {A : Type 0} → A → List A → Type 0
x among xs = Memᴰ x xs

-- room for a packet's messages and all that can be held: 1,472 bytes and 31 slots of 1,472; `Claims.never-refused` shows that it is enough
abbrev pub enough : ℕ
enough = 47104

-- the server's log and the bytes lent to it; the recorder's record, the area lent to it, always as it was left, and the messages
-- that it has delivered; and every datagram ever sent, server to recorder and back
pub record State : Type 0 where
  pub log : Log
  pub lent : List ℕ
  pub kept : Record
  pub area : List ℕ
  pub deliveries : List (List ℕ)
  pub down : List (List ℕ)
  pub up : List (List ℕ)

-- the log's messages
abbrev pub logged : State → List (List ℕ)
logged s = messages_in s.log s.lent

-- an empty log in lent bytes, a record and its area, and nothing on the line
abbrev pub begin : List ℕ → List ℕ → Record → State
begin lent area kept = record {
  log = record { count = 0; used = 0; ended = false };
  lent = lent;
  kept = kept;
  area = area;
  deliveries = [];
  down = [];
  up = [];
}

-- What may happen. The server adds a message, adds many at once, declares the end; sends a heartbeat, an end packet, an
-- answer that nobody asked for; accepts a login, in whatever session and from whatever number on, or rejects one; is handed a
-- datagram, and answers each request in it. The recorder is handed a datagram; asks; says anything else. `room` is the length of
-- the output lent to the entry.
pub data Act : Type 0 where
  adds : (message : List ℕ) → Act
  adds_many : (blocks : List ℕ) → Act
  declares : Act
  beats : (room : ℕ) → Act
  ends : (room : ℕ) → Act
  answers : (first count room : ℕ) → Act
  accepts : (session : Name) (next room : ℕ) → Act
  rejects : (reason room : ℕ) → Act
  serves : (datagram : List ℕ) (room : ℕ) → Act
  takes : (datagram : List ℕ) (room : ℕ) → Act
  asks : (sheet : Sheet) (rule : Patience) (elapsed : Float) (room : ℕ) → Act
  says : (datagram : List ℕ) → Act

-- what is added is bytes, and only what was sent arrives, however late and however often
abbrev pub Allowed : State → Act → Type 0
Allowed s (adds message) = Bytes message
Allowed s (adds_many blocks) = Bytes blocks
Allowed s declares = Unit
Allowed s (beats room) = Unit
Allowed s (ends room) = Unit
Allowed s (answers first count room) = Unit
Allowed s (accepts session next room) = Unit
Allowed s (rejects reason room) = Unit
Allowed s (serves datagram room) = datagram among s.up
Allowed s (takes datagram room) = datagram among s.down
Allowed s (asks sheet rule elapsed room) = Unit
Allowed s (says datagram) = Unit

-- what a writer laid down goes out; of a refusal, nothing
unfoldable pub sent : Reply → List (List ℕ)
sent (refused n) = []
sent (taken datagram) = datagram ∷ []

-- the server's answers to the requests among the messages of a packet, in order
abbrev pub to_message : State → ℕ → Message → List (List ℕ)
to_message s room (request first count) = sent (answer_reply s.log s.lent first count room)
to_message s room (login user password session) = []
to_message s room (unsequenced bytes) = []
to_message s room heartbeat = []
to_message s room logout = []

abbrev pub to_each : State → ℕ → List Message → List (List ℕ)
to_each s room [] = []
to_each s room (m ∷ ms) = to_message s room m ++ to_each s room ms

unfoldable pub to_packet : State → ℕ → Verdict (List Message) → List (List ℕ)
to_packet s room (refused n) = []
to_packet s room (taken ms) = to_each s room ms

-- what a step leaves: another log and its bytes, another record, its area and more deliveries, more on the line; a refusal
-- leaves all as it was
abbrev pub logging : State → Verdict Kept → State
logging s (refused n) = s
logging s (taken k) =
    record { log = k.log; lent = k.bytes; kept = s.kept; area = s.area; deliveries = s.deliveries; down = s.down; up = s.up }

abbrev pub sending : State → List (List ℕ) → State
sending s datagrams = record {
  log = s.log;
  lent = s.lent;
  kept = s.kept;
  area = s.area;
  deliveries = s.deliveries;
  down = s.down ++ datagrams;
  up = s.up;
}

abbrev pub delivering : State → Verdict Taking → State
delivering s (refused n) = s
delivering s (taken t) = record {
  log = s.log;
  lent = s.lent;
  kept = t.after;
  area = t.area;
  deliveries = s.deliveries ++ t.delivered;
  down = s.down;
  up = s.up;
}

abbrev pub saying : State → Record → List (List ℕ) → State
saying s kept datagrams = record {
  log = s.log;
  lent = s.lent;
  kept = kept;
  area = s.area;
  deliveries = s.deliveries;
  down = s.down;
  up = s.up ++ datagrams;
}

abbrev pub wishing : State → ℕ → Verdict Wish → State
wishing s room (refused n) = s
wishing s room (taken nothing) = s
wishing s room (taken wait) = s
wishing s room (taken (wanted first count after)) = saying s after (sent (reply (request first count) room))

-- one step; `Claims.by-contract` shows that it is what the code does, whatever outcome a contract allows
abbrev pub step : State → Act → State
step s (adds message) = logging s (adding s.log s.lent message)
step s (adds_many blocks) = logging s (adding_many s.log s.lent blocks)
step s declares = logging s (declaring s.log s.lent)
step s (beats room) = sending s (sent (heartbeat_reply s.log s.lent room))
step s (ends room) = sending s (sent (end_packet_reply s.log s.lent room))
step s (answers first count room) = sending s (to_message s room (request first count))
step s (accepts session next room) = sending s (sent (accept_reply (name_bytes session) next room))
step s (rejects reason room) = sending s (sent (reject_reply reason room))
step s (serves datagram room) = sending s (to_packet s room (read_up datagram))
step s (takes datagram room) = delivering s (taking s.kept s.area datagram room)
step s (asks sheet rule elapsed room) = wishing s room (asking s.kept sheet rule elapsed)
step s (says datagram) = saying s s.kept (datagram ∷ [])

-- t comes after s
pub data Run (s : State) : State → Type 0 where
  stop : Run s s
  then : {t : State} → Run s t → (act : Act) → Allowed t act → Run s (step t act)

-- s is reached from an empty log in lent bytes, a record that was just opened for a session, and any area of 32 slots; `Claims.opened`
-- shows that so a program begins, and `Claims.happens` is a run worked out byte by byte
pub record Reached (s : State) : Type 0 where
  pub lent : List ℕ
  pub bytes : Bytes lent
  pub area : List ℕ
  pub slots : area_size ≤ length area
  pub session : Name
  pub kept : Record
  pub opened : opening session ≡ taken kept
  pub run : Run (begin lent area kept) s
