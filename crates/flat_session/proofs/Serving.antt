-- What a server answers that is handed a datagram, and reads it message by message by the header, is what `session` answers the packet.
-- Assumes nothing.
use Prim.Native.Nat.{ℕ}
use mathlib.Core.Path.{◌≡◌, refl}
use mathlib.Core.List.{List, [], ◌∷◌, ◌++◌}
use native.Mathlib.Nat.{mod-eq_of_lt}
use lib.ListN.{length}
use Rattle.wire.specs.Fields.{Bytes}
use Rattle.wire.specs.Checks.{◌told_by◌, Verdict, refused, taken}
use Rattle.blocks.specs.Blocks.{end_at}
use Rattle.ufo_up.specs.Up.{Message, login, request, unsequenced, heartbeat, logout, FitMessage, FitAll, read_up, up_of}
use Rattle.ufo_up.proofs.Exact.{read-is-written}
use Rattle.ufo_up.proofs.UpInTurn.{InTurn, in-turn}
use Rattle.session.specs.Session.{State, to_message, to_each, to_packet}
use Rattle.flat_ufo_up.specs.Reading.{flat_message, flat_upstream, up_read}
use Rattle.flat_session.specs.Face.{Held, Holds, LeavesAnswered, LeavesMessage, LeavesEach}
use Rattle.flat_session.proofs.NeverNought.{datagram-left}

module _ (h : Held) (s : State) (i : Holds h s) where
  -- to a request, to each message, and so to the whole packet
  pub answer-left : (room first count : ℕ) (left : List (List ℕ) → Type 0) → left (to_message s room (request first count))
      → LeavesAnswered h room first count left
  answer-left room first count left l κs a x e g p =
      rw (datagram-left _ _ x _
      (rw (g.0, g.1, g.2, g.3, g.4, i.log, i.lent) at p))
      l

  message-left : (room next : ℕ) (more : List (List ℕ)) (on : ℕ → (List (List ℕ) → Type 0) → Type 0)
      → ((left : List (List ℕ) → Type 0) → left more → on next left)
      → (m : Message) → FitMessage m → (left : List (List ℕ) → Type 0) → left (to_message s room m ++ more)
      → LeavesMessage h room (flat_message (up_of next m) next).packet on left
  message-left room next more on goes (login user password session) f left l = goes left l
  message-left room next more on goes (request first count) f left l =
      rw (mod-eq_of_lt f.1)
      (answer-left room first count (λ answer. on next (λ answers. left (answer ++ answers)))
      (goes (λ answers. left (to_message s room (request first count) ++ answers)) l))
  message-left room next more on goes (unsequenced bytes) f left l = goes left l
  message-left room next more on goes heartbeat f left l = goes left l
  message-left room next more on goes logout f left l = goes left l

  each_left : (room : ℕ) (d : List ℕ) (ms : List Message) (place : ℕ) (left : List (List ℕ) → Type 0)
      → InTurn d place ms → FitAll ms → left (to_each s room ms) → LeavesEach h room d (length ms) place left
  each_left room d [] place left t f l = l
  each_left room d (m ∷ ms) place left t f l =
      λ κs a x e g p. rw (p, g.0, g.1, t.0) (message-left room (end_at d place) (to_each s room ms) (LeavesEach h room d (length ms))
      (λ then. each_left room d ms (end_at d place) then t.1 f.1) m f.0 left l)

  pub packet-left : (room : ℕ) (d : List ℕ) → Bytes d → (left : List (List ℕ) → Type 0) → left (to_packet s room (read_up d))
      → LeavesEach h room d (up_read d).packet.count 0 left
  unfolding to_packet
  packet-left room d b left l = by (read_up d) refl l where
    by : (v : Verdict (List Message)) → read_up d ≡ v → left (to_packet s room v)
        → LeavesEach h room d (flat_upstream (v told_by length)).packet.count 0 left
    by (refused n) e l = l
    by (taken ms) e l = each_left room d ms 0 left (in-turn d b ms e) (read-is-written d b ms e).0.all l
