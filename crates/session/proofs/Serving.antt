-- A request that is due goes onto the line, is read as what it is, and is answered wherever it arrives.
-- Assumes nothing.
use Prim.Native.Nat.{ℕ, ◌+◌, ◌-◌, ◌≤◌, min}
use mathlib.Core.Path.{◌≡◌, refl, ◌∙◌}
use mathlib.Core.List.{List, [], ◌∷◌, Memᴰ}
use mathlib.Core.Logic.{◌⊎◌}
use mathlib.Core.Bool.{Bool, true}
use native.Mathlib.Omega.{arith}
use lib.Ieee.{Float}
use lib.ListN.{length}
use Rattle.wire.specs.Checks.{taken}
use Rattle.wire.proofs.Settling.{enough-room}
use Rattle.blocks.specs.Blocks.{frame}
use Rattle.blocks.proofs.Frames.{length-frame}
use Rattle.ufo.specs.Down as ufo
use Rattle.ufo_up.specs.Up.{Message, request, write_message, FitMessage, read_up}
use Rattle.ufo_up_write.specs.WriteUp.{reply}
use Rattle.ufo_up.proofs.Exact.{read_one}
use Rattle.ufo_up.proofs.UpExactOne.{length-message}
use Rattle.ufo_up_write.proofs.UpReplies.{reply-fit}
use Rattle.clock.specs.Patience.{wait_over}
use Rattle.clock.specs.declared.sheet.Sheet.{Sheet}
use Rattle.clock.specs.declared.patience.Patience.{Patience}
use Rattle.lend.specs.Answer.{answer_to, answer_reply}
use Rattle.lend.proofs.Answering.{few-in}
use Rattle.missing.specs.Missing.{◌to◌}
use Rattle.missing.specs.declared.Range.{Range}
use Rattle.record.specs.Standing.{missing, standing}
use Rattle.asking.specs.Asking.{request as wanted, asked_now, request_of, asking}
use Rattle.asking.proofs.Asks.{asks-now}
use Rattle.record.proofs.Complete.{standing-means}
use Rattle.session.specs.Session.{enough, State, logged, serves, takes, asks, sent, to_message, to_each, to_packet, step, Run, stop}
use Rattle.session.specs.Session.{then}
use Rattle.session.specs.Promise.{Due, made, Asked, Answered, Exchange, Under}
use Rattle.session.proofs.Line.{answered-so, answer-wrote}
use Rattle.session.proofs.Invariant.{Vouches, Inv, Good}
use Rattle.session.proofs.EveryStep.{hung-record, taken-so, good, along}
use Rattle.session.proofs.Standing.{reaches}
use Rattle.session.proofs.Fetching.{due-asks}

-- something is missing: a request for the first range of it is due, unless one was made from there and the wait is not over
module _ (s : State) (i : Inv s) (first last : ℕ) (others : List Range)
    (e : standing s.kept ≡ taken (missing ((first to last) ∷ others))) (sheet : Sheet) (rule : Patience) (elapsed : Float) (late : Bool)
    (v : wait_over sheet rule elapsed ≡ taken late) (d : ((s.kept.asked.0 ≡ first) → ⊥) ⊎ (late ≡ true)) where
  pub wish-so : asking s.kept sheet rule elapsed ≡ taken (wanted first (min (last - first + 1) 65535) (asked_now s.kept))
  unfolding request_of
  wish-so =
      let m = standing-means s.kept (missing ((first to last) ∷ others)) e in
      let f = (reaches s.kept first last others e).from in
      let w = asks-now s.kept sheet rule elapsed (hung-record s i) late v m.1 (rw f at d) in
      rw (← m.0) at w

  pub due-so : Due s first (min (last - first + 1) 65535)
  due-so = record { sheet = sheet; rule = rule; elapsed = elapsed; after = asked_now s.kept; wish = wish-so }

-- an answer to one of a packet's requests is among the answers to the packet
in-turn : (u : State) (room first count : ℕ) (d : List ℕ) → answer_reply u.log u.lent first count room ≡ taken d → (ms : List Message)
    → Memᴰ (request first count) ms → Memᴰ d (to_each u room ms)
unfolding sent
in-turn u room first count d e ms (mathlib.Core.List.Memᴰ.head {x = m} {xs = others} q) =
    let a : to_message u room (request first count) ≡ d ∷ [] = rw e in
    let b : Memᴰ d (to_message u room m) = rw (← q, a) (mathlib.Core.List.Memᴰ.head refl) in
    mathlib.Core.List.Memᴰ.append_left (to_each u room others) b
in-turn u room first count d e ms (mathlib.Core.List.Memᴰ.tail {x = m} {xs = others} q) =
    mathlib.Core.List.Memᴰ.append_right (to_message u room m) (in-turn u room first count d e others q)

module _ (s u : State) (i : Inv s) (first count : ℕ) (due : Due s first count) (room_up : ℕ) (r : Run (made s due room_up) u) where
  g : Good (made s due room_up) u
  g = along r (good s (asks due.sheet due.rule due.elapsed room_up) tt i).inv

  fit : FitMessage (request first count)
  fit =
      let a = due-asks s first count due in
      let n = few-in s.log s.lent i.hung.whole in
      (omega (arith, a.from, i.hold.one), omega (arith, a.from, a.lacks, i.hold.known), a.some, omega (arith, a.many))

  pub asked : 1472 ≤ room_up → Asked u first count
  unfolding sent
  asked e =
      let d : List ℕ = frame (write_message (request first count)) in
      let f = length-frame (write_message (request first count)) in
      let z : length d ≤ room_up = omega (arith, f, length-message (request first count) fit) in
      let l : reply (request first count) room_up ≡ taken d = reply-fit (request first count) room_up fit ∙ enough-room d room_up z in
      let m : Memᴰ d (made s due room_up).up = rw (due.wish, l)
      (mathlib.Core.List.Memᴰ.append_right s.up (mathlib.Core.List.Memᴰ.head refl)) in
      record { datagram = d; room = room_up; laid = l; sent = g.later.up d m; reads = read_one (request first count) fit }

  pub answered : (datagram : List ℕ) (ms : List Message) (room : ℕ) → read_up datagram ≡ taken ms → Memᴰ (request first count) ms
      → 1472 ≤ room → Answered u datagram first count room
  unfolding to_packet
  answered datagram ms room e m h =
      let d : List ℕ = ufo.write (answer_to u.log.ended (logged u) first count) in
      let l : answer_reply u.log u.lent first count room ≡ taken d =
      answered-so u.log u.lent g.inv.hung first count room fit.0 fit.2 h in
      record { answer = d; laid = l; sent = rw e (mathlib.Core.List.Memᴰ.append_right u.down (in-turn u room first count d l ms m)) }

-- where the line carries the request and its answer, the exchange is had
pub exchange : (s : State) → Inv s → (first count : ℕ) (due : Due s first count) → (t : State) × (x : Exchange s t)
    × Under due.sheet due.rule due.elapsed x
exchange s i first count due =
    let u : State = made s due 1472 in
    let a : Asked u first count = asked s u i first count due 1472 stop (omega arith) in
    let b : Answered u a.datagram first count 1472 =
    answered s u i first count due 1472 stop a.datagram (request first count ∷ []) 1472 a.reads (mathlib.Core.List.Memᴰ.head refl)
    (omega arith) in
    let w : State = step u (serves a.datagram 1472) in
    let j : Inv u = (good s (asks due.sheet due.rule due.elapsed 1472) tt i).inv in
    let k : Inv w = (good u (serves a.datagram 1472) a.sent j).inv in
    let v : Vouches w b.answer = answer-wrote u.log u.lent j.hung 1472 b.answer first count b.laid in (
      step w (takes b.answer enough),
      record {
        first = first;
        count = count;
        due = due;
        room_up = 1472;
        u = u;
        run = stop;
        datagram = b.answer;
        room_down = 1472;
        answer = b.laid;
        w = w;
        later = then stop (serves a.datagram 1472) a.sent;
        arrives = b.sent;
        room_out = enough;
        took = _;
        takes-it = taken-so w k b.answer v enough (omega arith);
        left = refl;
      },
      (refl, refl, refl),
    )
