-- Whatever outcome the contract of an entry allows, its caller is left with what the step says.
-- Assumes nothing.
use Prim.Native.Nat.{ℕ, ◌≤◌}
use mathlib.Core.Path.{◌≡◌, refl, ap}
use mathlib.Core.List.{List, [], ◌∷◌, ◌++◌, append-nil}
use native.Mathlib.Omega.{arith}
use lib.ListN.{length, drop}
use lib.Seq.{take-append_seam}
use Rattle.wire.specs.Checks.{Verdict, refused, taken, ◌told_by◌}
use Rattle.wire.specs.Reply.{Reply, Settled}
use Rattle.wire.specs.declared.kinds.Sequence.{Sequence}
use Rattle.wire.specs.Fields.{Bytes}
use Rattle.blocks.specs.Blocks.{frames, end_at}
use Rattle.blocks.proofs.Frames.{short-frames}
use Rattle.blocks.proofs.Cutting.{cut-frames}
use Rattle.ufo_up.specs.Up.{Message, login, request, unsequenced, heartbeat, logout, read_up, up_of}
use Rattle.ufo_up.proofs.UpInTurn.{InTurn, in-turn}
use Rattle.lent_log.specs.Log.{Kept, declaring, logged_of, Entered}
use Rattle.lent_log.specs.declared.Log.{Log}
use Rattle.lent_log.proofs.Adding.{declared}
use Rattle.taking.specs.Taking.{Taking, taking, taken_of, Answered}
use Rattle.asking.specs.Asking.{Wish, nothing, wait, request as wanted, asking, asked_of}
use Rattle.record.specs.Record.{opening}
use Rattle.record.specs.Standing.{standing}
use Rattle.record.specs.declared.Record.{Record}
use Rattle.taking.specs.declared.Taken.{Taken}
use Rattle.session.specs.Session.{State, declares, answers, serves, takes, sent, to_message, to_each, to_packet, logging, sending}
use Rattle.session.specs.Session.{delivering, saying, wishing, step}
use Rattle.session.specs.Caller.{with_log, written, with_taken, once_taken, once_asked, LeavesAsked, LeavesAnswered, LeavesMessage}
use Rattle.session.specs.Caller.{LeavesEach, LeavesServed, ByContract}
use Rattle.session.proofs.Invariant.{Known, Inv}
use Rattle.session.proofs.EveryStep.{took-so, fits, vouched-if-taken}
use Rattle.session.proofs.Telling.{opened-left, standing-left}

-- what enters the log
log-left : (s : State) (v : Verdict Kept) (r : Verdict Log) (left : List ℕ) → Entered v s.lent r left → with_log s r left ≡ logging s v
log-left s (refused n) r left e = rw (e.answer, e.bytes)
log-left s (taken k) r left e = rw (e.answer, e.bytes)

end-left : (s : State) (r : Verdict Log) → r ≡ logged_of (declaring s.log s.lent) → with_log s r s.lent ≡ step s declares
end-left s r e = by (declaring s.log s.lent) refl e where
  by : (v : Verdict Kept) → declaring s.log s.lent ≡ v → r ≡ logged_of v → with_log s r s.lent ≡ logging s v
  by (refused n) d q = rw q
  by (taken k) d q = rw (q, (declared s.log s.lent k d).3)

-- what a writer laid down
datagram-left : (v : Reply) (out : List ℕ) (r : Verdict ℕ) (left : List ℕ) → Settled v out r left → written r left ≡ sent v
unfolding sent
datagram-left (refused n) out r left e = rw e.answer
datagram-left (taken d) out r left e = rw (e.answer, e.bytes, take-append_seam d (drop (length d) out))

-- what a server sends that is handed a datagram: to each request, to each message, and so to the whole packet
answer-left : (s : State) (room : ℕ) (first : Sequence) (count : ℕ) (left : List (List ℕ) → Type 0)
    → left (to_message s room (request first.0 count)) → LeavesAnswered s room first count left
answer-left s room first count left l κs a x e g p = rw (datagram-left _ _ x _ (rw (g.0, g.1, g.2, g.3, g.4) at p)) l

message-left : (s : State) (room next : ℕ) (more : List (List ℕ)) (on : (List (List ℕ) → Type 0) → Type 0)
    → ((left : List (List ℕ) → Type 0) → left more → on left)
    → (m : Message) (left : List (List ℕ) → Type 0) → left (to_message s room m ++ more)
    → LeavesMessage s room (up_of next m) on left
message-left s room next more on goes (login user password session) left l = goes left l
message-left s room next more on goes (request first count) left l =
    answer-left s room (record { 0 = first }) count (λ answer. on (λ answers. left (answer ++ answers)))
    (goes (λ answers. left (to_message s room (request first count) ++ answers)) l)
message-left s room next more on goes (unsequenced bytes) left l = goes left l
message-left s room next more on goes heartbeat left l = goes left l
message-left s room next more on goes logout left l = goes left l

each_left : (s : State) (room : ℕ) (d : List ℕ) (ms : List Message) (place : ℕ) (left : List (List ℕ) → Type 0)
    → InTurn d place ms → left (to_each s room ms) → LeavesEach s room d (length ms) place left
each_left s room d [] place left t l = l
each_left s room d (m ∷ ms) place left t l =
    λ κs a x e g p. rw (p, g.0, g.1, t.0)
    (message-left s room (end_at d place) (to_each s room ms) (LeavesEach s room d (length ms) (end_at d place))
    (λ then. each_left s room d ms (end_at d place) then t.1) m left l)

packet-left : (s : State) (room : ℕ) (d : List ℕ) → Bytes d → LeavesServed s room d (read_up d told_by length)
    (λ answers. sending s answers ≡ step s (serves d room))
unfolding to_packet
packet-left s room d b = by (read_up d) refl where
  by : (v : Verdict (List Message)) → read_up d ≡ v
      → LeavesServed s room d (v told_by length) (λ answers. sending s answers ≡ sending s (to_packet s room v))
  by (refused n) e = refl
  by (taken ms) e = each_left s room d ms 0 _ (in-turn d b ms e) refl

-- what the recorder delivers, and the area that it leaves
pub delivery-left : (s : State) (i : Inv s) (d : List ℕ) → Known s d → (room : ℕ) (out : List ℕ) (r : Verdict Taken) (area left : List ℕ)
    (kept : Record)
    → Answered (taking s.kept s.area d room) s.area out r area left
    → kept ≡ once_taken s.kept (taking s.kept s.area d room told_by taken_of) → with_taken s r area left kept ≡ step s (takes d room)
delivery-left s i d known room out r area left kept e k = by (taking s.kept s.area d room) refl e k where
  by : (v : Verdict Taking) → taking s.kept s.area d room ≡ v → Answered v s.area out r area left
      → kept ≡ once_taken s.kept (v told_by taken_of) → with_taken s r area left kept ≡ delivering s v
  by (refused n) q a k = rw (a.answer, a.slots, k, append-nil)
  by (taken t) q a k =
      let ms : List (List ℕ) = t.delivered in
      let g = vouched-if-taken s i d known room t q in
      let same = took-so s i d g room t q in
      let z : length (frames ms) ≤ 47097 = rw same (fits s i d g) in
      rw (
        a.answer,
        a.bytes,
        a.slots,
        k,
        take-append_seam (frames ms) (drop (length (frames ms)) out),
        cut-frames ms (short-frames ms (omega arith)),
      )

-- what the recorder asks
pub request-left : (s : State) (room : ℕ) (v : Verdict Wish) (kept : Record) → kept ≡ once_asked s.kept (v told_by asked_of)
    → LeavesAsked room (v told_by asked_of) (λ said. saying s kept said ≡ wishing s room v)
request-left s room (refused n) kept k = rw (k, append-nil)
request-left s room (taken nothing) kept k = rw (k, append-nil)
request-left s room (taken wait) kept k = rw (k, append-nil)
request-left s room (taken (wanted first count after)) kept k = λ κs a x e g p. rw (k, datagram-left _ _ x _ (rw (g.0, g.1, g.2) at p))

pub by-contract : (s : State) → Inv s → ByContract s
by-contract s i = record {
  add = λ message κs a x e g p. log-left s _ x _ (rw (g.0, g.1, g.2) at p);
  add_many = λ blocks κs a x e g p. log-left s _ x _ (rw (g.0, g.1, g.2) at p);
  declare_end = λ κs a x e g p. end-left s x (rw (g.0, g.1) at p);
  heartbeat = λ room κs a x e g p. ap (sending s) (datagram-left _ _ x _ (rw (g.0, g.1, g.2) at p));
  end_packet = λ room κs a x e g p. ap (sending s) (datagram-left _ _ x _ (rw (g.0, g.1, g.2) at p));
  answer = λ first count room. answer-left s room first count (λ answer. sending s answer ≡ step s (answers first.0 count room)) refl;
  accept = λ session next room κs a x e g p. ap (sending s) (datagram-left _ _ x _ (rw (g.0, g.1, g.2) at p));
  reject = λ reason room κs a x e g p. ap (sending s) (datagram-left _ _ x _ (rw (g.0, g.1) at p));
  serve = λ datagram room b κs a x e g p. rw (p, g) (packet-left s room datagram b);
  take = λ datagram room m κs a x e g p.
      let q = rw (g.0, g.1, g.2, g.3) at p in
      delivery-left s i datagram (i.line datagram m) room _ x _ _ _ q (rw q.answer);
  ask = λ sheet rule elapsed room κs a x e g p. rw (p, g.0, g.1, g.2, g.3)
      (request-left s room (asking s.kept sheet rule elapsed) _ refl);
  open_ufo = λ session. opened-left session (λ opened. opening session ≡ opened) refl;
  standing = standing-left s.kept (λ told. standing s.kept ≡ told) refl;
}
