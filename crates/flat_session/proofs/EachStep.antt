-- Whatever the header's functions answer a program that holds a state, it holds the step's: each flat answer is that of the room's
-- definition, and log and record, laid flat, are taken up again as they were.
-- Assumes nothing.
use Prim.Native.Nat.{ℕ, zero, suc}
use mathlib.Core.Path.{◌≡◌, refl, sym, ◌∙◌}
use mathlib.Core.List.{List, []}
use Rattle.wire.specs.Checks.{Verdict, refused, taken}
use Rattle.names.specs.Names.{name_bytes}
use Rattle.lent_log.specs.Log.{Kept, declaring, logged_of, left_of}
use Rattle.lent_log.proofs.Adding.{declared}
use Rattle.session.specs.Session.{◌among◌, State, Act, adds, adds_many, declares, beats, ends, answers, accepts, rejects, serves, takes}
use Rattle.session.specs.Session.{asks, says, Allowed, logging, sending as sends, step, then, Run, Reached}
use Rattle.ufo_write.specs.WriteDown.{accept_reply, reject_reply}
use Rattle.flat_packet.specs.declared.Packet.{Packet}
use Rattle.flat_ufo.specs.Writing.{down_reply}
use Rattle.flat_log.specs.Lending.{flat_logged, FlatEntered}
use Rattle.flat_log.specs.declared.FlatLogged.{FlatLogged}
use Rattle.flat_log.proofs.FlatAndBack.{log-again}
use Rattle.flat_session.specs.Face.{Held, Holds, with_log, sending, LeavesStep, LeavesSteps}
use Rattle.flat_session.proofs.NeverNought.{datagram-left}
use Rattle.flat_session.proofs.Serving.{answer-left, packet-left}
use Rattle.flat_session.proofs.Taking.{take_left}
use Rattle.flat_session.proofs.Asking.{said-left, ask-left}

-- the fields of a packet whose type has no body
module _ (f : Packet) (room : ℕ) where
  accept-flat : (session : List ℕ) (next : ℕ) → f.kind ≡ 65 → f.name ≡ session → f.number ≡ next
      → down_reply f [] room ≡ accept_reply session next room
  unfolding down_reply
  accept-flat session next k n m = rw (k, n, m)

  reject-flat : (reason : ℕ) → f.kind ≡ 74 → f.reason ≡ reason → down_reply f [] room ≡ reject_reply reason room
  unfolding down_reply
  reject-flat reason k n = rw (k, n)

module _ (h : Held) (s : State) (i : Holds h s) where
  -- what enters the log
  log-left : (v : Verdict Kept) (x : FlatLogged) (left : List ℕ) → FlatEntered v h.log s.lent x left
      → Holds (with_log h x left) (logging s v)
  log-left (refused n) x left e = record {
    log = rw e.answer i.log;
    lent = e.bytes;
    kept = i.kept;
    area = i.area;
    deliveries = i.deliveries;
    down = i.down;
    up = i.up;
  }
  log-left (taken k) x left e = record {
    log = rw e.answer (log-again k.log);
    lent = e.bytes;
    kept = i.kept;
    area = i.area;
    deliveries = i.deliveries;
    down = i.down;
    up = i.up;
  }

  end-left : (x : FlatLogged) → x ≡ flat_logged h.log (logged_of (declaring s.log s.lent))
      → Holds (with_log h x h.lent) (step s declares)
  end-left x e = log-left (declaring s.log s.lent) x h.lent
      (record { answer = e; bytes = i.lent ∙ same (declaring s.log s.lent) refl }) where
        same : (v : Verdict Kept) → declaring s.log s.lent ≡ v → s.lent ≡ left_of s.lent v
        same (refused n) d = refl
        same (taken k) d = sym (declared s.log s.lent k d).3

  -- what the server sends
  sent-left : (ds es : List (List ℕ)) → ds ≡ es → Holds (sending h ds) (sends s es)
  sent-left ds es e = record {
    log = i.log;
    lent = i.lent;
    kept = i.kept;
    area = i.area;
    deliveries = i.deliveries;
    down = rw (i.down, e);
    up = i.up;
  }

-- One step: the contract, read at the arguments that the program gives, ensures the very definition that the step cites, and the answer
-- lays that flat.
pub step_left : {s : State} → Reached s → (h : Held) → Holds h s → (act : Act) (left : Held → Type 0)
    → ((g : Held) → Allowed s act → Holds g (step s act) → left g) → LeavesStep h act left
step_left {s} r h i (adds message) left k = λ b κs a x e g p. k _ b (log-left h s i _ x _ (rw (g.0, g.1, g.2, i.log, i.lent) at p))
step_left {s} r h i (adds_many blocks) left k = λ b κs a x e g p. k _ b (log-left h s i _ x _ (rw (g.0, g.1, g.2, i.log, i.lent) at p))
step_left {s} r h i declares left k = λ κs a x e g p. k _ tt (end-left h s i x (rw (g.0, g.1, i.log, i.lent) at p))
step_left {s} r h i (beats room) left k =
    λ κs a x e g p. k _ tt (sent-left h s i _ _
    (datagram-left _ _ x _ (rw (g.0, g.1, g.2, i.log, i.lent) at p)))
step_left {s} r h i (ends room) left k =
    λ κs a x e g p. k _ tt (sent-left h s i _ _
    (datagram-left _ _ x _ (rw (g.0, g.1, g.2, i.log, i.lent) at p)))
step_left {s} r h i (answers first count room) left k = answer-left h s i room first count (λ answer. left (sending h answer))
    (k _ tt (sent-left h s i _ _ refl))
step_left {s} r h i (accepts session next room) left k =
    λ f kind name number κs a x e g p. k _ tt (sent-left h s i _ _
    (datagram-left _ _ x _
    (rw (g.0, g.1, g.2, accept-flat f room (name_bytes session) next kind name number) at p)))
step_left {s} r h i (rejects reason room) left k =
    λ f kind why κs a x e g p. k _ tt (sent-left h s i _ _
    (datagram-left _ _ x _ (rw (g.0, g.1, g.2, reject-flat f room reason kind why) at p)))
step_left {s} r h i (serves datagram room) left k =
    λ b m κs a x e g p. rw (p, g) (packet-left h s i room datagram b (λ answers. left (sending h answers))
    (k _ (rw i.up at m) (sent-left h s i _ _ refl)))
step_left {s} r h i (takes datagram room) left k =
    λ m. let there : datagram among s.down = rw i.down at m in
    take_left r h i datagram there room (λ x g. left g) (λ x g _ j. k g there j)
step_left {s} r h i (asks sheet rule elapsed room) left k =
    λ timed patience known same. ask-left h s i timed patience sheet known elapsed room (λ x g. left g) (λ x g _ j. k g tt (rw same at j))
step_left {s} r h i (says datagram) left k = k _ tt (said-left h s i h.kept s.kept i.kept _ _ refl)

-- one step after another
pub on : {s : State} → Reached s → (act : Act) → Allowed s act → Reached (step s act)
on r act a = record {
  lent = r.lent;
  bytes = r.bytes;
  area = r.area;
  slots = r.slots;
  session = r.session;
  kept = r.kept;
  opened = r.opened;
  run = then r.run act a;
}

pub steps-left : {s t : State} → Run s t → Reached t → (h : Held) → Holds h t → (n : ℕ) (left : Held → Type 0)
    → ((g : Held) (u : State) → Run s u → Reached u → Holds g u → left g) → LeavesSteps n h left
steps-left {s} {t} run r h i zero left k = k h t run r i
steps-left {s = s} {t = t} run r h i (suc n) left k =
    λ act. step_left r h i act _ (λ g a j. steps-left {s = s} {t = step t act} (then run act a) (on r act a) g j n left k)
