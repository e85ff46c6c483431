-- Every step keeps what holds, and so does every run.
-- Assumes nothing.
use Prim.Native.Nat.{ℕ, ◌-◌, ◌^◌, ◌≤◌}
use mathlib.Core.Path.{◌≡◌, refl}
use mathlib.Core.List.Memᴰ
use mathlib.Core.List.{List, [], ◌∷◌, Memᴰ}
use mathlib.Core.Logic.{◌⊎◌, inl, inr}
use mathlib.Core.Bool.{true}
use native.Mathlib.Omega.{arith}
use lib.ListN.{length}
use Rattle.wire.specs.Checks.{Verdict, refused, taken}
use Rattle.wire.specs.Reply.{Reply}
use Rattle.wire.specs.declared.refusal.Refusal.TheVariants.{NotForRecord}
use Rattle.wire.proofs.Checks.{not-both}
use Rattle.blocks.specs.Blocks.{frames}
use Rattle.ufo.specs.Down as ufo
use Rattle.ufo_up.specs.Up.{Message, login, request, unsequenced, heartbeat, logout}
use Rattle.lent_log.specs.Log.{Kept}
use Rattle.lend.proofs.Answering.{few-in}
use Rattle.record.specs.Record.{hangs}
use Rattle.reports.specs.Reports.{Report, of_ufo}
use Rattle.taking.specs.Taking.{delivered, Taking, outcome, taking}
use Rattle.asking.specs.Asking.{Wish, nothing, wait, request as wanted, asked_now}
use Rattle.record.specs.declared.Record.{Record}
use Rattle.asking.proofs.Asks.{requests}
use Rattle.session.specs.Session.{enough, State, logged, Act, adds, adds_many, declares, beats, ends, answers, accepts, rejects}
use Rattle.session.specs.Session.{serves, takes, asks, says, Allowed, sent, to_message, to_each, to_packet, logging, sending, delivering}
use Rattle.session.specs.Session.{saying, wishing, step, Run, stop, then, Reached}
use Rattle.session.specs.Promise.{LoginAnswer, Received, took, passed}
use Rattle.session.proofs.Genuine.{Brings}
use Rattle.session.proofs.Growing.{longer, stays, still}
use Rattle.session.proofs.Logs.{LogAfter, adding-leaves, adding-many-leaves, declaring-leaves}
use Rattle.session.proofs.Line.{lends}
use Rattle.session.proofs.Logins.{accept-answers, reject-answers, reports-none, refuses-login}
use Rattle.session.proofs.Recording as recording
use Rattle.session.proofs.Invariant.{Vouches, Known, tells, greets, Inv, Good, stays_put, chain, begins}

module _ (s : State) (i : Inv s) where
  -- what enters the log
  grown : (v : Verdict Kept) → ((k : Kept) → v ≡ taken k → LogAfter s.log s.lent k) → Good s (logging s v)
  grown (refused n) f = stays_put s i
  grown (taken k) f =
      let l = f k refl in
      let t : State = logging s (taken k) in
      let a = longer (logged s) s.log.ended (logged t) t.log.ended l.grows in
      record {
        inv = record {
          hung = l.hung;
          named = i.named;
          hold = still (logged s) s.log.ended (logged t) t.log.ended l.grows s.kept s.area s.deliveries i.hold;
          line = λ d m. still-known t l d (i.line d m);
        };
        later = record { next = omega arith; top = omega arith; over = λ e. e; log = a; down = λ d m. m; up = λ d m. m };
      }
    where
      again : (t : State) (l : LogAfter s.log s.lent (record { log = t.log; bytes = t.lent })) (d : List ℕ) → Vouches s d
          → Vouches t d
      again t l d w = record {
        packet = w.packet;
        gives = w.gives;
        report = w.report;
        vouched = record {
          reports = w.vouched.reports;
          genuine = stays (logged s) s.log.ended (logged t) t.log.ended l.grows w.report w.vouched.genuine;
        };
      }

      still-known : (t : State) (l : LogAfter s.log s.lent (record { log = t.log; bytes = t.lent })) (d : List ℕ) → Known s d
          → Known t d
      still-known t l d (tells w) = tells (again t l d w)
      still-known t l d (greets g) = greets g

  -- what goes out to the recorder
  sends : (ds : List (List ℕ)) → ((d : List ℕ) → Memᴰ d ds → Known s d) → Good s (sending s ds)
  sends ds f = record {
    inv = record { hung = i.hung; named = i.named; hold = i.hold; line = λ d m. by d (Memᴰ.append_cases s.down m) };
    later = record {
      next = omega arith;
      top = omega arith;
      over = λ e. e;
      log = omega arith;
      down = λ d m. Memᴰ.append_left ds m;
      up = λ d m. m;
    };
  }
    where
      by : (d : List ℕ) → Memᴰ d s.down ⊎ Memᴰ d ds → Known s d
      by d (inl m) = i.line d m
      by d (inr m) = f d m

  out : (v : Reply) (d : List ℕ) → Memᴰ d (sent v) → ((x : List ℕ) → v ≡ taken x → Known s x) → Known s d
  unfolding sent
  out (refused n) d m f = absurd (Memᴰ.not-nil m)
  out (taken x) d m f = rw (Memᴰ.eq_of_singleton m) (f x refl)

  to-message : (room : ℕ) (q : Message) (d : List ℕ) → Memᴰ d (to_message s room q) → Known s d
  to-message room (request first count) d m = out _ d m (λ x e. tells (search lends))
  to-message room (login user password session) d m = absurd (Memᴰ.not-nil m)
  to-message room (unsequenced bytes) d m = absurd (Memᴰ.not-nil m)
  to-message room heartbeat d m = absurd (Memᴰ.not-nil m)
  to-message room logout d m = absurd (Memᴰ.not-nil m)

  to-each : (room : ℕ) (qs : List Message) (d : List ℕ) → Memᴰ d (to_each s room qs) → Known s d
  to-each room [] d m = absurd (Memᴰ.not-nil m)
  to-each room (q ∷ qs) d m = by (to-each room qs d) (Memᴰ.append_cases (to_message s room q) m) where
    by : (Memᴰ d (to_each s room qs) → Known s d) → Memᴰ d (to_message s room q) ⊎ Memᴰ d (to_each s room qs) → Known s d
    by more (inl a) = to-message room q d a
    by more (inr b) = more b

  to-packet : (room : ℕ) (v : Verdict (List Message)) (d : List ℕ) → Memᴰ d (to_packet s room v) → Known s d
  unfolding to_packet
  to-packet room (refused n) d m = absurd (Memᴰ.not-nil m)
  to-packet room (taken qs) d m = to-each room qs d m

  -- what arrives at the recorder
  few : length (logged s) ≤ 2 ^ 32 - 2
  few = few-in s.log s.lent i.hung.whole

  pub hung-record : hangs s.kept ≡ true
  hung-record = recording.hung (logged s) s.log.ended few s.kept s.area s.deliveries i.named i.hold

  module _ (d : List ℕ) (w : Vouches s d) where
    pub brought : Brings (logged s) s.log.ended s.kept s.area s.deliveries w.report
    brought = recording.brought (logged s) s.log.ended few s.kept s.area s.deliveries i.named i.hold d w

    pub taken-so : (room : ℕ) → enough ≤ room → taking s.kept s.area d room ≡ taken (outcome s.kept s.area w.report)
    taken-so = recording.takes (logged s) s.log.ended few s.kept s.area s.deliveries i.named i.hold d w

    pub took-so : (room : ℕ) (t : Taking) → taking s.kept s.area d room ≡ taken t → t ≡ outcome s.kept s.area w.report
    took-so = recording.took (logged s) s.log.ended few s.kept s.area s.deliveries i.named i.hold d w

    pub fits : length (frames (delivered s.kept s.area w.report)) ≤ 47097
    fits = recording.fits (logged s) s.log.ended few s.kept s.area s.deliveries i.named i.hold d w

    arrived : Good s (delivering s (taken (outcome s.kept s.area w.report)))
    arrived =
        let n = i.named in
        record {
          inv = record {
            hung = i.hung;
            named = record { name = n.name; ufo = n.ufo; lawful = n.lawful };
            hold = brought.hold;
            line = i.line;
          };
          later = record { next = omega arith; top = omega arith; over = λ e. rw e; log = omega arith; down = λ d m. m; up = λ d m. m };
        }

    arrives : (room : ℕ) → Good s (delivering s (taking s.kept s.area d room))
    arrives room = by (taking s.kept s.area d room) refl where
      by : (v : Verdict Taking) → taking s.kept s.area d room ≡ v → Good s (delivering s v)
      by (refused n) e = stays_put s i
      by (taken t) e = rw (took-so room t e) arrived

  module _ (d : List ℕ) where
    pub passed-by : LoginAnswer d → (room : ℕ) → taking s.kept s.area d room ≡ refused NotForRecord
    passed-by l room = refuses-login s.kept s.area i.named.name i.named.ufo hung-record i.hold.sound d l room

    -- what reports something, or is taken, is vouched for
    pub vouched-if-reported : Known s d → (p : ufo.Packet) (report : Report) → ufo.read d ≡ taken p → of_ufo p ≡ taken report → Vouches s d
    vouched-if-reported (tells w) p report e f = w
    vouched-if-reported (greets l) p report e f = reports-none d p report l e f

    pub vouched-if-taken : Known s d → (room : ℕ) (t : Taking) → taking s.kept s.area d room ≡ taken t → Vouches s d
    vouched-if-taken (tells w) room t e = w
    vouched-if-taken (greets l) room t e = not-both (taking s.kept s.area d room) NotForRecord t (passed-by l room) e

    arrives-known : Known s d → (room : ℕ) → Good s (delivering s (taking s.kept s.area d room))
    arrives-known (tells w) room = arrives d w room
    arrives-known (greets l) room = rw (passed-by l room) (stays_put s i)

    pub received : Known s d → (room : ℕ) → enough ≤ room → Received s d room
    received (tells w) room e = took _ (taken-so d w room e)
    received (greets l) room e = passed l (passed-by l room) (rw (passed-by l))

  -- what goes out to the server
  says_so : (ds : List (List ℕ)) → Good s (saying s s.kept ds)
  says_so ds = record {
    inv = record { hung = i.hung; named = i.named; hold = i.hold; line = i.line };
    later = record {
      next = omega arith;
      top = omega arith;
      over = λ e. e;
      log = omega arith;
      down = λ d m. m;
      up = λ d m. Memᴰ.append_left ds m;
    };
  }

  asks-so : (ds : List (List ℕ)) → Good s (saying s (asked_now s.kept) ds)
  asks-so ds =
      let n = i.named in
      let h = i.hold in
      record {
        inv = record {
          hung = i.hung;
          named = record { name = n.name; ufo = n.ufo; lawful = n.lawful };
          hold = record {
            begun = h.begun;
            one = h.one;
            near = h.near;
            known = h.known;
            old = omega arith;
            final = h.final;
            placed = h.placed;
            sound = h.sound;
            sent = h.sent;
          };
          line = i.line;
        };
        later = record {
          next = omega arith;
          top = omega arith;
          over = λ e. e;
          log = omega arith;
          down = λ d m. m;
          up = λ d m. Memᴰ.append_left ds m;
        };
      }

  wishes : (room : ℕ) (v : Verdict Wish)
      → ((first count : ℕ) (after : Record) → v ≡ taken (wanted first count after) → after ≡ asked_now s.kept) → Good s (wishing s room v)
  wishes room (refused n) f = stays_put s i
  wishes room (taken nothing) f = stays_put s i
  wishes room (taken wait) f = stays_put s i
  wishes room (taken (wanted first count after)) f = rw (f first count after refl) (asks-so _)

pub good : (s : State) (a : Act) → Allowed s a → Inv s → Good s (step s a)
good s (adds message) al i = grown s i _ (λ k e. adding-leaves s.log s.lent i.hung k message al e)
good s (adds_many blocks) al i = grown s i _ (λ k e. adding-many-leaves s.log s.lent i.hung k blocks al e)
good s declares al i = grown s i _ (λ k e. declaring-leaves s.log s.lent i.hung k e)
good s (beats room) al i = sends s i _ (λ d m. out s i _ d m (λ x e. tells (search lends)))
good s (ends room) al i = sends s i _ (λ d m. out s i _ d m (λ x e. tells (search lends)))
good s (answers first count room) al i = sends s i _ (to-message s i room (request first count))
good s (accepts session next room) al i = sends s i _ (λ d m. out s i _ d m (λ x e. greets (accept-answers session next room x e)))
good s (rejects reason room) al i = sends s i _ (λ d m. out s i _ d m (λ x e. greets (reject-answers reason room x e)))
good s (serves datagram room) al i = sends s i _ (to-packet s i room _)
good s (takes datagram room) al i = arrives-known s i datagram (i.line datagram al) _
good s (asks sheet rule elapsed room) al i =
    wishes s i room _ (λ first count after e. (requests s.kept sheet rule elapsed first count after e).changes)
good s (says datagram) al i = says_so s i _

pub along : {s t : State} → Run s t → Inv s → Good s t
along {s} stop i = stays_put s i
along (then {t = u} r act al) i = let g = along r i in chain g (good u act al g.inv)

pub inv : {s : State} → Reached s → Inv s
inv r = (along r.run (begins r.lent r.area r.session r.kept r.bytes r.slots r.opened)).inv
