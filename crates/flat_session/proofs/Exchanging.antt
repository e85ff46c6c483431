-- What a program comes to by an exchange, as it reads the answers, is what an exchange of `session` comes to; so with one after another.
-- Assumes nothing.
use Prim.Native.Nat.{ℕ, zero, suc, ◌+◌, ◌^◌, ◌<◌}
use mathlib.Core.Path.{◌≡◌, refl}
use mathlib.Core.List.{List}
use native.Mathlib.Nat.{mod-eq_of_lt}
use native.Mathlib.Omega.{arith}
use Rattle.taking.specs.Taking.{taking}
use Rattle.wire.specs.Checks.{◌told_by◌, Verdict, refused, taken}
use Rattle.wire.proofs.Tests.{impossible}
use Rattle.clock.specs.declared.sheet.Sheet.{Sheet}
use Rattle.lend.specs.Answer.{answer_reply}
use Rattle.lend.proofs.Answering.{few-in}
use Rattle.record.specs.declared.Record.{Record}
use Rattle.asking.specs.Asking.{Wish, nothing, wait, request as wanted, asking, asked_of}
use Rattle.session.specs.Session.{◌among◌, State, takes, asks, step, stop, then, Run, Reached}
use Rattle.session.specs.Promise.{Due, made, Exchange, Exchanges, none, more}
use Rattle.session.proofs.EveryStep.{inv}
use Rattle.session.proofs.Fetching.{due-asks}
use Rattle.flat_clock.specs.Waiting.{known_sheet, rule_of}
use Rattle.flat_record.specs.Asking.{flat_asked}
use Rattle.flat_record.specs.declared.keeping.FlatRecord.{FlatRecord}
use Rattle.flat_record.specs.declared.requesting.FlatAsked.{FlatAsked}
use Rattle.flat_session.specs.Face.{Held, Holds, LeavesAsked, LeavesSteps}
use Rattle.flat_session.specs.Promise.{LeavesFetched, LeavesServed, LeavesExchanged, LeavesAll}
use Rattle.flat_session.proofs.NeverNought.{laid-down, took}
use Rattle.flat_session.proofs.Taking.{take_left}
use Rattle.flat_session.proofs.Asking.{ask-left}
use Rattle.flat_session.proofs.EachStep.{on, steps-left}

-- an answer that says to request something
wants : (given : FlatRecord) (v : Verdict Wish) (x : FlatAsked) → x ≡ flat_asked given (v told_by asked_of) → x.what ≡ 2
    → (after : Record) × (v ≡ taken (wanted x.first x.count after))
wants given (refused n) x e z = impossible cc
wants given (taken nothing) x e z = impossible cc
wants given (taken wait) x e z = impossible cc
wants given (taken (wanted first count after)) x e z = (after, rw e)

-- the numbers of a request, as hp_log_answer takes them
narrow : {s : State} → Reached s → (first count : ℕ) → Due s first count → (first < 2 ^ 32) × (count < 2 ^ 16)
narrow {s} r first count due =
    let i = inv r in
    let few = few-in s.log s.lent i.hung.whole in
    let a = due-asks s first count due in
    (omega (arith, few, a.from, a.lacks, i.hold.known), omega (arith, a.many))

module _ {s : State} (r : Reached s) (left : ℕ → Held → Type 0)
    (k : (g : Held) (t : State) (x : Exchange s t) → Reached t → Holds g t → left x.first g) where
  -- the answer arrives, and is taken
  module _ (first count : ℕ) (due : Due s first count) (room_up : ℕ) (u : State) (run : Run (made s due room_up) u)
      (d : List ℕ) (room_down : ℕ) (answer : answer_reply u.log u.lent first count room_down ≡ taken d) where
    arrived : (h : Held) (w : State) → Run u w → Reached w → Holds h w → LeavesFetched h d (left first)
    arrived h w later q i room m =
        let there : d among w.down = rw i.down at m in
        take_left q h i d there room (λ x g. x.refusal ≡ 0 → left first g)
        (λ x g told j z.
        let t = took (taking w.kept w.area d room) h.kept x told.answer z in
        k g (step w (takes d room))
        (record {
          first = first;
          count = count;
          due = due;
          room_up = room_up;
          u = u;
          run = run;
          datagram = d;
          room_down = room_down;
          answer = answer;
          w = w;
          later = later;
          arrives = there;
          room_out = room;
          took = t.0;
          takes-it = t.1;
          left = refl;
        })
        (on q (takes d room) there) j)

  -- before that, the server answers
  served : (first count : ℕ) (due : Due s first count) (room_up : ℕ) (h : Held) (u : State) → Run (made s due room_up) u → Reached u
      → Holds h u → LeavesServed h first count (left first)
  served first count due room_up h u run q i room κs a x e g p z m =
      let n = narrow r first count due in
      let laid = laid-down _ _ x _
      (rw (g.0, g.1, g.2, g.3, g.4, mod-eq_of_lt n.0, mod-eq_of_lt n.1, i.log, i.lent) at p) z in
      steps-left stop q h i m _ (λ f w later v j. arrived first count due room_up u run _ room laid f w later v j)

  -- and before that, the recorder asks
  pub exchange-left : (h : Held) → Holds h s → LeavesExchanged h left
  exchange-left h i timed patience elapsed room = by (known_sheet timed) refl where
    asked : (x : FlatAsked) (g : Held) → Type 0
    asked x g = x.what ≡ 2 → (m : ℕ) → LeavesSteps m g (λ f. LeavesServed f x.first x.count (left x.first))

    by : (v : Verdict Sheet) → known_sheet timed ≡ v → LeavesAsked h timed patience elapsed room asked
    by (refused n) q = λ κs a x e g p. rw (p, g.0, g.1, i.kept, q) (λ z. impossible cc)
    by (taken sheet) q =
        ask-left h s i timed patience sheet q elapsed room asked
        (λ x g answer j z m.
        let w = wants h.kept (asking s.kept sheet (rule_of patience) elapsed) x answer z in
        let due : Due s x.first x.count =
        record { sheet = sheet; rule = rule_of patience; elapsed = elapsed; after = w.0; wish = w.1 } in
        steps-left stop (on r (asks sheet (rule_of patience) elapsed room) tt) g j m _
        (λ f u run q l. served x.first x.count due room f u run q l))

-- one after another, and whatever else happens before, between and after them
joined : {s t u : State} → Run s t → Run t u → Run s u
joined a stop = a
joined a (then b act al) = then (joined a b) act al

later : {s t u : State} {n : ℕ} → Exchanges s n t → Run t u → Exchanges s n u
later (none a) b = none (joined a b)
later (more e x a) b = more e x (joined a b)

pub exchanges-left : {s t : State} {k : ℕ} → Exchanges s k t → Reached t → (h : Held) → Holds h t → (n : ℕ) (left : Held → Type 0)
    → ((g : Held) (u : State) (m : ℕ) → m ≡ k + n → Exchanges s m u → Reached u → Holds g u → left g)
    → LeavesAll n h left
exchanges-left {k = k} e r h i zero left f = λ m. steps-left stop r h i m left (λ g u run q j. f g u k (omega arith) (later e run) q j)
exchanges-left e r h i (suc n) left f = λ m. steps-left stop r h i m _ (λ g u run q j.
    exchange-left q (λ first g. LeavesAll n g left)
    (λ g t x q j. exchanges-left (more (later e run) x stop) q g j n left (λ g u m c. f g u m (omega (arith, c)))) g j)
