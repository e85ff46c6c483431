-- What hp_ask answers a program that holds a state is what `session` asks, and the request that it then writes goes out.
-- Assumes nothing.
use Prim.Native.Nat.{ℕ, ◌^◌, ◌<◌}
use mathlib.Core.Path.{◌≡◌, refl, ◌∙◌}
use mathlib.Core.List.{List, [], append-nil}
use native.Mathlib.Nat.{mod-eq_of_lt}
use native.Mathlib.Omega.{arith}
use lib.Ieee.{Float}
use Rattle.wire.specs.Checks.{◌told_by◌, Verdict, refused, taken}
use Rattle.ufo_up.specs.Up.{request}
use Rattle.ufo_up_write.specs.WriteUp.{reply}
use Rattle.clock.specs.declared.sheet.Sheet.{Sheet}
use Rattle.clock.specs.declared.patience.Patience.{Patience}
use Rattle.record.specs.declared.Record.{Record}
use Rattle.asking.specs.Asking.{Wish, nothing, wait, request as wanted, asking, asked_of}
use Rattle.asking.proofs.Asks.{requests}
use Rattle.session.specs.Session.{State, asks, saying as Says-on, wishing, step}
use Rattle.flat_clock.specs.Waiting.{known_sheet, rule_of}
use Rattle.flat_clock.specs.declared.FlatPatience.{FlatPatience}
use Rattle.flat_clock.specs.declared.FlatSheet.{FlatSheet}
use Rattle.flat_packet.specs.declared.Packet.{Packet}
use Rattle.flat_ufo_up.specs.Writing.{message_reply}
use Rattle.flat_record.specs.Keeping.{known_record}
use Rattle.flat_record.specs.Asking.{flat_asked}
use Rattle.flat_record.specs.declared.keeping.FlatRecord.{FlatRecord}
use Rattle.flat_record.specs.declared.requesting.FlatAsked.{FlatAsked}
use Rattle.flat_record.proofs.FlatAndBack.{asked-again}
use Rattle.flat_session.specs.Face.{Held, Holds, saying, LeavesRequested, LeavesAsked}
use Rattle.flat_session.proofs.NeverNought.{datagram-left}

-- the fields of a request, which has no body
request-flat : (f : Packet) (room first count : ℕ) → f.kind ≡ 84 → f.number ≡ first → f.count ≡ count
    → message_reply f [] room ≡ reply (request first count) room
unfolding message_reply
request-flat f room first count k n m = rw (k, n, m)

module _ (h : Held) (s : State) (i : Holds h s) where
  -- what the recorder says, with the record that it keeps
  pub said-left : (kept : FlatRecord) (after : Record) → known_record kept ≡ taken after → (ds es : List (List ℕ)) → ds ≡ es
      → Holds (saying h kept ds) (Says-on s after es)
  said-left kept after k ds es e = record {
    log = i.log;
    lent = i.lent;
    kept = k;
    area = i.area;
    deliveries = i.deliveries;
    down = i.down;
    up = rw (i.up, e);
  }

  nothing_said : Holds (saying h h.kept []) s
  nothing_said = rw (append-nil s.up) at (said-left h.kept s.kept i.kept [] [] refl)

  requested : (sheet : Sheet) (rule : Patience) (elapsed : Float) (room : ℕ) (left : Held → Type 0)
      → ((g : Held) → Holds g (step s (asks sheet rule elapsed room)) → left g)
      → let x = flat_asked h.kept (asking s.kept sheet rule elapsed told_by asked_of) in
      LeavesRequested room x (λ said. left (saying h x.after said))
  requested sheet rule elapsed room left k = by (asking s.kept sheet rule elapsed) refl k where
    by : (v : Verdict Wish) → asking s.kept sheet rule elapsed ≡ v → ((g : Held) → Holds g (wishing s room v) → left g)
        → let x = flat_asked h.kept (v told_by asked_of) in LeavesRequested room x (λ said. left (saying h x.after said))
    by (refused n) q k = k _ nothing_said
    by (taken nothing) q k = k _ nothing_said
    by (taken wait) q k = k _ nothing_said
    by (taken (wanted first count after)) q k =
        let many = (requests s.kept sheet rule elapsed first count after q).many in
        let low : count < 2 ^ 16 = omega arith in
        let kept = asked-again h.kept s.kept sheet rule elapsed after first count i.kept q in
        λ f kind number counts κs a y e g p.
        k _ (said-left _ after kept _ _ (datagram-left _ _ y _
        (rw (g.0, g.1, g.2, request-flat f room first count kind number (counts ∙ mod-eq_of_lt low)) at p)))

  pub ask-left : (timed : FlatSheet) (patience : FlatPatience) (sheet : Sheet) → known_sheet timed ≡ taken sheet
      → (elapsed : Float) (room : ℕ) (left : FlatAsked → Held → Type 0)
      → ((x : FlatAsked) (g : Held)
      → x ≡ flat_asked h.kept (asking s.kept sheet (rule_of patience) elapsed told_by asked_of)
      → Holds g (step s (asks sheet (rule_of patience) elapsed room)) → left x g)
      → LeavesAsked h timed patience elapsed room left
  ask-left timed patience sheet known elapsed room left k κs a x e g p =
      let answer : x ≡ flat_asked h.kept (asking s.kept sheet (rule_of patience) elapsed told_by asked_of) =
      rw (g.0, g.1, g.2, g.3, i.kept, known) at p in
      rw answer (requested sheet (rule_of patience) elapsed room (left _) (λ f. k _ f refl))
