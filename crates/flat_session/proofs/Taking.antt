-- What hp_take answers a program that holds a state is what `session` takes, and the blocks that it delivers are the messages taken.
-- Assumes nothing.
use Prim.Native.Nat.{ℕ, ◌≤◌}
use mathlib.Core.Path.{◌≡◌, refl, ◌∙◌}
use mathlib.Core.List.{List, append-nil}
use native.Mathlib.Omega.{arith}
use lib.ListN.{length, take, drop}
use lib.Seq.{take-append_seam}
use Rattle.wire.specs.declared.refusal.Refusal.{Refusal}
use Rattle.wire.specs.Checks.{◌told_by◌, Verdict, refused, taken}
use Rattle.wire.proofs.Checks.{not-both}
use Rattle.blocks.specs.Blocks.{frames}
use Rattle.blocks.proofs.Frames.{short-frames}
use Rattle.blocks.proofs.Cutting.{cut-frames}
use Rattle.taking.specs.Taking.{Taking, taking, taken_of}
use Rattle.session.specs.Session.{◌among◌, State, takes, delivering, step, Reached}
use Rattle.session.proofs.EveryStep.{inv, took-so, fits, vouched-if-taken}
use Rattle.flat_record.specs.Keeping.{flat_taken, FlatAnswered}
use Rattle.flat_record.specs.declared.keeping.FlatTaken.{FlatTaken}
use Rattle.flat_record.proofs.FlatAndBack.{taken-again}
use Rattle.flat_session.specs.Face.{Held, Holds, with_taken, LeavesVisited, LeavesTaken}
use Rattle.flat_session.proofs.Visiting.{visited-left}

-- the answer is the verdict's, and a refusal leaves all as it was
pub record TakenAs (h : Held) (v : Verdict Taking) (x : FlatTaken) (g : Held) : Type 0 where
  pub answer : x ≡ flat_taken h.kept (v told_by taken_of)
  pub same : (why : Refusal) → v ≡ refused why → g ≡ h

module _ {s : State} (r : Reached s) (h : Held) (i : Holds h s) (d : List ℕ) (m : d among s.down) (room : ℕ) where
  -- The verdict decides: a refusal leaves all as it was; what is taken is framed at the output's start, and visited block by block it is
  -- what was delivered.
  visits : (out : List ℕ) (x : FlatTaken) (area bytes : List ℕ)
      → FlatAnswered (taking s.kept s.area d room) h.kept s.area out x area bytes
      → (left : Held → Type 0)
      → ((g : Held) → TakenAs h (taking s.kept s.area d room) x g → Holds g (step s (takes d room)) → left g)
      → LeavesVisited (take x.bytes bytes) x.messages 0 (λ delivered. left (with_taken h x area delivered))
  visits out x area bytes e left k = by (taking s.kept s.area d room) refl e k where
    by : (v : Verdict Taking) → taking s.kept s.area d room ≡ v → FlatAnswered v h.kept s.area out x area bytes
        → ((g : Held) → TakenAs h v x g → Holds g (delivering s v) → left g)
        → LeavesVisited (take x.bytes bytes) x.messages 0 (λ delivered. left (with_taken h x area delivered))
    by (refused n) q e k =
        rw e.answer
        (k _ (record { answer = e.answer; same = λ _ _. rw (e.slots, ← i.area, append-nil h.deliveries) })
        (record {
          log = i.log;
          lent = i.lent;
          kept = i.kept;
          area = e.slots;
          deliveries = append-nil h.deliveries ∙ i.deliveries;
          down = i.down;
          up = i.up;
        }))
    by (taken t) q e k =
        let ms : List (List ℕ) = t.delivered in
        let g = vouched-if-taken s (inv r) d ((inv r).line d m) room t q in
        let small : length (frames ms) ≤ 47097 = rw (took-so s (inv r) d g room t q) (fits s (inv r) d g) in
        let again = taken-again h.kept s.kept s.area d room t i.kept q in
        rw (e.answer, e.bytes, take-append_seam (frames ms) (drop (length (frames ms)) out))
        (visited-left (length ms) (frames ms) 0 ms (cut-frames ms (short-frames ms (omega arith))) _
        (k _ (record { answer = e.answer; same = λ n z. not-both (taken t) n t z refl })
        (record {
          log = i.log;
          lent = i.lent;
          kept = again;
          area = e.slots;
          deliveries = rw i.deliveries;
          down = i.down;
          up = i.up;
        })))

  pub take_left : (left : FlatTaken → Held → Type 0)
      → ((x : FlatTaken) (g : Held) → TakenAs h (taking s.kept s.area d room) x g → Holds g (step s (takes d room)) → left x g)
      → LeavesTaken h d room left
  take_left left k κs a x e g p =
      visits _ x _ _ (rw (g.0, g.1, g.2, g.3, i.kept, i.area) at p) (left x) (λ f. k x f)
