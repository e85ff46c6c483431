-- Going block by block through a packet that is taken, until a place is reached or passed, finds the message there.
-- Assumes nothing.
use Prim.Native.Nat.{ℕ, ◌+◌, ◌<◌}
use mathlib.Core.List.{List, [], ◌∷◌, ◌++◌, append_assoc, append-nil}
use mathlib.Core.Path.{◌≡◌, refl, sym, ◌∙◌}
use mathlib.Core.Bool.{true, true≢false}
use native.Mathlib.Omega.{arith}
use borrow.Author.Tests.{eq-eqb, ne_eqb}
use lib.ListN.{length}
use Rattle.wire.specs.Fields.{Bytes}
use Rattle.wire.specs.Checks.{Verdict, refused, taken}
use Rattle.wire.specs.declared.refusal.Refusal.{Refusal}
use Rattle.wire.specs.declared.refusal.Refusal.TheVariants.{Framing}
use Rattle.wire.proofs.Checks.{not-both}
use Rattle.blocks.specs.Blocks.{end_at, block_at}
use Rattle.blocks.specs.declared.Block.{Block}
use Rattle.blocks.proofs.Frames.{frames-none}
use Rattle.blocks.proofs.NextBlock.{Stands, found, missed}
use Rattle.ufo_up.specs.Up.{Message, write_message, write_up, read_up, message_at, message_from, message_in, is_taken}
use Rattle.ufo_up.proofs.UpMessage.{over-at}
use Rattle.ufo_up.proofs.UpInTurn.{length_more, read-there, read-last}

-- no block starts at a place that was passed
passed-by : (at place : ℕ) (ms : List Message) → place < at → message_from at ms place ≡ refused Framing
unfolding message_from
passed-by at place [] h = refl
passed-by at place (m ∷ ms) h =
    rw (ne_eqb at place (λ e. omega arith)) (passed-by (at + 2 + length (write_message m)) place ms (omega arith))

-- after the messages `gone` the place `at` is reached, and the others are still to be gone through
pub record Reaches (d : List ℕ) (place at : ℕ) : Type 0 where
  pub gone : List Message
  pub others : List Message
  pub read : read_up d ≡ taken (gone ++ others)
  pub reached : at ≡ length (write_up gone)
  pub answer : message_in d place ≡ message_from at others place

pub reaches-none : (d : List ℕ) (place : ℕ) → is_taken (read_up d) ≡ true → Reaches d place 0
reaches-none d place e = by (read_up d) refl e where
  by : (v : Verdict (List Message)) → read_up d ≡ v → is_taken v ≡ true → Reaches d place 0
  by (refused n) q t = absurd (true≢false (sym t))
  by (taken ms) q t = record { gone = []; others = ms; read = q; reached = sym frames-none; answer = rw q refl }

module _ (d : List ℕ) (bytes : Bytes d) (place at : ℕ) (r : Reaches d place at) where
  -- once no message is left the place is the packet's end, where no block stands
  at-end : read_up d ≡ taken (r.gone ++ []) → length d < end_at d at
  at-end e = omega (arith, r.reached, read-last d bytes r.gone (rw append-nil at e))

  pub reaches_more : at < place → (block : Block) → block_at d at ≡ taken block → Reaches d place block.next × (at < block.next)
  unfolding message_from
  reaches_more h block f =
      let w = found d at block f in
      (by r.others r.read r.answer w, omega (arith, w.ends)) where
        by : (b : List Message) → read_up d ≡ taken (r.gone ++ b) → message_in d place ≡ message_from at b place → Stands d at block
            → Reaches d place block.next
        by [] e q w = absurd (omega (arith, w.inside, at-end e))
        by (m ∷ b) e q w =
            let more : read_up d ≡ taken ((r.gone ++ (m ∷ [])) ++ b) = rw (append_assoc r.gone (m ∷ []) b) e in
            let end : block.next ≡ length (write_up (r.gone ++ (m ∷ []))) = w.ends ∙ rw r.reached (read-there d bytes r.gone m b e).1 in
            let same : at + 2 + length (write_message m) ≡ block.next = omega (arith, r.reached, length_more r.gone m) in
            record {
              gone = r.gone ++ (m ∷ []);
              others = b;
              read = more;
              reached = end;
              answer = q ∙ rw (ne_eqb at place (λ z. omega arith), same);
            }

  pub reaches-out : (why : Refusal) → block_at d at ≡ refused why → message_in d place ≡ refused why
  unfolding message_from
  reaches-out n f = by r.others r.read r.answer where
    by : (b : List Message) → read_up d ≡ taken (r.gone ++ b) → message_in d place ≡ message_from at b place
        → message_in d place ≡ refused n
    by [] e q = rw (missed d at n f).0 q
    by (m ∷ b) e q =
        not-both (message_at d at) Framing m (over-at d at (missed d at n f).1) (rw r.reached (read-there d bytes r.gone m b e).0)

  pub reaches-past : place < at → message_in d place ≡ refused Framing
  reaches-past h = r.answer ∙ passed-by at place r.others h

  pub reaches_here : at ≡ place → message_in d place ≡ message_at d place
  unfolding message_from
  reaches_here h = rw (← h) (by r.others r.read r.answer) where
    by : (b : List Message) → read_up d ≡ taken (r.gone ++ b) → message_in d place ≡ message_from at b place
        → message_in d at ≡ message_at d at
    by [] e q = rw (over-at d at (at-end e)) (rw (← h) at q)
    by (m ∷ b) e q =
        let t : message_at d at ≡ taken m = rw r.reached (read-there d bytes r.gone m b e).0 in
        rw t (rw (← h, eq-eqb at at refl) at q)
