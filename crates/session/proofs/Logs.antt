-- Whatever enters the log leaves it hanging together, in bytes, with the messages that were there and none once it had ended.
-- Assumes nothing.
use Prim.Native.Nat.{ℕ}
use mathlib.Core.Path.{◌≡◌, sym, ◌∙◌}
use mathlib.Core.List.{List, [], ◌∷◌, ◌++◌, append-nil}
use mathlib.Core.Bool.{true, false≢true}
use lib.ListN.{length}
use Rattle.wire.specs.Fields.{Bytes}
use Rattle.wire.specs.Checks.{taken, ◌else◌}
use Rattle.wire.specs.declared.refusal.Refusal.TheVariants.{Framing}
use Rattle.wire.proofs.Checks.{all-passed}
use Rattle.blocks.specs.Blocks.{frames, is_whole, messages_of, Each, Short}
use Rattle.blocks.proofs.Cutting.{cut-frames, frames-cut}
use Rattle.blocks.proofs.Counting.{whole_is}
use Rattle.lent_log.specs.Log.{messages_in, hangs, Kept, extended, growing, fitting, adding, to_the_end, adding_many, declaring}
use Rattle.lent_log.specs.declared.Log.{Log}
use Rattle.lent_log.proofs.Adding.{small-short, Fits, Grown, still-bytes, added, added-many, declared}
use Rattle.lent_log.proofs.Many.{frames-all}
use Rattle.session.proofs.Growing.{Grows}

pub record Hung (l : Log) (s : List ℕ) : Type 0 where
  pub whole : hangs l s ≡ true
  pub bytes : Bytes s

-- what an entry leaves
pub record LogAfter (l : Log) (s : List ℕ) (k : Kept) : Type 0 where
  pub hung : Hung k.log k.bytes
  pub grows : Grows (messages_in l s) l.ended (messages_in k.log k.bytes) k.log.ended

-- blocks of bytes are messages of bytes
many-bytes : (f : List ℕ) → Bytes f → is_whole (to_the_end f) ≡ true → Each Short (messages_of (to_the_end f))
    → Each Bytes (messages_of (to_the_end f))
many-bytes f b w z =
    let ms : List (List ℕ) = messages_of (to_the_end f) in
    let same : frames ms ≡ f = frames-all f ms b (whole_is (to_the_end f) w) in
    (frames-cut (length ms) (frames ms) ms (rw same b) (cut-frames ms z)).2

many-whole : (l : Log) (s f : List ℕ) (k : Kept) → adding_many l s f ≡ taken k → is_whole (to_the_end f) ≡ true
unfolding adding_many
many-whole l s f k e =
    let ms : List (List ℕ) = messages_of (to_the_end f) in
    (all-passed (growing l s ++ ((is_whole (to_the_end f) else Framing) ∷ fitting l s ms)) (taken (extended l s ms)) k e).0.1.1.0

module _ (l : Log) (s : List ℕ) (h : Hung l s) (k : Kept) where
  more_left : (ms : List (List ℕ)) → Each Bytes ms → Fits l s ms × (k ≡ extended l s ms) × Grown l s ms k → LogAfter l s k
  more_left ms b a = record {
    hung = record { whole = a.2.hung; bytes = rw a.1 (still-bytes l s ms h.bytes b) };
    grows = record { tail = ms; same = a.2.messages; shut = λ e. absurd (false≢true (sym a.0.goes_on ∙ e)) };
  }

  pub adding-leaves : (m : List ℕ) → Bytes m → adding l s m ≡ taken k → LogAfter l s k
  adding-leaves m b e = more_left (m ∷ []) (b, tt) (added l s k m e)

  pub adding-many-leaves : (f : List ℕ) → Bytes f → adding_many l s f ≡ taken k → LogAfter l s k
  adding-many-leaves f b e =
      let a = added-many l s k f e in
      let ms : List (List ℕ) = messages_of (to_the_end f) in
      more_left ms (many-bytes f b (many-whole l s f k e) (small-short ms a.0.sizes)) a

  pub declaring-leaves : declaring l s ≡ taken k → LogAfter l s k
  declaring-leaves e =
      let d = declared l s k e in
      record {
        hung = record { whole = d.0; bytes = rw d.3 h.bytes };
        grows = record { tail = []; same = d.1 ∙ sym (append-nil (messages_in l s)); shut = λ _. (d.2, d.1) };
      }
