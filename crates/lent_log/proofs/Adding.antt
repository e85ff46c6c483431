-- What is added to a log follows its messages, and the log still hangs together; declaring the end leaves them.
-- Assumes nothing.
use Prim.Native.Nat.{ℕ, ◌+◌, ◌-◌, ◌^◌, ◌≤◌}
use mathlib.Core.List.{List, [], ◌∷◌, ◌++◌, append_assoc}
use mathlib.Core.Path.{◌≡◌, refl, ap, sym}
use mathlib.Core.Bool.{true, false}
use native.Mathlib.Omega.{arith}
use borrow.Author.Tests.{leb-true, not-true}
use lib.ListN.{length, take, drop, length-append, length-drop}
use lib.Seq.{take_at, drop_at, length-take-le}
use lib.Dec.{leb}
use Rattle.wire.specs.Checks.{taken, ◌else◌, Passed}
use Rattle.wire.specs.Fields.{Bytes}
use Rattle.wire.specs.declared.refusal.Refusal.TheVariants.{Framing}
use Rattle.wire.proofs.Checks.{all-passed}
use Rattle.wire.proofs.Width.{bytes_drop, bytes_take, bytes-append}
use Rattle.blocks.specs.Blocks.{frames, whole, is_whole, messages_of, Each, Short}
use Rattle.blocks.proofs.Frames.{bytes-frames}
use Rattle.blocks.proofs.Joining.{cut-joined}
use Rattle.blocks.proofs.Cutting.{cut-frames}
use Rattle.lent_log.specs.Log.{small, blocks_in, messages_in, hangs, Kept, extended, growing, fitting, adding, to_the_end, adding_many}
use Rattle.lent_log.specs.Log.{declaring}
use Rattle.lent_log.specs.declared.Log.{Log}
use Rattle.wire.proofs.Tests.{and_left, and_right}
use Rattle.lent_log.proofs.Hanging.{hanging, hangs-so}

pub small-short : (ms : List (List ℕ)) → small ms ≡ true → Each Short ms
unfolding small
small-short [] e = tt
small-short (m ∷ ms) e =
    let l = leb-true (length m) 1463 (and_left (leb (length m) 1463) (small ms) e) in
    (omega arith, small-short ms (and_right (leb (length m) 1463) (small ms) e))

small-joined : (xs ys : List (List ℕ)) → small xs ≡ true → small ys ≡ true → small (xs ++ ys) ≡ true
unfolding small
small-joined [] ys e f = f
small-joined (m ∷ xs) ys e f =
    let a = leb (length m) 1463 in
    rw (and_left a (small xs) e, small-joined xs ys (and_right a (small xs) e) f)

-- bytes laid after the mark: what stands up to the new mark, and what follows
module _ (s f : List ℕ) (u : ℕ) (h : u + length f ≤ length s) where
  abbrev pub laid_at : List ℕ
  laid_at = take u s ++ (f ++ drop (u + length f) s)

  end_of : length (take u s ++ f) ≡ u + length f
  end_of = let l = length-take-le u s (omega arith) in rw (length-append, l)

  pub up_to : take (u + length f) laid_at ≡ take u s ++ f
  up_to = rw (← append_assoc (take u s) f (drop (u + length f) s)) (take_at (take u s ++ f) (drop (u + length f) s) (u + length f) end_of)

  pub after : drop (u + length f) laid_at ≡ drop (u + length f) s
  after = rw (← append_assoc (take u s) f (drop (u + length f) s)) (drop_at (take u s ++ f) (drop (u + length f) s) (u + length f) end_of)

  pub same_size : length laid_at ≡ length s
  same_size = let l = length-take-le u s (omega arith) in rw (length-append, length-append, length-drop, l) (omega arith)

-- what a log has that may grow, and messages that may be added
pub record Fits (l : Log) (s : List ℕ) (ms : List (List ℕ)) : Type 0 where
  pub hung : hangs l s ≡ true
  pub goes_on : l.ended ≡ false
  pub sizes : small ms ≡ true
  pub count : l.count + length ms ≤ 2 ^ 32 - 2
  pub room : l.used + length (frames ms) ≤ length s

pub fits : (l : Log) (s : List ℕ) (ms : List (List ℕ)) → Passed (growing l s) → Passed (fitting l s ms) → Fits l s ms
fits l s ms p q = record {
  hung = p.0;
  goes_on = not-true l.ended p.1.0;
  sizes = q.0;
  count = leb-true (l.count + length ms) (2 ^ 32 - 2) q.1.0;
  room = leb-true (l.used + length (frames ms)) (length s) q.1.1.0;
}

-- what is left: a log that hangs together, with the messages that were there and then the new ones
pub record Grown (l : Log) (s : List ℕ) (ms : List (List ℕ)) (k : Kept) : Type 0 where
  pub hung : hangs k.log k.bytes ≡ true
  pub messages : messages_in k.log k.bytes ≡ messages_in l s ++ ms
  pub goes_on : k.log.ended ≡ false
  pub size : length k.bytes ≡ length s

pub grown : (l : Log) (s : List ℕ) (ms : List (List ℕ)) → Fits l s ms → Grown l s ms (extended l s ms)
grown l s ms f =
    let h = hanging l s f.hung in
    let k = extended l s ms in
    let b = frames ms in
    let z = same_size s b l.used f.room in
    let e : blocks_in k.log k.bytes ≡ whole (messages_in l s ++ ms) =
    rw (up_to s b l.used f.room)
    (cut-joined (length ms) b ms (cut-frames ms (small-short ms f.sizes)) l.count (take l.used s) (messages_in l s) h.cuts) in
    record {
      hung = hangs-so k.log k.bytes f.count (rw z f.room) (messages_in l s ++ ms) e
          (small-joined (messages_in l s) ms h.sizes f.sizes);
      messages = ap messages_of e;
      goes_on = f.goes_on;
      size = z;
    }

-- bytes stay bytes
pub still-bytes : (l : Log) (s : List ℕ) (ms : List (List ℕ)) → Bytes s → Each Bytes ms → Bytes (extended l s ms).bytes
still-bytes l s ms b h =
    let u = l.used in
    bytes-append (take u s) (frames ms ++ drop (u + length (frames ms)) s) (bytes_take u s b)
    (bytes-append (frames ms) (drop (u + length (frames ms)) s) (bytes-frames ms h) (bytes_drop (u + length (frames ms)) s b))

-- adding a message, adding many, declaring the end
module _ (l : Log) (s : List ℕ) (k : Kept) where
  pub added : (m : List ℕ) → adding l s m ≡ taken k → Fits l s (m ∷ []) × (k ≡ extended l s (m ∷ [])) × Grown l s (m ∷ []) k
  unfolding adding
  added m e =
      let ms = m ∷ [] in
      let p = all-passed (growing l s ++ fitting l s ms) (taken (extended l s ms)) k e in
      let f = fits l s ms (p.0.0, (p.0.1.0, tt)) p.0.1.1 in
      let is : extended l s ms ≡ k = cc p.1 in
      (f, sym is, rw is at (grown l s ms f))

  pub added-many : (f : List ℕ) → adding_many l s f ≡ taken k → let ms = messages_of (to_the_end f) in
      Fits l s ms × (k ≡ extended l s ms) × Grown l s ms k
  unfolding adding_many
  added-many f e =
      let ms = messages_of (to_the_end f) in
      let p = all-passed (growing l s ++ ((is_whole (to_the_end f) else Framing) ∷ fitting l s ms)) (taken (extended l s ms)) k e in
      let f = fits l s ms (p.0.0, (p.0.1.0, tt)) p.0.1.1.1 in
      let is : extended l s ms ≡ k = cc p.1 in
      (f, sym is, rw is at (grown l s ms f))

  pub declared : declaring l s ≡ taken k
      → (hangs k.log k.bytes ≡ true) × (messages_in k.log k.bytes ≡ messages_in l s) × (k.log.ended ≡ true) × (k.bytes ≡ s)
  unfolding declaring hangs
  declared e =
      let after : Kept = record { log = record { count = l.count; used = l.used; ended = true }; bytes = s } in
      let p = all-passed (growing l s) (taken after) k e in
      let is : after ≡ k = cc p.1 in
      rw (← is) (p.0.0, refl, refl, refl)
