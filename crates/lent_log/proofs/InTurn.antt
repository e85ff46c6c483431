-- Adding many messages at once leaves the log and the bytes that adding each in turn leaves: the first is added, and the others behind it.
-- Assumes nothing.
use Prim.Native.Nat.{ℕ, ◌+◌}
use mathlib.Core.List.{List, [], ◌∷◌, ◌++◌, append_assoc}
use mathlib.Core.Path.{◌≡◌, refl, ap, sym, ◌∙◌}
use mathlib.Core.Bool.{true}
use native.Mathlib.Nat.{add-zero}
use native.Mathlib.Omega.{arith}
use lib.ListN.{length, take, drop, take-append-drop, length-append}
use lib.Seq.{drop-drop}
use lib.Dec.{leb}
use Rattle.wire.specs.Checks.{Verdict, refused, taken, ◌into◌}
use Rattle.wire.proofs.Checks.{not-both}
use Rattle.blocks.specs.Blocks.{frames, messages_of}
use Rattle.blocks.proofs.Frames.{length-one, length-frames, frames-append}
use Rattle.lent_log.specs.Log.{small, Kept, extended, adding, to_the_end, adding_many}
use Rattle.lent_log.specs.declared.Log.{Log}
use Rattle.wire.proofs.Tests.{and_left, and_right}
use Rattle.lent_log.proofs.Adding.{small-short, up_to, after, Fits, grown, added, added-many}
use Rattle.lent_log.proofs.Entering.{takes_one, takes-many}
use Rattle.lent_log.proofs.Many.{all-frames}

-- each message added to what the one before it left
unfoldable pub in_turn : Log → List ℕ → List (List ℕ) → Verdict Kept
in_turn l s [] = taken (record { log = l; bytes = s })
in_turn l s (m ∷ ms) = adding l s m into (λ k. in_turn k.log k.bytes ms)

-- the first message and then the others
module _ (l : Log) (s m : List ℕ) (ms : List (List ℕ)) where
  abbrev one : Kept
  one = extended l s (m ∷ [])

  frames-one : frames (m ∷ ms) ≡ frames (m ∷ []) ++ frames ms
  frames-one = frames-append (m ∷ []) ms

  first_fits : Fits l s (m ∷ ms) → Fits l s (m ∷ [])
  unfolding small
  first_fits f =
      let k = length-one m in
      let j = length-frames m ms in
      let a = leb (length m) 1463 in
      record {
        hung = f.hung;
        goes_on = f.goes_on;
        sizes = rw (and_left a (small ms) f.sizes);
        count = omega (arith, f.count);
        room = omega (arith, f.room);
      }

  others-fit : Fits l s (m ∷ ms) → Fits one.log one.bytes ms
  unfolding small
  others-fit f =
      let g = grown l s (m ∷ []) (first_fits f) in
      let k = length-one m in
      let j = length-frames m ms in
      record {
        hung = g.hung;
        goes_on = g.goes_on;
        sizes = and_right (leb (length m) 1463) (small ms) f.sizes;
        count = omega (arith, f.count);
        room = omega (arith, f.room, g.size);
      }

  both-fit : Fits l s (m ∷ []) → Fits one.log one.bytes ms → Fits l s (m ∷ ms)
  unfolding small
  both-fit f h =
      let g = grown l s (m ∷ []) f in
      let k = length-one m in
      let j = length-frames m ms in
      record {
        hung = f.hung;
        goes_on = f.goes_on;
        sizes = rw (and_left (leb (length m) 1463) true f.sizes) h.sizes;
        count = omega (arith, h.count);
        room = omega (arith, h.room, g.size);
      }

  same_left : Fits l s (m ∷ []) → extended one.log one.bytes ms ≡ extended l s (m ∷ ms)
  same_left f =
      let b = frames (m ∷ []) in
      let o = frames ms in
      let u = l.used in
      let w = u + length (frames (m ∷ ms)) in
      let mark : u + length b + length o ≡ w = omega (arith, rw length-append at (ap length frames-one)) in
      let count : l.count + 1 + length ms ≡ l.count + length (m ∷ ms) = omega arith in
      let past : drop (u + length b + length o) one.bytes ≡ drop (u + length b + length o) s =
      rw (← drop-drop (length o) (u + length b) one.bytes, after s b u f.room, drop-drop (length o) (u + length b) s) in
      let bytes : take (u + length b) one.bytes ++ (o ++ drop (u + length b + length o) one.bytes)
      ≡ take u s ++ (frames (m ∷ ms) ++ drop w s) =
      rw (past, mark, up_to s b u f.room, append_assoc (take u s) b (o ++ drop w s), ← append_assoc b o (drop w s), ← frames-one) in
      cc (count, mark, bytes)

nothing-added : (l : Log) (s : List ℕ) → extended l s [] ≡ record { log = l; bytes = s }
unfolding frames
nothing-added l s = rw (add-zero l.count, add-zero l.used, take-append-drop l.used s)

pub in-turn-taken : (ms : List (List ℕ)) (l : Log) (s : List ℕ) → Fits l s ms → in_turn l s ms ≡ taken (extended l s ms)
unfolding in_turn
in-turn-taken [] l s f = ap taken (sym (nothing-added l s))
in-turn-taken (m ∷ ms) l s f =
    let g = first_fits l s m ms f in
    let k = extended l s (m ∷ []) in
    rw (takes_one l s m g) (in-turn-taken ms k.log k.bytes (others-fit l s m ms f) ∙ ap taken (same_left l s m ms g))

-- where each is taken in turn, all of them fit
abbrev Goes : Log → List ℕ → List ℕ → List (List ℕ) → Kept → Type 0
Goes l s m ms k = Fits l s (m ∷ []) × (in_turn (extended l s (m ∷ [])).log (extended l s (m ∷ [])).bytes ms ≡ taken k)

first_taken : (l : Log) (s m : List ℕ) (ms : List (List ℕ)) (k : Kept) → in_turn l s (m ∷ ms) ≡ taken k → Goes l s m ms k
unfolding in_turn
first_taken l s m ms k e = by (adding l s m) refl where
  by : (v : Verdict Kept) → adding l s m ≡ v → Goes l s m ms k
  by (refused n) q = not-both (in_turn l s (m ∷ ms)) n k (rw q refl) e
  by (taken j) q =
      let a = added l s j m q in
      let r : in_turn j.log j.bytes ms ≡ taken k = rw q at e in
      (a.0, rw a.1 at r)

pub in-turn-fits : (ms : List (List ℕ)) (m : List ℕ) (l : Log) (s : List ℕ) (k : Kept) → in_turn l s (m ∷ ms) ≡ taken k → Fits l s (m ∷ ms)
in-turn-fits [] m l s k e = (first_taken l s m [] k e).0
in-turn-fits (o ∷ os) m l s k e =
    let f = first_taken l s m (o ∷ os) k e in
    let j = extended l s (m ∷ []) in
    both-fit l s m (o ∷ os) f.0 (in-turn-fits os o j.log j.bytes k f.1)

-- what many at once leave, each in turn leaves, and the other way round
pub many-in-turn : (l : Log) (s : List ℕ) (ms : List (List ℕ)) (k : Kept) → small ms ≡ true → adding_many l s (frames ms) ≡ taken k
    → in_turn l s ms ≡ taken k
many-in-turn l s ms k z e =
    let a = added-many l s k (frames ms) e in
    let same : messages_of (to_the_end (frames ms)) ≡ ms = ap messages_of (all-frames ms (small-short ms z)) in
    let f : Fits l s ms = rw same at a.0 in
    let is : k ≡ extended l s ms = rw same at a.1 in
    in-turn-taken ms l s f ∙ ap taken (sym is)

pub in-turn-many : (l : Log) (s m : List ℕ) (ms : List (List ℕ)) (k : Kept) → in_turn l s (m ∷ ms) ≡ taken k
    → adding_many l s (frames (m ∷ ms)) ≡ taken k
in-turn-many l s m ms k e =
    let f = in-turn-fits ms m l s k e in
    takes-many l s (m ∷ ms) f (frames (m ∷ ms)) (all-frames (m ∷ ms) (small-short (m ∷ ms) f.sizes))
    ∙ sym (in-turn-taken (m ∷ ms) l s f)
    ∙ e
