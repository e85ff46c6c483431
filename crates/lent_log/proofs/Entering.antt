-- The laws that finish what enters the log: which check refuses, that a refusal leaves the bytes, and what is taken.
-- Assumes nothing.
use Prim.Native.Nat.{ℕ, ◌+◌, ◌-◌, ◌^◌, ◌≤◌, ◌<◌}
use mathlib.Core.Bool.{true, false}
use mathlib.Core.List.{List, [], ◌∷◌, ◌++◌}
use mathlib.Core.Path.{◌≡◌, refl, sym, ◌∙◌}
use native.Mathlib.Omega.{arith}
use borrow.Author.Tests.{le-leb, lt-leb, not-true}
use lib.ListN.{length, take, drop}
use lib.Seq.{sets, take-length}
use Rattle.wire.specs.Checks.{Verdict, refused, taken, Check, ◌else◌, checked, Passed}
use Rattle.wire.specs.Fields.{Bytes, bytes_of}
use Rattle.wire.specs.declared.refusal.Refusal.{Refusal}
use Rattle.wire.specs.declared.refusal.Refusal.TheVariants.{Overlong, Framing, Bound, Room}
use Rattle.wire.proofs.Tests.{by-test}
use Rattle.wire.proofs.Checks.{all-passed, not-both}
use Rattle.wire.proofs.Settling.{stored_at}
use Rattle.blocks.specs.Blocks.{frames, Cut, torn, whole, is_whole, messages_of}
use Rattle.blocks.proofs.Frames.{length-one, stored_one}
use Rattle.lent_log.specs.Log.{small, Kept, extended, growing, fitting, adding, to_the_end, tallied, adding_many, declaring, Entered}
use Rattle.lent_log.specs.declared.Log.{Log}
use Rattle.lent_log.proofs.Hanging.{hanging}
use Rattle.lent_log.proofs.Adding.{Fits}
use Rattle.lent_log.proofs.Many.{Tallied, frames-all}

pub refuses : (v : Verdict Kept) (s : List ℕ) (r : Verdict Log) (why : Refusal) → v ≡ refused why → r ≡ refused why → Entered v s r s
refuses v s r why e f = rw (e, f) (record { answer = refl; bytes = refl })

pub enters : (v : Verdict Kept) (s : List ℕ) (k : Kept) (r : Verdict Log) (left : List ℕ) → v ≡ taken k → r ≡ taken k.log
    → left ≡ k.bytes → Entered v s r left
enters v s k r left e a b = rw e (record { answer = a; bytes = b })

-- what the first checks refuse is refused, whatever is checked after them; what passes them is left to the others
pub first_refuses : {A B : Type 0} (cs more : List Check) (v : Verdict A) (b : B) (why : Refusal)
    → checked cs (taken b) ≡ refused why
    → checked (cs ++ more) v ≡ refused why
first_refuses [] more v b why e = not-both (taken b) why b e refl
first_refuses (c ∷ cs) more v b why e =
    by-test c.test
    (λ q. rw q (first_refuses cs more v b why (rw q at e)))
    (λ q. rw q (let f : refused c.why ≡ refused why = rw q at e in cc f))

pub first_passed : {A : Type 0} (cs more : List Check) (v : Verdict A) → Passed cs → checked (cs ++ more) v ≡ checked more v
first_passed [] more v p = refl
first_passed (c ∷ cs) more v p = rw p.0 (first_passed cs more v p.1)

-- the answer u, which says whether anything may be added
module _ (l : Log) (s : List ℕ) {u : Verdict (Unit {0})} (e : u ≡ checked (growing l s) (taken tt)) where
  pub grows : u ≡ taken tt → Passed (growing l s)
  grows f = (all-passed (growing l s) (taken tt) tt (sym e ∙ f)).0

  pub one-closed : (m : List ℕ) (why : Refusal) → u ≡ refused why → adding l s m ≡ refused why
  unfolding adding
  one-closed m why f = first_refuses (growing l s) (fitting l s (m ∷ [])) _ tt why (sym e ∙ f)

  pub many-closed : (framed : List ℕ) (why : Refusal) → u ≡ refused why → adding_many l s framed ≡ refused why
  unfolding adding_many
  many-closed framed why f =
      let q = to_the_end framed in
      first_refuses (growing l s) ((is_whole q else Framing) ∷ fitting l s (messages_of q)) _ tt why (sym e ∙ f)

  pub end-closed : (why : Refusal) → u ≡ refused why → declaring l s ≡ refused why
  unfolding declaring
  end-closed why f = first_refuses (growing l s) [] _ tt why (sym e ∙ f)

-- the checks before the messages are passed, and then the first that fails
module _ (l : Log) (s : List ℕ) (v : Verdict Kept) (ms : List (List ℕ)) where
  too_long : small ms ≡ false → checked (fitting l s ms) v ≡ refused Overlong
  too_long z = rw z

  module _ (z : small ms ≡ true) where
    too_many : 2 ^ 32 - 2 < l.count + length ms → checked (fitting l s ms) v ≡ refused Bound
    too_many h = rw (z, lt-leb (l.count + length ms) (2 ^ 32 - 2) h)

    no_room : l.count + length ms ≤ 2 ^ 32 - 2 → length s < l.used + length (frames ms) → checked (fitting l s ms) v ≡ refused Room
    no_room h k =
        rw (z, le-leb (l.count + length ms) (2 ^ 32 - 2) h, lt-leb (l.used + length (frames ms)) (length s) k)

-- messages that fit are taken
module _ (l : Log) (s : List ℕ) (ms : List (List ℕ)) (f : Fits l s ms) where
  still-grows : Passed (growing l s)
  still-grows = (f.hung, (rw f.goes_on refl, tt))

  taken-all : (v : Verdict Kept) → checked (fitting l s ms) v ≡ v
  taken-all v =
      rw (f.sizes, le-leb (l.count + length ms) (2 ^ 32 - 2) f.count, le-leb (l.used + length (frames ms)) (length s) f.room)

  pub takes-many : (b : List ℕ) → to_the_end b ≡ whole ms → adding_many l s b ≡ taken (extended l s ms)
  unfolding adding_many
  takes-many b e =
      let v = taken (extended l s ms) in
      rw e (first_passed (growing l s) ((true else Framing) ∷ fitting l s ms) v still-grows ∙ taken-all v)

pub takes_one : (l : Log) (s m : List ℕ) → Fits l s (m ∷ []) → adding l s m ≡ taken (extended l s (m ∷ []))
unfolding adding
takes_one l s m f =
    let v = taken (extended l s (m ∷ [])) in
    first_passed (growing l s) (fitting l s (m ∷ [])) v (still-grows l s (m ∷ []) f) ∙ taken-all l s (m ∷ []) f v

small_one : (m : List ℕ) → length m ≤ 1463 → small (m ∷ []) ≡ true
unfolding small
small_one m h = rw (le-leb (length m) 1463 h)

big-one : (m : List ℕ) → 1463 < length m → small (m ∷ []) ≡ false
unfolding small
big-one m h = rw (lt-leb (length m) 1463 h)

-- a message is added to an open log: each answer, by the tests that lead to it
module _ (l : Log) (s m : List ℕ) (g : Passed (growing l s)) where
  one-open : adding l s m ≡ checked (fitting l s (m ∷ [])) (taken (extended l s (m ∷ [])))
  unfolding adding
  one-open = first_passed (growing l s) (fitting l s (m ∷ [])) _ g

  pub one-long : 1463 < length m → adding l s m ≡ refused Overlong
  one-long k = one-open ∙ too_long l s _ (m ∷ []) (big-one m k)

  module _ (k : length m ≤ 1463) where
    pub one-over : l.count ≡ 2 ^ 32 - 2 → adding l s m ≡ refused Bound
    one-over f = one-open ∙ too_many l s _ (m ∷ []) (small_one m k) (omega arith)

    module _ (f : (l.count ≡ 2 ^ 32 - 2) → ⊥) where
      counts-one : l.count + 1 ≤ 2 ^ 32 - 2
      counts-one = let b = (hanging l s g.0).count in omega arith

      pub one-crowded : length s - l.used < 2 + length m → adding l s m ≡ refused Room
      one-crowded r =
          let b = (hanging l s g.0).mark in
          let z = length-one m in
          one-open ∙ no_room l s _ (m ∷ []) (small_one m k) counts-one (omega arith)

      pub one-entered : 2 + length m ≤ length s - l.used → (mid left : List ℕ)
          → mid ≡ sets s l.used (bytes_of 2 (length m))
          → left ≡ sets mid (l.used + 2) (take (length m) (drop 0 m))
          → Entered (adding l s m) s (taken (record { count = l.count + 1; used = l.used + 2 + length m; ended = l.ended })) left
      one-entered r mid left a b =
          let q = (hanging l s g.0).mark in
          let z = length-one m in
          let room : l.used + length (frames (m ∷ [])) ≤ length s = omega arith in
          let mark : l.used + 2 + length m ≡ l.used + length (frames (m ∷ [])) = omega arith in
          enters (adding l s m) s (extended l s (m ∷ [])) _ left
          (takes_one l s m
          (record { hung = g.0; goes_on = not-true l.ended g.1.0; sizes = small_one m k; count = counts-one; room = room }))
          (rw mark)
          (rw (b, take-length m, a) (stored_one s m l.used ∙ stored_at s (frames (m ∷ [])) l.used room))

-- and many of them, whose blocks are b
module _ (l : Log) (s b : List ℕ) (g : Passed (growing l s)) where
  pub not-counted : (why : Refusal) → tallied (to_the_end b) ≡ refused why → adding_many l s b ≡ refused why
  unfolding adding_many
  not-counted why e = rw (g.0, g.1.0) (by (to_the_end b) refl) where
    rest_of : Cut → Verdict Kept
    rest_of q = checked ((is_whole q else Framing) ∷ fitting l s (messages_of q)) (taken (extended l s (messages_of q)))

    by : (q : Cut) → to_the_end b ≡ q → rest_of (to_the_end b) ≡ refused why
    by torn q = rw q (let r : refused Framing ≡ refused why = rw q at e in cc r)
    by (whole ms) q =
        by-test (small ms)
        (λ z. let r : taken (length ms) ≡ refused why = rw (q, z) at e in not-both (taken (length ms)) why (length ms) r refl)
        (λ z. let r : refused Overlong ≡ refused why = rw (q, z) at e in rw (q, z) (cc r))

  module _ (n : ℕ) (t : Tallied (to_the_end b) n) where
    many : List (List ℕ)
    many = messages_of (to_the_end b)

    many-open : adding_many l s b ≡ checked (fitting l s many) (taken (extended l s many))
    unfolding adding_many many
    many-open = rw (g.0, g.1.0, t.cuts)

    pub many-over : 2 ^ 32 - 2 - l.count < n → adding_many l s b ≡ refused Bound
    unfolding many
    many-over k = let c = (hanging l s g.0).count in let z = t.number in many-open ∙ too_many l s _ many t.sizes (omega arith)

    module _ (k : n ≤ 2 ^ 32 - 2 - l.count) (bs : Bytes b) where
      counts-many : l.count + length many ≤ 2 ^ 32 - 2
      unfolding many
      counts-many = let c = (hanging l s g.0).count in let z = t.number in omega arith

      are-blocks : frames many ≡ b
      unfolding many
      are-blocks = frames-all b many bs t.cuts

      pub many-crowded : length s - l.used < length b → adding_many l s b ≡ refused Room
      unfolding many
      many-crowded r = many-open ∙ no_room l s _ many t.sizes counts-many (rw are-blocks (let m = (hanging l s g.0).mark in omega arith))

      pub many-entered : length b ≤ length s - l.used → (left : List ℕ) → left ≡ sets s l.used (take (length b) (drop 0 b))
          → Entered (adding_many l s b) s (taken (record { count = l.count + n; used = l.used + length b; ended = l.ended })) left
      unfolding many
      many-entered r left a =
          let m = (hanging l s g.0).mark in
          let room : l.used + length b ≤ length s = omega arith in
          enters (adding_many l s b) s (extended l s many) _ left
          (takes-many l s many
          (record {
            hung = g.0;
            goes_on = not-true l.ended g.1.0;
            sizes = t.sizes;
            count = counts-many;
            room = rw are-blocks room;
          }) b t.cuts)
          (rw (t.number, are-blocks))
          (rw (are-blocks, a, take-length b) (stored_at s b l.used room))
