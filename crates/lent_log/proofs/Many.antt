-- Blocks to the very end: cutting what was framed gives the messages, as many blocks cut exactly are the same, and what the count tells.
-- Assumes nothing.
use Prim.Native.Nat.{ℕ, zero, suc, ◌+◌, ◌≤◌, ◌<◌}
use mathlib.Core.List.{List, [], ◌∷◌}
use mathlib.Core.Path.{◌≡◌, refl, ap, sym, ◌∙◌}
use mathlib.Core.Bool.{Bool, true, false}
use native.Mathlib.Nat.{not-suc-le-zero}
use native.Mathlib.Omega.{arith}
use borrow.Author.Tests.{leb-true, eq-eqb, ne_eqb}
use lib.ListN.{length, length-drop}
use lib.Dec.{eqb}
use Rattle.wire.specs.Fields.{Bytes}
use Rattle.std.specs.Result.{result_eq}
use Rattle.wire.specs.Checks.{taken}
use Rattle.wire.specs.declared.refusal.Refusal.{Refusal}
use Rattle.wire.specs.declared.refusal.Refusal.TheVariants.{Overlong, Framing}
use Rattle.wire.proofs.Tests.{by-test}
use Rattle.wire.proofs.Checks.{not-both, taken-same}
use Rattle.blocks.specs.Blocks.{frames, stated, there, first, rest, Cut, torn, whole, cut, messages_of, Each, Short}
use Rattle.blocks.proofs.Frames.{there-some}
use Rattle.blocks.proofs.Counting.{length_cut, count-frames}
use Rattle.blocks.proofs.Cutting.{not-torn, stepped, cut-frames, frames-cut}
use Rattle.lent_log.specs.Log.{small, sound, cut_all, to_the_end, tallied}

-- as many blocks as there are, exactly
all-cut : (n : ℕ) (s : List ℕ) (ms : List (List ℕ)) → cut_all n s ≡ whole ms → cut (length ms) s ≡ whole ms
unfolding cut_all cut
all-cut zero s ms e = not-torn torn ms refl e
all-cut (suc n) [] ms e = let none : ms ≡ [] = ap messages_of (sym e) in rw none
all-cut (suc n) (x ∷ t) ms e = by (there s) refl (cut_all n (rest s)) refl (all-cut n (rest s)) where
  s : List ℕ
  s = x ∷ t

  some : eqb (length s) 0 ≡ false
  some = ne_eqb (length s) 0 (λ z. omega arith)

  by : (b : Bool) → there s ≡ b → (q : Cut) → cut_all n (rest s) ≡ q
      → ((os : List (List ℕ)) → cut_all n (rest s) ≡ whole os → cut (length os) (rest s) ≡ whole os) → cut (length ms) s ≡ whole ms
  by false h q f more = not-torn (cut_all (suc n) s) ms (rw (some, h) refl) e
  by true h torn f more = not-torn (cut_all (suc n) s) ms (rw (some, h, f) refl) e
  by true h (whole os) f more =
      let w : cut_all (suc n) s ≡ whole (first s ∷ os) = rw (some, h, f) refl in
      let are : ms ≡ first s ∷ os = ap messages_of (sym e ∙ w) in
      rw are (rw (h, more os f))

cut_all_lem : (k n : ℕ) (s : List ℕ) (ms : List (List ℕ)) → k < n → cut k s ≡ whole ms → cut_all n s ≡ whole ms
unfolding cut_all cut
cut_all_lem k zero s ms h e = absurd (not-suc-le-zero h)
cut_all_lem zero (suc n) [] ms h e = e
cut_all_lem zero (suc n) (x ∷ t) ms h e = not-torn torn ms refl e
cut_all_lem (suc k) (suc n) s ms h e =
    let p = stepped k s ms e in
    let more = cut_all_lem k n (rest s) p.others (omega arith) p.cuts in
    rw (there-some s p.is-there, p.is-there, more) (ap whole (sym p.are))

pub all-frames : (ms : List (List ℕ)) → Each Short ms → to_the_end (frames ms) ≡ whole ms
all-frames ms h =
    let k = count-frames ms in
    cut_all_lem (length ms) (suc (length (frames ms))) (frames ms) ms (omega arith) (cut-frames ms h)

pub frames-all : (s : List ℕ) (ms : List (List ℕ)) → Bytes s → to_the_end s ≡ whole ms → frames ms ≡ s
frames-all s ms b e = (frames-cut (length ms) s ms b (all-cut (suc (length s)) s ms e)).0

-- no more of them than bytes, so however many are cut exactly, they are the blocks to the very end
few-cut : (n : ℕ) (s : List ℕ) (ms : List (List ℕ)) → cut n s ≡ whole ms → n ≤ length s
few-cut zero s ms e = omega arith
few-cut (suc n) s ms e =
    let p = stepped n s ms e in
    let h = leb-true (2 + stated s) (length s) p.is-there in
    omega (arith, rw length-drop at (few-cut n (rest s) p.others p.cuts))

exactly-all : (n : ℕ) (s : List ℕ) (ms : List (List ℕ)) → cut n s ≡ whole ms → to_the_end s ≡ whole ms
exactly-all n s ms e = let h = few-cut n s ms e in cut_all_lem n (suc (length s)) s ms (omega arith) e

-- so the count of the blocks to the very end tells whether exactly n of them are sound
pub sound-if-counted : (n : ℕ) (s : List ℕ) (same : Refusal → Refusal → Bool)
    → result_eq eqb same (tallied (to_the_end s)) (taken n) ≡ sound (cut n s)
sound-if-counted n s same = by (to_the_end s) refl (cut n s) refl where
  by : (q : Cut) → to_the_end s ≡ q → (r : Cut) → cut n s ≡ r → result_eq eqb same (tallied q) (taken n) ≡ sound r
  by torn e torn f = refl
  by torn e (whole os) f = not-torn (to_the_end s) os e (exactly-all n s os f)
  by (whole ms) e torn f =
      let other = ne_eqb (length ms) n (λ z. not-torn (cut n s) ms f (rw z at (all-cut (suc (length s)) s ms e))) in
      by-test (small ms) (λ z. rw (z, other)) (λ z. rw z)
  by (whole ms) e (whole os) f =
      let are : os ≡ ms = ap messages_of (sym (exactly-all n s os f) ∙ e) in
      let l : length ms ≡ n = rw are at (length_cut n s os f) in
      by-test (small ms) (λ z. rw (are, z, eq-eqb (length ms) n l)) (λ z. rw (are, z))

-- what the count tells
pub record Tallied (q : Cut) (n : ℕ) : Type 0 where
  pub cuts : q ≡ whole (messages_of q)
  pub sizes : small (messages_of q) ≡ true
  pub number : n ≡ length (messages_of q)

pub counted : (q : Cut) (n : ℕ) → tallied q ≡ taken n → Tallied q n
counted torn n e = not-both (tallied torn) Framing n refl e
counted (whole ms) n e =
    by-test (small ms)
    (λ z. record { cuts = refl; sizes = z; number = sym (taken-same (length ms) n (rw z at e)) })
    (λ z. not-both (tallied (whole ms)) Overlong n (rw z refl) e)
