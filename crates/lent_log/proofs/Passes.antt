-- One block further in a pass over blocks, over exactly n of them and over all that there are, and what is told where the pass ends.
-- Assumes nothing.
use Rattle.std.specs.Prelude.{if◌then◌else◌}
use Prim.Native.Nat.{ℕ, suc, ◌+◌, ◌-◌, ◌≤◌, ◌<◌}
use mathlib.Core.List.{List, [], ◌∷◌}
use mathlib.Core.Path.{◌≡◌, refl, sym, ◌∙◌}
use mathlib.Core.Bool.{Bool, true, false, ◌&&◌, and-false, and_assoc}
use native.Mathlib.Nat.{zero-add, add-zero}
use native.Mathlib.Omega.{arith}
use borrow.Author.Tests.{le-leb, lt-leb, eq-eqb, ne_eqb}
use lib.ListN.{length, drop, length-drop}
use lib.Dec.{leb, eqb}
use Rattle.wire.specs.Checks.{◌at_most◌, Verdict, refused, taken}
use Rattle.wire.specs.declared.refusal.Refusal.TheVariants.{Overlong, Framing}
use Rattle.wire.proofs.Tests.{by-test}
use Rattle.blocks.specs.Blocks.{stated, first, Cut, torn, whole, before, cut, is_whole, end_at}
use Rattle.blocks.specs.declared.Block.{Block}
use Rattle.blocks.proofs.NextBlock.{Stands, is-there, not_there, cut_step, fills-torn, fills-end, rest_at}
use Rattle.blocks.proofs.Frames.{length-first}
use Rattle.lent_log.specs.Log.{small, sound, cut_all, tallied}

-- after k of n turns one more is left
turn : (n k : ℕ) → k < n → n - k ≡ suc (n - (k + 1))
turn n k h = omega arith

-- how many messages, after k that were counted before, and small only if those were
abbrev pub tally_from : ℕ → Bool → Cut → Verdict ℕ
tally_from k b torn = refused Framing
tally_from k b (whole ms) = if b && small ms then taken (k + length ms) else refused Overlong

pub tally-starts : (q : Cut) → tallied q ≡ tally_from 0 true q
tally-starts torn = refl
tally-starts (whole ms) = rw (zero-add (length ms))

tally-before : (k : ℕ) (b : Bool) (m : List ℕ) (q : Cut) → tally_from k b (before m q) ≡ tally_from (k + 1) (b && length m at_most 1463) q
unfolding small
tally-before k b m torn = refl
tally-before k b m (whole ms) =
    let more : k + suc (length ms) ≡ k + 1 + length ms = omega arith in
    rw (and_assoc b (leb (length m) 1463) (small ms), more)

sound-before : (m : List ℕ) (q : Cut) → sound (before m q) ≡ (length m at_most 1463 && sound q)
unfolding small
sound-before m torn = sym (and-false (leb (length m) 1463))
sound-before m (whole ms) = refl

sound-zero : (q : List ℕ) → sound (cut 0 q) ≡ is_whole (cut 0 q)
unfolding cut small
sound-zero [] = refl
sound-zero (x ∷ q) = refl

-- a turn of the pass over exactly n of them, after k, from p on: by what stands there
module _ (s : List ℕ) (p n k : ℕ) (more : k < n) where
  sound-step : (block : Block) → Stands s p block
      → sound (cut (n - k) (drop p s)) ≡ (block.length at_most 1463 && sound (cut (n - (k + 1)) (drop block.next s)))
  sound-step block i =
      rw (turn n k more, i.ends, i.states, cut_step s p (n - (k + 1)) i.inside)
      (sound-before (first (drop p s)) (cut (n - (k + 1)) (drop (end_at s p) s)) ∙ rw (length-first (drop p s) (is-there s p i.inside)))

  pub long-turn : (block : Block) → Stands s p block → 1463 < block.length → sound (cut (n - k) (drop p s)) ≡ false
  long-turn block i l = sound-step block i ∙ rw (lt-leb block.length 1463 l)

  pub good_turn : (block : Block) → Stands s p block → block.length ≤ 1463
      → sound (cut (n - k) (drop p s)) ≡ sound (cut (n - (k + 1)) (drop block.next s))
  good_turn block i l = sound-step block i ∙ rw (le-leb block.length 1463 l)

  pub torn-turn : p ≤ length s → length s < end_at s p → sound (cut (n - k) (drop p s)) ≡ false
  torn-turn i h =
      let e : is_whole (cut (suc (n - (k + 1))) (drop p s)) ≡ false =
      rw (le-leb p (length s) i) at (fills-torn s p (n - (k + 1)) h) in
      rw (turn n k more, e)

pub last_turn : (s : List ℕ) (p n k : ℕ) → n ≤ k → p ≤ length s → sound (cut (n - k) (drop p s)) ≡ eqb p (length s)
last_turn s p n k h i =
    let z : n - k ≡ 0 = omega arith in
    rw z (sound-zero (drop p s) ∙ rw (le-leb p (length s) i) at (fills-end s p))

module _ (s : List ℕ) (p n k : ℕ) (b : Bool) where
  some-left : p < length s → (length (drop p s) ≡ 0) → ⊥
  some-left h e = omega (arith, rw length-drop at e)

  tally-step : end_at s p ≤ length s → tally_from k b (cut_all (suc n) (drop p s))
      ≡ tally_from (k + 1) (b && stated (drop p s) at_most 1463) (cut_all n (drop (end_at s p) s))
  unfolding cut_all
  tally-step h =
      rw (ne_eqb (length (drop p s)) 0 (some-left (omega arith)), is-there s p h, rest_at s p)
      (tally-before k b (first (drop p s)) (cut_all n (drop (end_at s p) s)) ∙ rw (length-first (drop p s) (is-there s p h)))

  pub tally-torn : p < length s → length s < end_at s p → tally_from k b (cut_all (suc n) (drop p s)) ≡ refused Framing
  unfolding cut_all
  tally-torn i h = rw (ne_eqb (length (drop p s)) 0 (some-left i), not_there s p h)

  pub tally-end : (v : Bool) → b ≡ v → length s ≤ p
      → tally_from k b (cut_all (suc n) (drop p s)) ≡ (if v then taken k else refused Overlong)
  unfolding cut_all small
  tally-end v e h = rw (eq-eqb (length (drop p s)) 0 (rw length-drop (omega arith)), e) (by-test v (λ t. rw (t, add-zero k)) (λ t. rw t))

-- a turn of the pass, after k of them: by the block that stands there
pub record Turned (s : List ℕ) (p k : ℕ) (b : Bool) (block : Block) : Type 0 where
  pub inside : block.next ≤ length s
  pub counts : k + 1 ≤ block.next
  pub less : length s - block.next < length s - p
  pub same : tally_from k b (cut_all (suc (length s - k)) (drop p s))
      ≡ tally_from (k + 1) (b && block.length at_most 1463) (cut_all (suc (length s - (k + 1))) (drop block.next s))

pub turned : (s : List ℕ) (p k : ℕ) (b : Bool) → k ≤ p → (block : Block) → Stands s p block → Turned s p k b block
turned s p k b h block i =
    let ends = i.ends in
    let within = i.inside in
    record {
      inside = omega arith;
      counts = omega arith;
      less = omega arith;
      same = rw (i.ends, i.states, ← turn (length s) k (omega arith)) (tally-step s p (length s - k) k b within);
    }
