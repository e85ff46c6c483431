-- One block further: what the block at a place says of the bytes from there on.
-- Assumes nothing.
use Prim.Native.Nat.{ℕ, zero, suc, ◌+◌, ◌≤◌, ◌<◌}
use mathlib.Core.List.{List, [], ◌∷◌}
use mathlib.Core.Path.{◌≡◌, refl, ap, sym, ◌∙◌}
use mathlib.Core.Bool.{Bool, true, false, ◌&&◌, and-false}
use native.Mathlib.Nat.{add_assoc, add-zero, zero-add, not-suc-le-zero, pos_of_ne-zero}
use native.Mathlib.Omega.{arith}
use borrow.Author.Tests.{le-leb, lt-leb, leb-true, leb-false, eq-eqb, ne_eqb, eqb-false}
use lib.ListN.{length, drop, length-drop}
use lib.Seq.{drop-drop}
use lib.Dec.{leb, eqb}
use Rattle.wire.specs.Checks.{Verdict, refused, taken}
use Rattle.wire.specs.declared.refusal.Refusal.TheVariants.{Framing}
use Rattle.wire.proofs.Tests.{by-test}
use Rattle.wire.proofs.Checks.{not-both, taken-same, refused-same}
use Rattle.blocks.specs.Blocks.{stated, there, first, rest, Cut, torn, whole, before, cut, cut_full, upstream, is_whole, count_of, end_at}
use Rattle.blocks.specs.Blocks.{block_at, fills, place_after}
use Rattle.wire.specs.declared.refusal.Refusal.{Refusal}
use Rattle.blocks.specs.declared.Block.{Block}

whole_before : (m : List ℕ) (q : Cut) → is_whole (before m q) ≡ is_whole q
whole_before m torn = refl
whole_before m (whole ms) = refl

-- how many blocks, after k that were counted before
abbrev pub tally : ℕ → Cut → Verdict ℕ
tally k torn = refused Framing
tally k (whole ms) = taken (k + length ms)

tally-before : (k : ℕ) (m : List ℕ) (q : Cut) → tally k (before m q) ≡ tally (k + 1) q
tally-before k m torn = refl
tally-before k m (whole ms) = ap (λ (n : ℕ). taken n) (omega arith)

-- more turns than bytes are as good as any number of them
enough : (n m : ℕ) (s : List ℕ) → length s < n → length s < m → cut_full n s ≡ cut_full m s
unfolding cut_full
enough zero m s h k = absurd (not-suc-le-zero h)
enough (suc n) zero s h k = absurd (not-suc-le-zero k)
enough (suc n) (suc m) s h k =
    by-test (eqb (length s) 0)
    (λ e. rw e)
    (λ e.
    let some = pos_of_ne-zero (eqb-false (length s) 0 e) in
    let less : length (rest s) < n = rw length-drop (omega arith) in
    let fewer : length (rest s) < m = rw length-drop (omega arith) in
    rw (enough n m (rest s) less fewer))

-- what a block says that was found at p
pub record Stands (s : List ℕ) (p : ℕ) (b : Block) : Type 0 where
  pub begins : b.start ≡ p + 2
  pub states : b.length ≡ stated (drop p s)
  pub ends : b.next ≡ end_at s p
  pub inside : end_at s p ≤ length s

-- the block that stands at p, if it does
abbrev the_block : List ℕ → ℕ → Block
the_block s p = record { start = p + 2; length = stated (drop p s); next = end_at s p }

module _ (s : List ℕ) (p : ℕ) where
  block_in : end_at s p ≤ length s → block_at s p ≡ taken (the_block s p)
  block_in h = simp (le-leb (end_at s p) (length s) h)

  pub block-over : length s < end_at s p → block_at s p ≡ refused Framing
  block-over h = simp (lt-leb (end_at s p) (length s) h)

  pub block-fits : (l n : ℕ) → l ≡ stated (drop p s) → n ≡ end_at s p → n ≤ length s
      → block_at s p ≡ taken (record { start = p + 2; length = l; next = n })
  block-fits l n e f h = rw (e, f) (block_in (rw f at h))

  -- a block was found: it ends inside, and there the next one begins
  pub found : (b : Block) → block_at s p ≡ taken b → Stands s p b
  found b e =
      by-test (leb (end_at s p) (length s))
      (λ q.
      let h = leb-true (end_at s p) (length s) q in
      let same : b ≡ the_block s p = taken-same b (the_block s p) (sym e ∙ block_in h) in
      record {
        begins = ap (λ (c : Block). c.start) same;
        states = ap (λ (c : Block). c.length) same;
        ends = ap (λ (c : Block). c.next) same;
        inside = h;
      })
      (λ q. not-both (block_at s p) Framing b (block-over (leb-false (end_at s p) (length s) q)) e)

  -- so where the code's answer r is a block
  pub stands : {r : Verdict Block} {b : Block} → r ≡ block_at s p → r ≡ taken b → Stands s p b
  stands {b = b} e f = found b (sym e ∙ f)

  -- none was found: it would end past the end
  pub missed : (why : Refusal) → block_at s p ≡ refused why → (why ≡ Framing) × (length s < end_at s p)
  missed why e =
      by-test (leb (end_at s p) (length s))
      (λ q. not-both (block_at s p) why (the_block s p) e (block_in (leb-true (end_at s p) (length s) q)))
      (λ q.
      let h = leb-false (end_at s p) (length s) q in
      (sym (refused-same Framing why (sym (block-over h) ∙ e)), h))

  pub is-there : end_at s p ≤ length s → there (drop p s) ≡ true
  is-there h = le-leb (2 + stated (drop p s)) (length (drop p s)) (rw length-drop (omega arith))

  pub not_there : length s < end_at s p → there (drop p s) ≡ false
  not_there h = lt-leb (2 + stated (drop p s)) (length (drop p s)) (rw length-drop (omega arith))

  pub rest_at : rest (drop p s) ≡ drop (end_at s p) s
  rest_at = rw (drop-drop, add_assoc)

  pub cut_step : (n : ℕ) → end_at s p ≤ length s → cut (suc n) (drop p s) ≡ before (first (drop p s)) (cut n (drop (end_at s p) s))
  unfolding cut
  cut_step n h = rw (is-there h, rest_at)

  cut-torn : (n : ℕ) → length s < end_at s p → cut (suc n) (drop p s) ≡ torn
  unfolding cut
  cut-torn n h = rw (not_there h)

  pub fills-step : (n : ℕ) → end_at s p ≤ length s → fills s p (suc n) ≡ fills s (end_at s p) n
  fills-step n h =
      rw (le-leb p (length s) (omega arith), le-leb (end_at s p) (length s) h, cut_step n h)
      (whole_before (first (drop p s)) (cut n (drop (end_at s p) s)))

  pub fills-torn : (n : ℕ) → length s < end_at s p → fills s p (suc n) ≡ false
  fills-torn n h = rw (cut-torn n h) (and-false (leb p (length s)))

  pub fills-end : fills s p 0 ≡ eqb p (length s)
  unfolding cut
  fills-end = by (leb p (length s)) refl (drop p s) refl where
    by : (b : Bool) → leb p (length s) ≡ b → (l : List ℕ) → drop p s ≡ l → b && is_whole (cut 0 l) ≡ eqb p (length s)
    by false q l e = let h = leb-false p (length s) q in sym (ne_eqb p (length s) (λ r. omega arith))
    by true q [] e = let h = leb-true p (length s) q in sym (eq-eqb p (length s) (omega (arith, rw length-drop at (ap length e))))
    by true q (x ∷ l) e = sym (ne_eqb p (length s) (λ r. omega (arith, rw length-drop at (ap length e))))

  pub place-step : (k : ℕ) → end_at s p ≤ length s → place_after (suc k) s p ≡ place_after k s (end_at s p)
  unfolding place_after
  place-step k h = rw (le-leb (end_at s p) (length s) h)

  pub place-torn : (k : ℕ) → length s < end_at s p → place_after (suc k) s p ≡ refused Framing
  unfolding place_after
  place-torn k h = rw (lt-leb (end_at s p) (length s) h)

  pub place_here : p ≤ length s → place_after 0 s p ≡ taken p
  unfolding place_after
  place_here h = rw (le-leb p (length s) h)

  pub place-past : length s < p → place_after 0 s p ≡ refused Framing
  unfolding place_after
  place-past h = rw (lt-leb p (length s) h)

  -- what is left of an upstream packet from p on
  abbrev pub up_from : Cut
  up_from = cut_full (suc (length (drop p s))) (drop p s)

  module _ (k : ℕ) where
    pub tally-step : end_at s p ≤ length s → (stated (drop p s) ≡ 0 → ⊥)
        → tally k up_from ≡ tally (k + 1) (cut_full (suc (length (drop (end_at s p) s))) (drop (end_at s p) s))
    unfolding cut_full
    tally-step h z =
        let l : (length (drop p s) ≡ 0) → ⊥ = λ e. omega (arith, rw length-drop at e) in
        let less : length (drop (end_at s p) s) < length (drop p s) = simp length-drop (omega arith) in
        let more : length (drop (end_at s p) s) < suc (length (drop (end_at s p) s)) = omega arith in
        rw (
          ne_eqb (length (drop p s)) 0 l,
          is-there h,
          ne_eqb (stated (drop p s)) 0 z,
          rest_at,
          enough (length (drop p s))
              (suc (length (drop (end_at s p) s))) (drop (end_at s p) s) less more,
        )
        (tally-before k (first (drop p s)) (cut_full (suc (length (drop (end_at s p) s))) (drop (end_at s p) s)))

    pub tally-torn : p < length s → length s < end_at s p → tally k up_from ≡ refused Framing
    unfolding cut_full
    tally-torn q h = rw (ne_eqb (length (drop p s)) 0 (λ e. omega (arith, rw length-drop at e)), not_there h)

    pub tally-empty : end_at s p ≤ length s → stated (drop p s) ≡ 0 → tally k up_from ≡ refused Framing
    unfolding cut_full
    tally-empty h z =
        rw (ne_eqb (length (drop p s)) 0 (λ e. omega (arith, rw length-drop at e)), is-there h, eq-eqb (stated (drop p s)) 0 z)

    pub tally-end : length s ≤ p → tally k up_from ≡ taken k
    unfolding cut_full
    tally-end h =
        rw (eq-eqb (length (drop p s)) 0 (rw length-drop (omega arith))) (ap (λ (n : ℕ). taken n) (add-zero k))

pub count-some : (s : List ℕ) → 0 < length s → count_of (upstream s) ≡ tally 0 (up_from s 0)
count-some s h = rw (ne_eqb (length s) 0 (λ e. omega arith)) (same (cut_full (suc (length s)) s)) where
  same : (q : Cut) → count_of q ≡ tally 0 q
  same torn = refl
  same (whole ms) = ap (λ (n : ℕ). taken n) (sym (zero-add (length ms)))

pub count_none : (s : List ℕ) → length s ≡ 0 → count_of (upstream s) ≡ refused Framing
count_none s h = rw (eq-eqb (length s) 0 h)
