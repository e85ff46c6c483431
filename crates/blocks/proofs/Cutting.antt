-- Cutting what was framed gives the messages, and framing what was cut gives the bytes.
-- Assumes nothing.
use Prim.Native.Nat.{ℕ, zero, suc, ◌+◌, ◌<◌, ◌^◌}
use mathlib.Core.List.{List, [], ◌∷◌}
use mathlib.Core.Path.{◌≡◌, refl, ap, sym, ◌∙◌}
use mathlib.Core.Bool.{Bool, true, false, true≢false}
use native.Mathlib.Nat.{not-suc-le-zero, pos_of_ne-zero}
use native.Mathlib.Omega.{arith}
use borrow.Author.Tests.{ne_eqb, eqb-true, eqb-false}
use lib.ListN.{length}
use lib.Dec.{eqb}
use Rattle.wire.specs.Fields.{Bytes}
use Rattle.wire.proofs.Tests.{by-test, impossible}
use Rattle.wire.proofs.Width.{bytes_drop}
use Rattle.blocks.specs.Blocks.{frames, stated, there, first, rest, Cut, torn, whole, cut, cut_full, upstream, is_whole, messages_of}
use Rattle.blocks.specs.Blocks.{Each, Short, Full}
use Rattle.blocks.proofs.Frames.{length-frames, short-frames, front-stated, front-there, front-first, front_rest, length-first}
use Rattle.blocks.proofs.Frames.{framed-again, bytes-first}

-- what is torn is not whole
pub not-torn : {C : Type 0} (q : Cut) (ms : List (List ℕ)) → q ≡ torn → q ≡ whole ms → C
not-torn q ms p e = impossible cc

pub cut-frames : (ms : List (List ℕ)) → Each Short ms → cut (length ms) (frames ms) ≡ whole ms
unfolding cut frames
cut-frames [] h = refl
cut-frames (m ∷ ms) h =
    let t = frames ms in
    rw (front-there m t h.0, front-first m t h.0, front_rest m t h.0, cut-frames ms h.1)

-- what a whole first step says
pub record Stepped (s : List ℕ) (n : ℕ) (ms : List (List ℕ)) : Type 0 where
  pub is-there : there s ≡ true
  pub others : List (List ℕ)
  pub are : ms ≡ first s ∷ others
  pub cuts : cut n (rest s) ≡ whole others

pub stepped : (n : ℕ) (s : List ℕ) (ms : List (List ℕ)) → cut (suc n) s ≡ whole ms → Stepped s n ms
unfolding cut
stepped n s ms e = by (there s) refl (cut n (rest s)) refl where
  by : (b : Bool) → there s ≡ b → (q : Cut) → cut n (rest s) ≡ q → Stepped s n ms
  by false t q f = not-torn (cut (suc n) s) ms (rw t refl) e
  by true t torn f = not-torn (cut (suc n) s) ms (rw (t, f) refl) e
  by true t (whole os) f =
      let w : cut (suc n) s ≡ whole (first s ∷ os) = rw (t, f) refl in
      record { is-there = t; others = os; are = ap messages_of (sym e ∙ w); cuts = f }

pub frames-cut : (n : ℕ) (s : List ℕ) (ms : List (List ℕ)) → Bytes s → cut n s ≡ whole ms → (frames ms ≡ s) × (length ms ≡ n)
    × Each Bytes ms
unfolding cut frames
frames-cut zero [] ms b e =
    let none : ms ≡ [] = ap messages_of (sym e) in
    rw none (refl, refl, tt)
frames-cut zero (x ∷ s) ms b e = not-torn torn ms refl e
frames-cut (suc n) s ms b e =
    let p = stepped n s ms e in
    let more = frames-cut n (rest s) p.others (bytes_drop (2 + stated s) s b) p.cuts in
    rw p.are (rw more.0 (framed-again s p.is-there b), ap suc more.1, (bytes-first s b, more.2))

-- the same for blocks that are not empty
pub full-frames : (n : ℕ) (ms : List (List ℕ)) → length (frames ms) < n → Each Short ms → Each Full ms → cut_full n (frames ms) ≡ whole ms
unfolding cut_full frames
full-frames zero ms l h f = absurd (not-suc-le-zero l)
full-frames (suc n) [] l h f = refl
full-frames (suc n) (m ∷ ms) l h f =
    let t = frames ms in
    let k = length-frames m ms in
    let some : (length (frames (m ∷ ms)) ≡ 0) → ⊥ = λ e. omega arith in
    rw (
      ne_eqb (length (frames (m ∷ ms))) 0 some,
      front-there m t h.0,
      front-first m t h.0,
      front_rest m t h.0,
      front-stated m t
          h.0,
      ne_eqb (length m) 0 (λ e. omega arith),
      full-frames n ms (omega arith) h.1 f.1,
    )

pub upstream-frames : (ms : List (List ℕ)) → 0 < length ms → Each Short ms → Each Full ms → upstream (frames ms) ≡ whole ms
upstream-frames [] l h f = absurd (not-suc-le-zero l)
upstream-frames (m ∷ ms) l h f =
    let k = length-frames m ms in
    let s = frames (m ∷ ms) in
    rw (ne_eqb (length s) 0 (λ e. omega arith)) (full-frames (suc (length s)) (m ∷ ms) (omega arith) h f)

module _ (n : ℕ) (s : List ℕ) (ms : List (List ℕ)) where
  -- what a whole turn says: nothing is left, or a block that is not empty and whole ones after it
  pub data Turned : Type 0 where
    done : length s ≡ 0 → ms ≡ [] → Turned
    more : there s ≡ true → (stated s ≡ 0 → ⊥) → (others : List (List ℕ)) → ms ≡ first s ∷ others → cut_full n (rest s) ≡ whole others
        → Turned

  turned : cut_full (suc n) s ≡ whole ms → Turned
  unfolding cut_full
  turned e = by (eqb (length s) 0) refl (there s) refl (eqb (stated s) 0) refl (cut_full n (rest s)) refl where
    by : (a : Bool) → eqb (length s) 0 ≡ a → (b : Bool) → there s ≡ b → (c : Bool) → eqb (stated s) 0 ≡ c → (q : Cut)
        → cut_full n (rest s) ≡ q → Turned
    by true x b y c z q f =
        let w : cut_full (suc n) s ≡ whole [] = rw x refl in
        done (eqb-true (length s) 0 x) (ap messages_of (sym e ∙ w))
    by false x false y c z q f = not-torn (cut_full (suc n) s) ms (rw (x, y) refl) e
    by false x true y true z q f = not-torn (cut_full (suc n) s) ms (rw (x, y, z) refl) e
    by false x true y false z torn f = not-torn (cut_full (suc n) s) ms (rw (x, y, z, f) refl) e
    by false x true y false z (whole os) f =
        let w : cut_full (suc n) s ≡ whole (first s ∷ os) = rw (x, y, z, f) refl in
        more y (eqb-false (stated s) 0 z) os (ap messages_of (sym e ∙ w)) f

no_bytes : (s : List ℕ) → length s ≡ 0 → [] ≡ s
no_bytes [] h = refl
no_bytes (x ∷ s) h = absurd (omega arith)

pub frames-full : (n : ℕ) (s : List ℕ) (ms : List (List ℕ)) → Bytes s → cut_full n s ≡ whole ms → (frames ms ≡ s) × Each Full ms
    × Each Bytes ms
unfolding cut_full frames
frames-full zero s ms b e = not-torn torn ms refl e
frames-full (suc n) s ms b e = by (turned n s ms e) (frames-full n (rest s)) where
  by : Turned n s ms → ((os : List (List ℕ)) → Bytes (rest s) → cut_full n (rest s) ≡ whole os → (frames os ≡ rest s) × Each Full os
      × Each Bytes os) → (frames ms ≡ s) × Each Full ms × Each Bytes ms
  by (done z none) ih = rw none (no_bytes s z, tt, tt)
  by (more t z os are f) ih =
      let r = ih os (bytes_drop (2 + stated s) s b) f in
      let l = length-first s t in
      let some : 0 < length (first s) = rw l (pos_of_ne-zero z) in
      rw are (rw r.0 (framed-again s t b), (some, r.1), (bytes-first s b, r.2))

pub frames-upstream : (s : List ℕ) (ms : List (List ℕ)) → Bytes s → upstream s ≡ whole ms → (frames ms ≡ s) × (0 < length ms) × Each Full ms
    × Each Bytes ms
unfolding frames
frames-upstream s ms b e =
    by-test (eqb (length s) 0)
    (λ z. not-torn (upstream s) ms (rw z refl) e)
    (λ z.
    let r = frames-full (suc (length s)) s ms b (rw z at e) in
    (r.0, some ms r.0 (eqb-false (length s) 0 z), r.1, r.2)) where
      some : (l : List (List ℕ)) → frames l ≡ s → (length s ≡ 0 → ⊥) → 0 < length l
      some [] f h = absurd (h (sym (ap length f)))
      some (m ∷ l) f h = omega arith

-- an upstream packet whose blocks are whole, and its messages' bytes
pub record Framed (s : List ℕ) (ms : List (List ℕ)) : Type 0 where
  pub bytes : frames ms ≡ s
  pub short : Each Short ms
  pub full : Each Full ms

pub framed : (s : List ℕ) → Bytes s → is_whole (upstream s) ≡ true → length s < 2 ^ 16 → Framed s (messages_of (upstream s))
framed s b w l = by (upstream s) refl w where
  by : (q : Cut) → upstream s ≡ q → is_whole q ≡ true → Framed s (messages_of q)
  by torn e w = absurd (true≢false (sym w))
  by (whole ms) e w =
      let f = frames-upstream s ms b e in
      record { bytes = f.0; short = short-frames ms (rw f.0 l); full = f.2 }
