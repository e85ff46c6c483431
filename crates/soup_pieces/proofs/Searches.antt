-- The search for a linefeed: none stands before the place that it finds, and one stands there, unless it is the end; and where none is
-- among the first bytes, it may begin behind them.
-- Assumes nothing.
use Prim.Native.Nat.{ℕ, suc, ◌+◌, ◌-◌, ◌≤◌, ◌<◌}
use mathlib.Core.Path.{◌≡◌, refl, sym, ap, ◌∙◌}
use mathlib.Core.List.{List, [], ◌∷◌, ◌++◌}
use mathlib.Core.Bool.{true, false, not, ◌&&◌, and-true, true≢false}
use native.Mathlib.Numerals.{add-one}
use native.Mathlib.Omega.{arith}
use lib.Dec.{eqb}
use lib.ListN.{length, get_or, take, drop, length-take, length-drop, take-append-drop, drop_of_length-le}
use lib.Seq.{take-take, take-add, get_or-take, drop-cons, drop-drop, drop_at, drop-append-le, length-take-le}
use borrow.Author.Tests.{eq-eqb, ne_eqb, eqb-true, eqb-false}
use Rattle.soup_pieces.specs.Searching.{slice, index_after, index_of}
use Rattle.wire.proofs.Tests.{by-test, both}
use Rattle.soup.specs.Read.{unbroken}
use Rattle.soup.proofs.Linefeed.{more}

pub unbroken-before : (s : List ℕ) → unbroken (take (index_of 10 s) s) ≡ true
unfolding unbroken index_of index_after
unbroken-before [] = refl
unbroken-before (b ∷ s) = by-test (eqb b 10) (λ e. rw e)
    (λ e. rw e (more b (take (index_of 10 s) s) (eqb-false b 10 e) (unbroken-before s)))

pub linefeed-there : (s : List ℕ) → index_of 10 s < length s → get_or s (index_of 10 s) 0 ≡ 10
unfolding index_of index_after
linefeed-there [] h = absurd (omega arith)
linefeed-there (b ∷ s) h =
    by-test (eqb b 10)
    (λ e. rw e (eqb-true b 10 e))
    (λ e. rw e (linefeed-there s (let g : index_after false (index_of 10 s) < suc (length s) = rw e at h in omega arith)))

-- a part from a place on is the beginning of all from there on
pub part-is : (from most : ℕ) (s : List ℕ) → from + most ≤ length s → slice from (from + most) s ≡ take most (drop from s)
unfolding slice
part-is from most s h =
    rw (take-add from most s) (drop_at (take from s) (take most (drop from s)) from (length-take-le from s (omega arith)))

-- ---- two parts

unbroken-append : (a b : List ℕ) → unbroken (a ++ b) ≡ unbroken a && unbroken b
unfolding unbroken
unbroken-append [] b = refl
unbroken-append (c ∷ a) b = by-test (eqb c 10) (λ t. rw t) (λ t. rw t (unbroken-append a b))

-- both parts of an unbroken stretch are unbroken
pub parts_none : (a b : List ℕ) → unbroken (a ++ b) ≡ true → (unbroken a ≡ true) × (unbroken b ≡ true)
parts_none a b u = both (unbroken a) (unbroken b) (sym (unbroken-append a b) ∙ u)

-- ---- behind the first bytes

-- a part is its beginning and the rest of it
slice-split : (s : List ℕ) (from at to : ℕ) → from ≤ at → at ≤ to → to ≤ length s → slice from to s ≡ slice from at s ++ slice at to s
unfolding slice
slice-split s from at to f h l =
    let t = take to s in
    let n : length t ≡ to = length-take-le to s l in
    let front : take at t ≡ take at s = take-take at to s h in
    let inside : from ≤ length (take at t) = omega (arith, length-take-le at t (omega arith)) in
    ap (drop from) (sym (take-append-drop at t)) ∙ drop-append-le from (take at t) (drop at t) inside ∙ rw front

pub unbroken-none-yet : (s : List ℕ) (from : ℕ) → unbroken (slice from from s) ≡ true
unfolding slice unbroken
unbroken-none-yet s from = rw (drop_of_length-le (take from s) {i = from} (omega (arith, length-take from s)))

pub eight-more : (s : List ℕ) (from at to : ℕ) → from ≤ at → at + 8 ≤ to → to ≤ length s → unbroken (slice from at s) ≡ true
    → unbroken (take 8 (drop at s)) ≡ true → unbroken (slice from (at + 8) s) ≡ true
eight-more s from at to f h l u e =
    rw (
      slice-split s from at (at + 8) f (omega arith) (omega arith),
      unbroken-append (slice from at s) (slice at (at + 8) s),
      part-is at 8 s (omega arith),
      u,
      e,
    )

past-none : (a b : List ℕ) → unbroken a ≡ true → index_of 10 (a ++ b) ≡ length a + index_of 10 b
unfolding unbroken index_of index_after
past-none [] b u = omega arith
past-none (c ∷ a) b u =
    by-test (eqb c 10)
    (λ t. absurd (true≢false (sym (rw t at u))))
    (λ t. rw (t, past-none a b (rw t at u)) (omega arith))

pub found-behind : (s : List ℕ) (from at to found : ℕ) → from ≤ at → at ≤ to → to ≤ length s → unbroken (slice from at s) ≡ true
    → found ≡ at + index_of 10 (slice at to s) → found ≡ from + index_of 10 (slice from to s)
unfolding slice
found-behind s from at to found f h l u e =
    let n : length (slice from at s) ≡ at - from = length-drop from (take at s) ∙ rw (length-take-le at s (omega arith)) in
    rw (slice-split s from at to f h l, past-none (slice from at s) (slice at to s) u) (omega arith)

-- ---- one by one

slice-cons : (s : List ℕ) (at to : ℕ) → at < to → to ≤ length s → slice at to s ≡ get_or s at 0 ∷ slice (at + 1) to s
unfolding slice
slice-cons s at to h l =
    let n : length (take to s) ≡ to = length-take-le to s l in
    rw (drop-cons (take to s) at 0 (omega arith), get_or-take to s at 0 h, add-one at) refl

pub found-here : (b : ℕ) (s : List ℕ) (at to : ℕ) → at < to → to ≤ length s → get_or s at 0 ≡ b → index_of b (slice at to s) ≡ 0
unfolding index_of index_after
found-here b s at to h l e = rw (slice-cons s at to h l, eq-eqb (get_or s at 0) b e)

pub found-further : (b : ℕ) (s : List ℕ) (at to : ℕ) → at < to → to ≤ length s → (get_or s at 0 ≡ b → ⊥)
    → index_of b (slice at to s) ≡ suc (index_of b (slice (at + 1) to s))
unfolding index_of index_after
found-further b s at to h l e = rw (slice-cons s at to h l, ne_eqb (get_or s at 0) b e)

pub found-nowhere : (b : ℕ) (s : List ℕ) (at to : ℕ) → to ≤ at → index_of b (slice at to s) ≡ 0
unfolding slice index_of
found-nowhere b s at to h = rw (drop_of_length-le (take to s) {i = at} (omega (arith, length-take to s)))
