-- The pass that counts the messages for a packet finds the greatest number of them that goes in.
-- Assumes nothing.
use Prim.Native.Nat.{ℕ, zero, suc, ◌+◌, ◌-◌, ◌≤◌, ◌<◌}
use mathlib.Core.List.{List, [], ◌∷◌}
use mathlib.Core.Path.{◌≡◌, refl, ap, sym, ◌∙◌}
use mathlib.Core.Bool.{Bool, true, false, ◌&&◌, and-false}
use native.Mathlib.Nat.{add-zero}
use native.Mathlib.Omega.{arith}
use borrow.Author.Tests.{le-leb, lt-leb, leb-true, leb-false}
use lib.ListN.{length, take, drop}
use lib.Dec.{leb}
use Rattle.wire.specs.Checks.{◌at_most◌}
use Rattle.blocks.specs.Blocks.{frames, first, whole, cut, end_at}
use Rattle.wire.proofs.Tests.{leb-same}
use Rattle.blocks.proofs.Frames.{length-frames}
use Rattle.blocks.proofs.Skipping.{SteppedAt, stepped-at, none-at}
use Rattle.lend.specs.Answer.{greatest, run}
use Rattle.lend.specs.declared.Run.{Run}
use Rattle.lend.proofs.Greatest.{greatest-zero, greatest-none, greatest-moved}

module _ (s : List ℕ) (at p k : ℕ) where
  -- one block further, and where the pass stops
  pub run_on : (c : ℕ) → end_at s p ≤ length s → end_at s p - at ≤ 1465 → run s at p k (suc c) ≡ run s at (end_at s p) (k + 1) c
  unfolding run
  run_on c h l = rw (le-leb (end_at s p) (length s) h, le-leb (end_at s p - at) 1465 l)

  pub run-torn : (c : ℕ) → length s < end_at s p → run s at p k (suc c) ≡ record { count = k; end = p }
  unfolding run
  run-torn c h = rw (lt-leb (end_at s p) (length s) h)

  pub run-full : (c : ℕ) → 1465 < end_at s p - at → run s at p k (suc c) ≡ record { count = k; end = p }
  unfolding run
  run-full c l = rw (lt-leb (end_at s p - at) 1465 l, and-false (leb (end_at s p) (length s)))

  pub run-done : run s at p k 0 ≡ record { count = k; end = p }
  unfolding run
  run-done = refl

-- so many messages are there, and their blocks go into so much room
abbrev pub holds : List (List ℕ) → ℕ → ℕ → Bool
holds ms room j = j at_most length ms && length (frames (take j ms)) at_most room

-- the first of them goes in, or it doesn't
module _ (m : List ℕ) (os : List (List ℕ)) (room : ℕ) where
  pub first-in : (c : ℕ) → 2 + length m ≤ room
      → greatest (holds (m ∷ os) room) (suc c) ≡ suc (greatest (holds os (room - (2 + length m))) c)
  unfolding frames
  first-in c h = greatest-moved (holds (m ∷ os) room) (holds os (room - (2 + length m))) c same none where
    same : (j : ℕ) → holds (m ∷ os) room (suc j) ≡ holds os (room - (2 + length m)) j
    same j =
        let l = length-frames m (take j os) in
        let a = leb-same (suc j) (suc (length os)) j (length os) (λ u. omega arith) (λ u. omega arith) in
        let rest = length (frames (take j os)) in
        let b = leb-same (length (frames (m ∷ take j os))) room rest (room - (2 + length m)) (λ u. omega arith) (λ u. omega arith) in
        rw (a, b)

    none : holds os (room - (2 + length m)) 0 ≡ true
    none = rw (le-leb 0 (length os) (omega arith), le-leb 0 (room - (2 + length m)) (omega arith))

  pub first_out : (c : ℕ) → room < 2 + length m → greatest (holds (m ∷ os) room) c ≡ 0
  first_out c h = greatest-none (holds (m ∷ os) room) c none where
    none : (j : ℕ) → holds (m ∷ os) room (suc j) ≡ false
    none j =
        let l = length-frames m (take j os) in
        rw (lt-leb (length (frames (m ∷ take j os))) room (omega arith), and-false (leb (suc j) (suc (length os))))

pub none_left : (room c : ℕ) → greatest (holds [] room) c ≡ 0
none_left room c = greatest-none (holds [] room) c (λ j. rw (lt-leb (suc j) 0 (omega arith)))

-- what the pass comes to, after k blocks, from p on
abbrev pub ran_from : ℕ → ℕ → ℕ → List (List ℕ) → Run
ran_from k p j ms = record { count = k + j; end = p + length (frames (take j ms)) }

ran-none : (k p : ℕ) (ms : List (List ℕ)) → ran_from k p 0 ms ≡ record { count = k; end = p }
unfolding frames
ran-none k p ms = rw (add-zero k, add-zero p)

ran-more : (k p : ℕ) (m : List ℕ) (os : List (List ℕ)) (j : ℕ) → ran_from (k + 1) (p + 2 + length m) j os ≡ ran_from k p (suc j) (m ∷ os)
ran-more k p m os j =
    let l = length-frames m (take j os) in
    let count : k + 1 + j ≡ k + suc j = omega arith in
    let end : p + 2 + length m + length (frames (take j os)) ≡ p + length (frames (m ∷ take j os)) = omega arith in
    cc (count, end)

-- what is left of the room after a block of w bytes
room-left : (at p w : ℕ) → at ≤ p → p + 2 + w - at ≤ 1465
    → (2 + w ≤ 1465 - (p - at)) × (1465 - (p - at) - (2 + w) ≡ 1465 - (p + 2 + w - at))
room-left at p w h l = (omega arith, omega arith)

room_gone : (at p w : ℕ) → at ≤ p → p - at ≤ 1465 → 1465 < p + 2 + w - at → 1465 - (p - at) < 2 + w
room_gone at p w h r l = omega arith

module _ (s : List ℕ) (at : ℕ) where
  -- the most that goes into what is left of the room
  abbrev pub most_from : ℕ → ℕ → ℕ → List (List ℕ) → Run
  most_from k p c ms = ran_from k p (greatest (holds ms (1465 - (p - at))) c) ms

  -- by the messages that are left: none, or a first one, which goes in or doesn't
  pub ran : (c n p k : ℕ) (ms : List (List ℕ)) → at ≤ p → p - at ≤ 1465 → cut n (drop p s) ≡ whole ms → run s at p k c ≡ most_from k p c ms
  ran zero n p k ms h r e = rw (greatest-zero (holds ms (1465 - (p - at)))) (run-done s at p k ∙ sym (ran-none k p ms))
  ran (suc c) zero p k ms h r e =
      let d = none-at s p ms e in
      let g = none_left (1465 - (p - at)) (suc c) in
      run-torn s at p k c d.1 ∙ sym (ap (most_from k p (suc c)) d.0 ∙ rw g (ran-none k p []))
  ran (suc c) (suc n) p k ms h r e = by (leb (next - at) 1465) refl (λ l. ran c n next (k + 1) others (omega arith) l more_cut) where
    t : SteppedAt s p n ms
    t = stepped-at n s p ms e

    m : List ℕ
    m = first (drop p s)

    others : List (List ℕ)
    others = t.others

    next : ℕ
    next = p + 2 + length m

    room : ℕ
    room = 1465 - (p - at)

    more_cut : cut n (drop next s) ≡ whole others
    more_cut = rw (← t.ends) t.cuts

    by : (b : Bool) → leb (next - at) 1465 ≡ b → (next - at ≤ 1465 → run s at next (k + 1) c ≡ most_from (k + 1) next c others)
        → run s at p k (suc c) ≡ most_from k p (suc c) ms
    by true q more =
        let l = leb-true (next - at) 1465 q in
        let v = room-left at p (length m) h l in
        let j = greatest (holds others (1465 - (next - at))) c in
        let g : greatest (holds (m ∷ others) room) (suc c) ≡ suc j = rw v.1 at (first-in m others room c v.0) in
        run_on s at p k c t.inside (rw t.ends l)
        ∙ ap (λ (x : ℕ). run s at x (k + 1) c) t.ends
        ∙ more l
        ∙ ran-more k p m others j
        ∙ ap (λ (x : ℕ). ran_from k p x (m ∷ others)) (sym g)
        ∙ ap (most_from k p (suc c)) (sym t.are)
    by false q more =
        let l = leb-false (next - at) 1465 q in
        let g = first_out m others room (suc c) (room_gone at p (length m) h r l) in
        run-full s at p k c (rw t.ends l)
        ∙ sym (ran-none k p (m ∷ others))
        ∙ ap (λ (x : ℕ). ran_from k p x (m ∷ others)) (sym g)
        ∙ ap (most_from k p (suc c)) (sym t.are)
