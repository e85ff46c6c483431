-- What is gathered behind the kept bytes: as far as a linefeed, the 4,098th byte or the piece's end, whichever comes first, the machine and
-- the code agree.
-- Assumes nothing.
use Prim.Native.Nat.{ℕ, suc, ◌+◌, ◌-◌, min, ◌≤◌, ◌<◌}
use mathlib.Core.Path.{◌≡◌, refl, sym, ap, ◌∙◌}
use mathlib.Core.List.{List, [], ◌∷◌, ◌++◌, append_assoc, append-nil}
use mathlib.Core.Bool.{true, false}
use native.Mathlib.Omega.{arith}
use lib.ListN.{length, get_or, take, drop, length-append, length-drop}
use lib.Seq.{sets, sets-eq, length-take-le, take_at, take-take, take_all, take-suc, get_or-take, split_at}
use Rattle.soup_pieces.specs.Searching.{slice, index_of}
use Rattle.wire.specs.Checks.{Verdict, refused, taken}
use Rattle.wire.specs.declared.refusal.Refusal.TheVariants.{Overlong}
use Rattle.soup.specs.Packet.{Packet}
use Rattle.soup.specs.Read.{unbroken}
use Rattle.soup.proofs.Linefeed.{append-unbroken}
use Rattle.soup_pieces.specs.Machine.{refusal, empty, used_up, given, judge, first}
use Rattle.soup_pieces.specs.Eating.{returned, at_start, Returned}
use Rattle.soup_pieces.specs.Closing.{Line, empty_pieces, closed_of, closed}
use Rattle.soup_pieces.specs.declared.Taken.{Taken}
use Rattle.soup_pieces.specs.declared.Taken.TheVariants as takes
use Rattle.soup_pieces.proofs.Stretches.{first-none, holding, line_given, kept_on, closes, overruns}
use Rattle.soup_pieces.proofs.Searches.{parts_none, unbroken-before, linefeed-there, part-is}
use Rattle.soup_pieces.proofs.Closes.{ends-line}

-- the answer to a line that is handed out
line-answered : (next : ℕ) (piece d left : List ℕ) (place : ℕ) (v : Verdict Packet) → place ≡ length piece - length left
    → closed_of next d place v ≡ returned piece (line_given next d left v)
line-answered next piece d left place (refused why) e = rw e
line-answered next piece d left place (taken p) e = rw e

line-at-start : (next : ℕ) (d left : List ℕ) (v : Verdict Packet) → at_start (line_given next d left v) ≡ d
line-at-start next d left (refused why) = refl
line-at-start next d left (taken p) = refl

module _ (buffer piece : List ℕ) (kept from next : ℕ) (few : kept ≤ 4097) (long : 4098 ≤ length buffer)
    (whole : unbroken (take kept buffer) ≡ true) (inside : from ≤ length piece) where
  abbrev K : List ℕ
  K = take kept buffer

  abbrev w : List ℕ
  w = drop from piece

  length-K : length K ≡ kept
  length-K = length-take-le kept buffer (omega arith)

  length-w : length w ≡ length piece - from
  length-w = length-drop from piece

  -- n bytes are copied behind the kept ones
  abbrev copied : ℕ → List ℕ
  copied n = sets buffer kept (take n w)

  module _ (n : ℕ) (h : n ≤ length w) (r : kept + n ≤ length buffer) where
    length-stands : length (K ++ take n w) ≡ kept + n
    length-stands = length-append K (take n w) ∙ omega (arith, length-K, length-take-le n w h)

    copied_is : copied n ≡ K ++ take n w ++ drop (length (K ++ take n w)) buffer
    copied_is =
        let l : length (take n w) ≡ n = length-take-le n w h in
        sets-eq (take n w) buffer kept (omega arith) ∙ rw (l, length-stands)

    pub front-is : take (kept + n) (copied n) ≡ K ++ take n w
    front-is = rw copied_is (take_at (K ++ take n w) _ (kept + n) length-stands)

  -- ---- a linefeed at place j

  module _ (j : ℕ) (h : j < length w) (u : unbroken (take j w) ≡ true) (e : get_or w j 0 ≡ 10) (s : kept + j ≤ 4097) where
    line-is : K ++ take (suc j) w ≡ K ++ take j w ++ 10 ∷ []
    line-is = rw (take-suc w j 0 h, e, append_assoc K (take j w) (10 ∷ []))

    pub is-line : Line (K ++ take (suc j) w)
    is-line =
        let unbroken-both = append-unbroken K (take j w) whole u in
        rw line-is (ends-line (K ++ take j w) unbroken-both (omega (arith, length-stands j (omega arith) (omega arith))))

    -- the bytes up to it are a line, which is handed out or refused
    pub line-ends : (place : ℕ) → place ≡ from + suc j
        → Returned (taken (first (holding next K) w)) buffer piece (taken (closed (K ++ take (suc j) w) next place)) (copied (suc j))
    unfolding closed
    line-ends place p =
        let d = K ++ take (suc j) w in
        let v = judge next d in
        let left = drop (suc j) w in
        let split : w ≡ take j w ++ 10 ∷ left = split_at w j 0 h ∙ rw e in
        let short : length K + length (take j w) ≤ 4097 = omega (arith, length-K, length-take-le j w (omega arith)) in
        let goes : first (holding next K) w ≡ line_given next d left v =
        ap (first (holding next K)) split ∙ closes next K (take j w) left u short ∙ rw (← line-is) in
        let l : length left ≡ length w - suc j = length-drop (suc j) w in
        record {
          answer = rw goes (ap (λ (t : Taken). taken t) (line-answered next piece d left place v (omega (arith, length-w))));
          bytes = rw (goes, line-at-start next d left v) (copied_is (suc j) (omega arith) (omega arith));
        }

  -- ---- no linefeed among all that is left of the piece, and it fits

  pub piece-ends : unbroken w ≡ true → kept + length w ≤ 4097
      → Returned (taken (first (holding next K) w)) buffer piece
      (taken (takes.UsedUp (record { kept = kept + length w; dropping = false; next = record { 0 = next } }))) (copied (length w))
  unfolding first
  piece-ends u s =
      let goes : first (holding next K) w ≡ used_up (holding next (K ++ w)) =
      ap (first (holding next K)) (sym (append-nil w)) ∙ kept_on next K w [] u (omega (arith, length-K)) in
      let n : length (K ++ w) ≡ kept + length w = length-append K w ∙ omega (arith, length-K) in
      let t : take (length w) w ≡ w = take_all (length w) w (omega arith) in
      record { answer = rw (goes, n); bytes = rw goes (copied_is (length w) (omega arith) (omega arith) ∙ rw t) }

  -- ---- no linefeed up to the 4,098th byte

  pub overruns-there : (m : ℕ) → kept + m ≡ 4097 → m < length w → unbroken (take (suc m) w) ≡ true → (place : ℕ) → place ≡ from + suc m
      → Returned (taken (first (holding next K) w)) buffer piece (taken (takes.Unfit Overlong 4098 place (empty_pieces true next)))
      (copied (suc m))
  overruns-there m e h u place p =
      let b = get_or w m 0 in
      let left = drop (suc m) w in
      let t : take (suc m) w ≡ take m w ++ b ∷ [] = take-suc w m 0 h in
      let us = parts_none (take m w) (b ∷ []) (rw t at u) in
      let d : K ++ take m w ++ b ∷ [] ≡ K ++ take (suc m) w = rw (t, append_assoc K (take m w) (b ∷ [])) in
      let full : length K + length (take m w) ≡ 4097 = omega (arith, length-K, length-take-le m w (omega arith)) in
      let goes : first (holding next K) w ≡ given (refusal (K ++ take (suc m) w) Overlong) (empty true next) left =
      ap (first (holding next K)) (split_at w m 0 h) ∙ overruns next K (take m w) left b us.0 (first-none b [] us.1) full ∙ rw d in
      let n : length (K ++ take (suc m) w) ≡ 4098 = length-stands (suc m) h (omega arith) ∙ omega arith in
      let l : length left ≡ length w - suc m = length-drop (suc m) w in
      let q : length piece - length left ≡ place = omega (arith, length-w) in
      record { answer = rw (goes, n, q); bytes = rw goes (copied_is (suc m) h (omega arith)) }

  -- ---- as the code looks for a linefeed: among as many bytes as are left, or as there is room for

  module _ (most found : ℕ) (m : most ≡ min (length piece - from) (4098 - kept))
      (at : found ≡ from + index_of 10 (slice from (from + most) piece)) where
    abbrev j : ℕ
    j = index_of 10 (take most w)

    at_j : found ≡ from + j
    at_j = at ∙ rw (part-is from most piece (omega arith))

    length_most : length (take most w) ≡ most
    length_most = length-take-le most w (omega (arith, length-w))

    none_before : unbroken (take j (take most w)) ≡ true
    none_before = unbroken-before (take most w)

    module _ (h : found < from + most) where
      abbrev size : ℕ
      size = found + 1 - from

      size_is : size ≡ suc j
      size_is = omega (arith, at_j)

      near : j < most
      near = omega (arith, at_j)

      here : get_or w j 0 ≡ 10
      here = sym (get_or-take most w j 0 near) ∙ linefeed-there (take most w) (omega (arith, near, length_most))

      before : unbroken (take j w) ≡ true
      before = rw (take-take j most w (omega (arith, near))) at none_before

      front : take (kept + size) (copied size) ≡ K ++ take (suc j) w
      front = rw size_is (front-is (suc j) (omega (arith, near, length-w)) (omega (arith, near)))

      pub found-line : Line (take (kept + size) (copied size))
      found-line = rw front (is-line j (omega (arith, near, length-w)) before here (omega (arith, near)))

      pub answers-line : Returned (taken (first (holding next K) w)) buffer piece
          (taken (closed (take (kept + size) (copied size)) next (found + 1))) (copied size)
      answers-line =
          let ends = line-ends j (omega (arith, near, length-w)) before here (omega (arith, near)) in
          rw (front, size_is) (ends (found + 1) (omega (arith, at_j)))

    module _ (h : from + most ≤ found) where
      all-before : unbroken (take most w) ≡ true
      all-before = rw (take_all j (take most w) (omega (arith, at_j, length_most))) at none_before

      pub answers-end : length piece - from < 4098 - kept
          → Returned (taken (first (holding next K) w)) buffer piece
          (taken (takes.UsedUp (record { kept = kept + most; dropping = false; next = record { 0 = next } }))) (copied most)
      answers-end s =
          let e : most ≡ length w = omega (arith, length-w) in
          let u : unbroken w ≡ true = rw (e, take_all (length w) w (omega arith)) at all-before in
          rw e (piece-ends u (omega (arith, length-w)))

      pub answers-overlong : 4098 - kept ≤ length piece - from
          → Returned (taken (first (holding next K) w)) buffer piece
          (taken (takes.Unfit Overlong 4098 (from + most) (empty_pieces true next))) (copied most)
      answers-overlong s =
          let e : most ≡ suc (4097 - kept) = omega arith in
          rw e (overruns-there (4097 - kept) (omega arith) (omega (arith, length-w)) (rw e at all-before) (from + suc (4097 - kept)) refl)
