-- Whole blocks after whole blocks are whole blocks together.
-- Assumes nothing.
use Prim.Native.Nat.{ℕ, zero, suc, ◌+◌, ◌≤◌}
use mathlib.Core.List.{List, [], ◌∷◌, ◌++◌}
use mathlib.Core.Path.{◌≡◌, refl, ap, sym, ◌∙◌}
use mathlib.Core.Bool.{true}
use native.Mathlib.Nat.{zero-add, suc-add}
use native.Mathlib.Omega.{arith}
use borrow.Author.Tests.{le-leb, leb-true}
use lib.ListN.{length, drop, length-append, length-drop, get_or-append}
use lib.Seq.{take-append-le, drop-append-le}
use Rattle.wire.proofs.Width.{be-two}
use Rattle.blocks.specs.Blocks.{stated, there, first, rest, torn, whole, cut, messages_of}
use Rattle.blocks.proofs.Cutting.{not-torn, stepped}

-- a block that is all there is the same, whatever follows
module _ (a b : List ℕ) (e : there a ≡ true) where
  fits : 2 + stated a ≤ length a
  fits = leb-true (2 + stated a) (length a) e

  stated-joined : stated (a ++ b) ≡ stated a
  stated-joined =
      let l = fits in
      be-two (a ++ b) 0 ∙ rw (get_or-append a b 0 0 (omega arith), get_or-append a b 0 1 (omega arith)) (sym (be-two a 0))

  there-joined : there (a ++ b) ≡ true
  there-joined =
      let l = fits in
      rw stated-joined (le-leb (2 + stated a) (length (a ++ b)) (rw length-append (omega arith)))

  first-joined : first (a ++ b) ≡ first a
  first-joined =
      let l = fits in
      let k : stated a ≤ length (drop 2 a) = rw length-drop (omega arith) in
      rw (stated-joined, drop-append-le 2 a b (omega arith), take-append-le (stated a) (drop 2 a) b k)

  rest-joined : rest (a ++ b) ≡ rest a ++ b
  rest-joined = rw (stated-joined, drop-append-le (2 + stated a) a b fits)

module _ (k : ℕ) (b : List ℕ) (ys : List (List ℕ)) (f : cut k b ≡ whole ys) where
  pub cut-joined : (n : ℕ) (a : List ℕ) (xs : List (List ℕ)) → cut n a ≡ whole xs → cut (n + k) (a ++ b) ≡ whole (xs ++ ys)
  unfolding cut
  cut-joined zero [] xs e =
      let none : xs ≡ [] = ap messages_of (sym e) in
      rw (none, zero-add k) f
  cut-joined zero (x ∷ a) xs e = not-torn torn xs refl e
  cut-joined (suc n) a xs e =
      let p = stepped n a xs e in
      let more = cut-joined n (rest a) p.others p.cuts in
      rw (suc-add n k, there-joined a b p.is-there, first-joined a b p.is-there, rest-joined a b p.is-there, more)
      (ap (λ (os : List (List ℕ)). whole (os ++ ys)) (sym p.are))
