-- Characters that are spaces, told by parts: a part and what follows it, and parts that overlap.
-- Assumes nothing.
use Rattle.std.proofs.Common.{◌≡◌, ℕ, suc, ◌+◌, ◌-◌, ◌<◌, ◌≤◌, Bool, true, false, ◌&&◌, eqb}
use Rattle.std.proofs.Common.{List, [], ◌∷◌, ◌++◌, length, get_or, take, drop, sym}
use Rattle.std.proofs.Common.{refl, ap, ◌∙◌, add-one, arith, drop-cons, drop_of_length-le, take-add}
use mathlib.Core.Bool.{and-true, and_assoc}
use Rattle.wire.specs.Checks.{◌is◌}
use Rattle.wire.proofs.Tests.{by-test, and_left}
use Rattle.text.specs.Text.{blank}

pub blank-append : (a b : List ℕ) → blank (a ++ b) ≡ blank a && blank b
unfolding blank
blank-append [] b = refl
blank-append (c ∷ a) b = by-test (eqb c 32) (λ t. rw t (blank-append a b)) (λ t. rw t)

cut : (s : List ℕ) (i w n : ℕ) → n ≡ i + w → blank (take n s) ≡ blank (take i s) && blank (take w (drop i s))
cut s i w n e = rw e (ap blank (take-add i w s) ∙ blank-append (take i s) (take w (drop i s)))

-- fewer of them that aren't all spaces
pub short : (s : List ℕ) (i n : ℕ) → i ≤ n → blank (take i s) ≡ false → blank (take n s) ≡ false
short s i n h e = rw (cut s i (n - i) n (omega arith), e)

-- the first m are spaces: then the w from place i on settle it, where nothing lies between
pub overlap : (s : List ℕ) (i w n m : ℕ) → n ≡ i + w → i ≤ m → blank (take m s) ≡ true → blank (take w (drop i s)) ≡ blank (take n s)
overlap s i w n m e l f =
    let both = sym (cut s i (m - i) m (omega arith)) ∙ f in
    let front : blank (take i s) ≡ true = and_left (blank (take i s)) (blank (take (m - i) (drop i s))) both in
    rw (cut s i w n e, front)

-- ---- one by one: w says whether there were only spaces before place i

module _ (s : List ℕ) (i : ℕ) (w : Bool) where
  pub blank-step : i < length s → w && (get_or s i 0 is 32) && blank (drop (i + 1) s) ≡ w && blank (drop i s)
  unfolding blank
  blank-step h = rw (drop-cons s i 0 h, add-one) (and_assoc w (get_or s i 0 is 32) (blank (drop (suc i) s)))

  pub blank-end : length s ≤ i → w ≡ w && blank (drop i s)
  unfolding blank
  blank-end h = rw (drop_of_length-le s h) (sym (and-true w))
