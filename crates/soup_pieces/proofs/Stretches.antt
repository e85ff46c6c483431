-- A stretch of bytes without a linefeed is kept, byte by byte, up to the linefeed that ends it, the 4,098th byte, or the end of what was
-- fed; while an overlong packet is dropped, it is dropped.
-- Assumes nothing.
use Prim.Native.Nat.{ℕ, suc, ◌+◌, ◌≤◌, ◌<◌}
use mathlib.Core.Path.{◌≡◌, refl, ap, ◌∙◌}
use mathlib.Core.List.{List, [], ◌∷◌, ◌++◌, append_assoc, append-nil}
use mathlib.Core.Bool.{true, false, not}
use native.Mathlib.Omega.{arith}
use lib.Dec.{eqb}
use lib.ListN.{length, length-append}
use borrow.Author.Tests.{ne_eqb, eq-eqb, eqb-false, not-true}
use Rattle.wire.specs.Checks.{Verdict, refused, taken}
use Rattle.wire.specs.declared.refusal.Refusal.TheVariants.{Overlong}
use Rattle.wire.proofs.Tests.{and_left, and_right}
use Rattle.soup.specs.Packet.{Packet}
use Rattle.soup.specs.Read.{unbroken}
use Rattle.soup_pieces.specs.Machine.{Machine, packet, refusal, keeps, gives, role_of, judge, number_of, next_after, empty, ended, eat}
use Rattle.soup_pieces.specs.Machine.{First, given, first}

-- what the first byte of an unbroken stretch is not, and that the rest is unbroken
pub first-none : (b : ℕ) (t : List ℕ) → unbroken (b ∷ t) ≡ true → b ≡ 10 → ⊥
unfolding unbroken
first-none b t u = eqb-false b 10 (not-true (eqb b 10) (and_left (not (eqb b 10)) (unbroken t) u))

pub rest-none : (b : ℕ) (t : List ℕ) → unbroken (b ∷ t) ≡ true → unbroken t ≡ true
unfolding unbroken
rest-none b t u = and_right (not (eqb b 10)) (unbroken t) u

module _ (next : ℕ) where
  -- so many bytes are kept
  abbrev pub holding : List ℕ → Machine
  holding k = record { kept = k; dropping = false; next = next }

  -- ---- one byte

  module _ (k : List ℕ) (b : ℕ) where
    one_more : length (k ++ b ∷ []) ≡ suc (length k)
    one_more = simp length-append (omega arith)

    eat-kept : (b ≡ 10 → ⊥) → length k < 4097 → eat (holding k) b ≡ record { fate = keeps; machine = holding (k ++ b ∷ []) }
    unfolding eat
    eat-kept n h = rw (ne_eqb b 10 n, ne_eqb (length (k ++ b ∷ [])) 4098 (λ e. omega (arith, one_more)))

    eat-overlong : (b ≡ 10 → ⊥) → length k ≡ 4097
        → eat (holding k) b ≡ record { fate = gives (refusal (k ++ b ∷ []) Overlong); machine = empty true next }
    unfolding eat
    eat-overlong n h = rw (ne_eqb b 10 n, eq-eqb (length (k ++ b ∷ [])) 4098 (omega (arith, one_more)))

  eat-line : (k : List ℕ) → eat (holding k) 10 ≡ ended next (k ++ 10 ∷ []) (judge next (k ++ 10 ∷ []))
  unfolding eat
  eat-line k = refl

  -- ---- a stretch

  pub kept_on : (k t bs : List ℕ) → unbroken t ≡ true → length k + length t ≤ 4097
      → first (holding k) (t ++ bs) ≡ first (holding (k ++ t)) bs
  unfolding first
  kept_on k [] bs u h = rw append-nil
  kept_on k (b ∷ t) bs u h =
      rw (eat-kept k b (first-none b t u) (omega arith))
      (kept_on (k ++ b ∷ []) t bs (rest-none b t u) (omega (arith, one_more k b))
      ∙ ap (λ (l : List ℕ). first (holding l) bs) (append_assoc k (b ∷ []) t))

  -- what a verdict on a line hands out, with what is left behind it
  abbrev pub line_given : List ℕ → List ℕ → Verdict Packet → First
  line_given d bs (refused why) = given (refusal d why) (empty false next) bs
  line_given d bs (taken p) = given (packet d p (number_of next (role_of p))) (empty false (next_after next (role_of p))) bs

  -- a stretch and the linefeed that ends it
  pub closes : (k t bs : List ℕ) → unbroken t ≡ true → length k + length t ≤ 4097
      → first (holding k) (t ++ 10 ∷ bs) ≡ line_given (k ++ t ++ 10 ∷ []) bs (judge next (k ++ t ++ 10 ∷ []))
  unfolding first
  closes k t bs u h = kept_on k t (10 ∷ bs) u h ∙ by (judge next (k ++ t ++ 10 ∷ [])) refl where
    by : (v : Verdict Packet) → judge next (k ++ t ++ 10 ∷ []) ≡ v → first (holding (k ++ t)) (10 ∷ bs)
        ≡ line_given (k ++ t ++ 10 ∷ []) bs v
    by (refused why) e = rw (eat-line (k ++ t), e)
    by (taken p) e = rw (eat-line (k ++ t), e)

  -- one whose last byte is the 4,098th
  pub overruns : (k t bs : List ℕ) (b : ℕ) → unbroken t ≡ true → (b ≡ 10 → ⊥) → length k + length t ≡ 4097
      → first (holding k) (t ++ b ∷ bs) ≡ given (refusal (k ++ t ++ b ∷ []) Overlong) (empty true next) bs
  unfolding first
  overruns k t bs b u n h =
      kept_on k t (b ∷ bs) u (omega arith) ∙ rw (eat-overlong (k ++ t) b n (simp length-append (omega arith)))

  -- ---- what is dropped

  pub drops-on : (t bs : List ℕ) → unbroken t ≡ true → first (empty true next) (t ++ bs) ≡ first (empty true next) bs
  unfolding first eat
  drops-on [] bs u = refl
  drops-on (b ∷ t) bs u = rw (ne_eqb b 10 (first-none b t u)) (drops-on t bs (rest-none b t u))

  -- up to and with its linefeed
  pub drops-out : (t bs : List ℕ) → unbroken t ≡ true → first (empty true next) (t ++ 10 ∷ bs) ≡ first (empty false next) bs
  unfolding first eat
  drops-out t bs u = drops-on t (10 ∷ bs) u
