-- Whether some blocks fill the rest of the bytes is told by the place after them.
-- Assumes nothing.
use Prim.Native.Nat.{ℕ, zero, suc}
use mathlib.Core.List.{List}
use mathlib.Core.Path.{◌≡◌, refl, ◌∙◌}
use mathlib.Core.Bool.{Bool, false}
use native.Mathlib.Omega.{arith}
use borrow.Author.Tests.{leb-true, leb-false, ne_eqb}
use lib.Dec.{leb, eqb}
use lib.ListN.{length}
use Rattle.std.specs.Result.{result_eq}
use Rattle.wire.specs.Checks.{Verdict, refused, taken}
use Rattle.wire.specs.declared.refusal.Refusal.{Refusal}
use Rattle.wire.proofs.Tests.{by-test}
use Rattle.blocks.specs.Blocks.{fills, end_at, place_after}
use Rattle.blocks.proofs.NextBlock.{fills-step, fills-torn, fills-end, place-step, place-torn, place_here, place-past}

-- the place is the very end
abbrev pub at_end : List ℕ → Verdict ℕ → Bool
at_end s (refused n) = false
at_end s (taken q) = eqb q (length s)

pub is-the-end : (s : List ℕ) (same : Refusal → Refusal → Bool) (v : Verdict ℕ) → result_eq eqb same v (taken (length s)) ≡ at_end s v
is-the-end s same (refused why) = refl
is-the-end s same (taken q) = refl

pub fills-by-place : (n : ℕ) (s : List ℕ) (p : ℕ) → fills s p n ≡ at_end s (place_after n s p)
fills-by-place zero s p =
    by-test (leb p (length s))
    (λ t. rw (place_here s p (leb-true p (length s) t)) (fills-end s p))
    (λ t.
    let h = leb-false p (length s) t in
    rw (place-past s p h) (fills-end s p ∙ ne_eqb p (length s) (λ e. omega arith)))
fills-by-place (suc n) s p =
    by-test (leb (end_at s p) (length s))
    (λ t.
    let h = leb-true (end_at s p) (length s) t in
    rw (place-step s p n h) (fills-step s p n h ∙ fills-by-place n s (end_at s p)))
    (λ t.
    let h = leb-false (end_at s p) (length s) t in
    rw (place-torn s p n h) (fills-torn s p n h))
