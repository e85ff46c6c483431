-- What one byte can bring, case by case: it is dropped, or kept, or a packet is handed out or refused with it.
-- Assumes nothing.
use Prim.Native.Nat.{ℕ}
use mathlib.Core.Path.{◌≡◌, refl}
use mathlib.Core.List.{List, [], ◌∷◌, ◌++◌}
use mathlib.Core.Bool.{true, false, not}
use lib.Dec.{eqb}
use lib.ListN.{length}
use borrow.Author.Tests.{eqb-true, eqb-false}
use Rattle.wire.specs.Checks.{◌is◌, Verdict, refused, taken}
use Rattle.wire.specs.declared.refusal.Refusal.{Refusal}
use Rattle.wire.specs.declared.refusal.Refusal.TheVariants.{Overlong}
use Rattle.wire.proofs.Tests.{by-test}
use Rattle.soup.specs.Packet.{Packet}
use Rattle.soup_pieces.specs.Machine.{Machine, packet, refusal, keeps, drops, gives, Eaten, role_of, number_of, next_after, judge, empty}
use Rattle.soup_pieces.specs.Machine.{ended, eat}

module _ (s : Machine) (b : ℕ) where
  -- the kept bytes and this one
  abbrev pub gathered : List ℕ
  gathered = s.kept ++ b ∷ []

  pub data Eats : Eaten → Type 0 where
    dropped : s.dropping ≡ true → Eats (record { fate = drops b; machine = empty (not (b is 10)) s.next })
    kept : s.dropping ≡ false → (b ≡ 10 → ⊥) → (length gathered ≡ 4098 → ⊥)
        → Eats (record { fate = keeps; machine = record { kept = gathered; dropping = false; next = s.next } })
    fit : s.dropping ≡ false → b ≡ 10 → (p : Packet) → judge s.next gathered ≡ taken p
        → Eats (record {
          fate = gives (packet gathered p (number_of s.next (role_of p)));
          machine = empty false (next_after s.next (role_of p));
        })
    unfit : s.dropping ≡ false → b ≡ 10 → (why : Refusal) → judge s.next gathered ≡ refused why
        → Eats (record { fate = gives (refusal gathered why); machine = empty false s.next })
    overlong : s.dropping ≡ false → (b ≡ 10 → ⊥) → length gathered ≡ 4098
        → Eats (record { fate = gives (refusal gathered Overlong); machine = empty true s.next })

  drop-is : s.dropping ≡ true → eat s b ≡ record { fate = drops b; machine = empty (not (b is 10)) s.next }
  unfolding eat
  drop-is d = rw d

  line-is : s.dropping ≡ false → eqb b 10 ≡ true → eat s b ≡ ended s.next gathered (judge s.next gathered)
  unfolding eat
  line-is d t = rw (d, t)

  overlong-is : s.dropping ≡ false → eqb b 10 ≡ false → eqb (length gathered) 4098 ≡ true
      → eat s b ≡ record { fate = gives (refusal gathered Overlong); machine = empty true s.next }
  unfolding eat
  overlong-is d t f = rw (d, t, f)

  kept-is : s.dropping ≡ false → eqb b 10 ≡ false → eqb (length gathered) 4098 ≡ false
      → eat s b ≡ record { fate = keeps; machine = record { kept = gathered; dropping = false; next = s.next } }
  unfolding eat
  kept-is d t f = rw (d, t, f)

  line-eats : s.dropping ≡ false → b ≡ 10 → (v : Verdict Packet) → judge s.next gathered ≡ v → Eats (ended s.next gathered v)
  line-eats d e (taken p) j = fit d e p j
  line-eats d e (refused why) j = unfit d e why j

  pub eats : Eats (eat s b)
  eats =
      by-test s.dropping
      (λ d. rw (drop-is d) (dropped d))
      (λ d. by-test (eqb b 10)
      (λ t. rw (line-is d t) (line-eats d (eqb-true b 10 t) (judge s.next gathered) refl))
      (λ t. by-test (eqb (length gathered) 4098)
      (λ f. rw (overlong-is d t f) (overlong d (eqb-false b 10 t) (eqb-true (length gathered) 4098 f)))
      (λ f. rw (kept-is d t f) (kept d (eqb-false b 10 t) (eqb-false (length gathered) 4098 f)))))
