-- The byte that a type stands for; what stands for none is over 2.
-- Assumes nothing.
use Prim.Native.Nat.{ℕ, ◌<◌}
use mathlib.Core.Path.{◌≡◌, refl, sym}
use native.Mathlib.Omega.{arith}
use borrow.Author.Tests.{eqb-true, eqb-false}
use Rattle.wire.specs.Checks.{◌is◌, Verdict, refused, taken}
use Rattle.wire.specs.declared.refusal.Refusal.{Refusal}
use Rattle.wire.specs.declared.refusal.Refusal.TheVariants.{UnknownType}
use Rattle.wire.proofs.Checks.{not-both, taken-same, refused-same}
use Rattle.wire.proofs.Tests.{by-test}
use Rattle.memx.specs.Reading.{byte_of, kind_of}
use Rattle.memx.specs.declared.layout.Kind.{Kind}
use Rattle.memx.specs.declared.layout.Kind.TheVariants.{Heartbeat, Shutdown, Messages}

module _ (n : ℕ) where
  -- the verdict on a byte is one of four
  by-verdict : {C : Type 0} (v : Verdict Kind) → kind_of n ≡ v
      → ((k : Kind) → v ≡ taken k → n ≡ byte_of k → C) → (v ≡ refused UnknownType → 2 < n → C) → C
  by-verdict v e some none =
      by-test (n is 0) (λ p. some Heartbeat (sym (rw p at e)) (eqb-true n 0 p))
      (λ p. by-test (n is 1) (λ q. some Shutdown (sym (rw (p, q) at e)) (eqb-true n 1 q))
      (λ q. by-test (n is 2) (λ r. some Messages (sym (rw (p, q, r) at e)) (eqb-true n 2 r))
      (λ r.
      let x = eqb-false n 0 p in
      let y = eqb-false n 1 q in
      let z = eqb-false n 2 r in
      none (sym (rw (p, q, r) at e)) (omega arith))))

  pub stands-for : (k : Kind) → kind_of n ≡ taken k → n ≡ byte_of k
  stands-for k e =
      by-verdict (taken k) e
      (λ j same b. let s : k ≡ j = taken-same k j same in rw (s, b))
      (λ q _. not-both (taken k) UnknownType k q refl)

  pub stands-for-none : (why : Refusal) → kind_of n ≡ refused why → (why ≡ UnknownType) × (2 < n)
  stands-for-none why e =
      by-verdict (refused why) e
      (λ j same _. not-both (refused why) why j refl same)
      (λ q over. (refused-same why UnknownType q, over))
