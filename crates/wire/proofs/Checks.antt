-- What a list of checks says: what is taken has passed every one, what passes every one is taken, and a refusal stands.
-- Assumes nothing.
use Rattle.std.specs.Prelude.{if◌then◌else◌, IsErrAnd}
use Rattle.std.proofs.lemmas.Result.{err_from_is_err_and}
use Prim.Native.Nat.{ℕ}
use mathlib.Core.Path.{◌≡◌, refl}
use mathlib.Core.List.{List, [], ◌∷◌}
use mathlib.Core.Bool.{Bool, true, false, not, ◌&&◌, ◌||◌}
use borrow.Author.Tests.{eqb-true}
use Rattle.wire.specs.Checks.{◌is◌, Check, ◌else◌, checked, Passed, Verdict, refused, taken, ◌into◌, ◌told_by◌}
use Rattle.wire.specs.declared.refusal.Refusal.{Refusal}
use Rattle.wire.proofs.Tests.{by-test, impossible}

-- a refusal is no taking
pub not-both : {A : Type 0} {C : Type 0} (v : Verdict A) (why : Refusal) (a : A) → v ≡ refused why → v ≡ taken a → C
not-both v why a p q = impossible cc

pub taken-same : {A : Type 0} (a b : A) → ◌≡◌ {A = Verdict A} (taken a) (taken b) → a ≡ b
taken-same a b e = cc

pub refused-same : {A : Type 0} (m n : Refusal) → ◌≡◌ {A = Verdict A} (refused m) (refused n) → m ≡ n
refused-same m n e = cc

-- what `?` hands on is the same refusal
pub passed-on : {A : Type 0} {why : Refusal} (r : Verdict A) → IsErrAnd r (λ e. e ≡ why) → r ≡ refused why
passed-on r h = let p = err_from_is_err_and r h in rw (p.1, p.2)

-- a choice that equals v has come from one of its arms
pub chosen : {A : Type 0} {C : Type 0} (b : Bool) (x y v : Verdict A) → (b ≡ true → x ≡ v → C) → (b ≡ false → y ≡ v → C)
    → (if b then x else y) ≡ v → C
chosen true x y v f g e = f refl e
chosen false x y v f g e = g refl e

module _ {A : Type 0} where
  pub all-passed : (cs : List Check) (v : Verdict A) (a : A) → checked cs v ≡ taken a → Passed cs × (v ≡ taken a)
  all-passed [] v a e = (tt, e)
  all-passed (c ∷ cs) v a e =
      by-test c.test
      (λ q. let r = all-passed cs v a (rw q at e) in ((q, r.0), r.1))
      (λ q. not-both (checked (c ∷ cs) v) c.why a (rw q refl) e)

  pub passed-all : (cs : List Check) (v : Verdict A) → Passed cs → checked cs v ≡ v
  passed-all [] v p = refl
  passed-all (c ∷ cs) v p = rw p.0 (passed-all cs v p.1)

  -- what is taken came by the number n, and passed its checks, or by another
  pub came-by : {C : Type 0} (k n : ℕ) (cs : List Check) (a p : A) (w : Verdict A) → (k ≡ n → Passed cs → a ≡ p → C) → (w ≡ taken p → C)
      → (if k is n then checked cs (taken a) else w) ≡ taken p → C
  came-by k n cs a p w here there =
      chosen (k is n) (checked cs (taken a)) w (taken p)
      (λ q e. let c = all-passed cs (taken a) p e in here (eqb-true k n q) c.0 (taken-same a p c.1))
      (λ _. there)

  -- two checks that refuse alike are one
  module _ (why : Refusal) (a b : Bool) (cs : List Check) (v : Verdict A) where
    pub checked-both : checked ((a else why) ∷ (b else why) ∷ cs) v ≡ (if a && b then checked cs v else refused why)
    checked-both = by-test a (λ e. rw e) (λ e. rw e)

    pub checked-neither : checked ((not a else why) ∷ (not b else why) ∷ cs) v ≡ (if a || b then refused why else checked cs v)
    checked-neither = by-test a (λ e. rw e) (λ e. rw e (by-test b (λ f. rw f) (λ f. rw f)))

module _ {A B : Type 0} where
  -- what lets refusals stand goes through a list of checks
  pub through : (g : Verdict A → Verdict B) → ((why : Refusal) → g (refused why) ≡ refused why) → (cs : List Check) (v : Verdict A)
      → g (checked cs v) ≡ checked cs (g v)
  through g stands [] v = refl
  through g stands (c ∷ cs) v =
      by-test c.test
      (λ q. rw q (through g stands cs v))
      (λ q. rw q (stands c.why))

  pub into-checked : (cs : List Check) (v : Verdict A) (next : A → Verdict B) → checked cs v into next ≡ checked cs (v into next)
  into-checked cs v next = through (λ w. w into next) (λ n. refl) cs v

  -- what went on into a next verdict and was taken there was taken before
  pub record Went (v : Verdict A) (next : A → Verdict B) (b : B) : Type 0 where
    pub by : A
    pub was : v ≡ taken by
    pub gave : next by ≡ taken b

  pub went : (v : Verdict A) (next : A → Verdict B) (b : B) → v into next ≡ taken b → Went v next b
  went (refused why) next b e = not-both (refused why) why b refl e
  went (taken a) next b e = record { by = a; was = refl; gave = e }

  -- what was told was taken, and so told; and a refusal that was told stood before
  pub record Told (v : Verdict A) (tell : A → B) (b : B) : Type 0 where
    pub by : A
    pub was : v ≡ taken by
    pub gave : tell by ≡ b

  pub told : (v : Verdict A) (tell : A → B) (b : B) → v told_by tell ≡ taken b → Told v tell b
  told (refused why) tell b e = not-both (refused why) why b refl e
  told (taken a) tell b e = record { by = a; was = refl; gave = taken-same (tell a) b e }

  pub told-refused : (v : Verdict A) (tell : A → B) (why : Refusal) → v told_by tell ≡ refused why → v ≡ refused why
  told-refused (refused m) tell why e = rw (refused-same m why e)
  told-refused (taken a) tell why e = not-both (taken (tell a)) why (tell a) e refl
