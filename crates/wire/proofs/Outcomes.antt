-- Any two outcomes that a contract allows for the same input are equal: the answer, and whatever was lent.
-- Assumes nothing.
use Prim.Native.Nat.{ℕ}
use mathlib.Core.Path.{◌≡◌, refl, sym, ◌∙◌}
use mathlib.Core.List.{List}
use mathlib.Core.Logic.{∥∥₁_elim}
use mathlib.Core.HLevel.{×_prop}
use seplogic.Ra.Ura.{Ura}
use base.Stored.{Coded, Coded-set}
use borrow.Fn.Kinds.{ParamKind, ResultKind, Out, Dens, res_t, ended_of}
use contract.Lifetimes.{Lfts}
use contract.Monad.{fact}
use denote.Triple.Clauses.{AtExit, Clauses, Ended, Lasts, at_exit}
use denote.Triple.Entry.{Args, Res}
use Rattle.wire.specs.Checks.{Verdict}
use Rattle.wire.specs.Reply.{Reply, Settled}

-- of a function's contract, as it is generated from the source: `left` is what is read off whatever was lent, when it returns
abbrev pub Determined : (n : ℕ) (ps : List (ParamKind n)) (r : ResultKind n) (B : Type 0)
    → ((κs : Lfts n) → AtExit (ended_of n ps r) κs → B) → Out n ps r
    → Type 0
Determined n ps r B left post =
    (κs : Lfts n) (a : Dens κs ps) (x y : (res_t r κs).Denot) (s t : AtExit (ended_of n ps r) κs) → post κs a x s → post κs a y t → (x ≡ y)
    × (left κs s ≡ left κs t)

-- nothing was lent for writing
abbrev pub Answered : (n : ℕ) (ps : List (ParamKind n)) (r : ResultKind n) → Out n ps r → Type 0
Answered n ps r post = Determined n ps r (Unit {0}) (λ κs s. tt) post

-- every outcome that a contract allows for an input is this answer
abbrev pub Gives : (n : ℕ) (ps : List (ParamKind n)) (r : ResultKind n) → ((κs : Lfts n) → Dens κs ps → (res_t r κs).Denot) → Out n ps r
    → Type 0
Gives n ps r answer post = (κs : Lfts n) (a : Dens κs ps) (x : (res_t r κs).Denot) (s : AtExit (ended_of n ps r) κs) → post κs a x s
    → x ≡ answer κs a

-- two answers that are the same value are equal
pub same_answer : {A : Type 0} {x y v : A} → x ≡ v → y ≡ v → (x ≡ y) × (◌≡◌ {A = Unit {0}} tt tt)
same_answer p q = (p ∙ sym q, refl)

-- two stores that leave the same bytes leave equal bytes
pub same_bytes : {A : Type 0} {x y : Unit {0}} {l m v : A} → l ≡ v → m ≡ v → (x ≡ y) × (l ≡ m)
same_bytes p q = (refl, p ∙ sym q)

-- and so with both
pub same-both : {A B : Type 0} {x y v : A} {l m w : B} → x ≡ v → y ≡ v → l ≡ w → m ≡ w → (x ≡ y) × (l ≡ m)
same-both p q r s = (p ∙ sym q, r ∙ sym s)

-- as where a reply settles them
pub same-reply : {reply : Reply} {out l m : List ℕ} {x y : Verdict ℕ} → Settled reply out x l → Settled reply out y m → (x ≡ y) × (l ≡ m)
same-reply p q = same-both p.answer q.answer p.bytes q.bytes

-- Over a reference to a struct, or a struct that holds a reference, a contract has no generated reading. Of it the same is said over its
-- clauses themselves, as they are generated, at a model of the program logic: if they ensure two results, each with last values of all that
-- was lent, be it in different states, then the results are equal and so are the values.
abbrev pub Determines : {M : Type 1} (𝓤 : Ura M) (T : Ended) → Clauses 𝓤 T → Type 1
Determines {M} 𝓤 T says =
    (κs : Lfts T.signature.lifetimes) (a : Args T.signature κs) (g : (says κs a).ghost) (x y : Res T.signature κs)
    (s t : Lasts T κs a) (p q : M)
    → ((says κs a).ensures g x (at_exit T κs a s)).holds p
    → ((says κs a).ensures g y (at_exit T κs a t)).holds q
    → (x ≡ y) × (s ≡ t)

-- that a fact holds in a state says only that there is some proof of it; this is enough, since values that have codes are equal in one way
-- only
pub by-facts : {M : Type 1} (𝓤 : Ura M) {A B : Type 0} {x y : A} {s t : B} {φ ψ : Type 0} (p q : M)
    → Coded A
    → Coded B
    → (φ → ψ → (x ≡ y) × (s ≡ t))
    → (fact 𝓤 φ).holds p
    → (fact 𝓤 ψ).holds q
    → (x ≡ y) × (s ≡ t)
by-facts 𝓤 {x = x} {y = y} {s = s} {t = t} p q a b same f g =
    let once : IsProp ((x ≡ y) × (s ≡ t)) = ×_prop (Coded-set a x y) (Coded-set b s t) in
    ∥∥₁_elim f once (λ u. ∥∥₁_elim g once (λ v. same u.0 v.0))
