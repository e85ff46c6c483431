-- Definitions that read as a list of checks, each with the refusal where it fails.
-- Assumes nothing.
use Rattle.std.specs.Prelude.{ℕ, suc, ◌≡◌, List, [], ◌∷◌, Bool, true, ◌&&◌, if◌then◌else◌, length, leb, eqb}
use Rattle.std.specs.Prelude.{Result}
pub use Rattle.std.specs.Prelude.{Ok as taken, Err as refused}
use Rattle.wire.specs.Refusals.{number_of}
use Rattle.wire.specs.declared.refusal.Refusal.{Refusal}

infixl 40 ◌is◌
infixl 40 ◌at_most◌
infixl 30 ◌else◌
infixl 20 ◌into◌
infixl 20 ◌told_by◌
abbrev pub ◌is◌ : ℕ → ℕ → Bool
m is n = eqb m n

abbrev pub ◌at_most◌ : ℕ → ℕ → Bool
m at_most n = leb m n

-- what the desk says to its input: it is refused, and why, or taken, with what it says. It is the `Result` that the code answers
abbrev pub Verdict : Type 0 → Type 0
Verdict A = Result A Refusal

-- a check, and the refusal where it fails
pub record Check : Type 0 where
  pub test : Bool
  pub why : Refusal

abbrev pub ◌else◌ : Bool → Refusal → Check
t else why = record { test = t; why = why }

-- the first check that fails refuses; if none does, the verdict is v. `Checks`: what is taken passed every check (`all-passed`),
-- and what passes every check is taken (`passed-all`)
abbrev pub checked : {A : Type 0} → List Check → Verdict A → Verdict A
checked [] v = v
checked (c ∷ cs) v = if c.test then checked cs v else refused c.why

-- what is taken goes on to the next verdict; a refusal stands
abbrev pub ◌into◌ : {A B : Type 0} → Verdict A → (A → Verdict B) → Verdict B
refused why into next = refused why
taken a into next = next a

-- what is taken, as the code tells it; a refusal stands, whatever tells it
abbrev pub ◌told_by◌ : {A B W : Type 0} → Result A W → (A → B) → Result B W
refused why told_by tell = refused why
taken a told_by tell = taken (tell a)

-- every check holds
abbrev pub Passed : List Check → Type 0
Passed [] = Unit
Passed (c ∷ cs) = (c.test ≡ true) × Passed cs

-- where a number stands in an order; past its end where it is not in it
abbrev place_in : List ℕ → ℕ → ℕ
place_in [] n = 0
place_in (m ∷ order) n = if m is n then 0 else suc (place_in order n)

abbrev rising : List ℕ → ℕ → List Check → Bool
rising order from [] = true
rising order from (c ∷ cs) =
    let place = place_in order (number_of c.why) in
    from at_most place && suc place at_most length order && rising order place cs

-- the numbers of the checks are all in an order, and stand in it
abbrev pub in_order : List ℕ → List Check → Bool
in_order order cs = rising order 0 cs

-- the order in which readers check; each reader's `Order` shows that what it checks stands in it, but for MEMX-UDP's, which has its own
abbrev pub ordered : List Check → Bool
ordered cs = in_order (1 ∷ 2 ∷ 3 ∷ 4 ∷ 8 ∷ 5 ∷ 6 ∷ 7 ∷ []) cs
