-- What holds of every type: of each row of the table by computation, and of a type that is none.
-- Assumes nothing.
use Prim.Native.Nat.{ℕ, zero, suc, ◌+◌, ◌≤◌, ◌<◌}
use mathlib.Core.Path.{◌≡◌, refl, sym}
use mathlib.Core.Logic.{inl, inr}
use mathlib.Core.List.{List, [], ◌∷◌, map}
use mathlib.Core.Bool.{Bool, true, false, not, ◌&&◌, ◌||◌, true≢false}
use native.Mathlib.Omega.{arith}
use borrow.Author.Tests.{ne_eqb, eqb-true, eqb-false, leb-true}
use types.Run.{OneOf}
use Rattle.wire.specs.Checks.{◌is◌, ◌at_most◌}
use Rattle.wire.proofs.Tests.{by-test, and_left, and_right}
use Rattle.memx_tcp.specs.Layout.{Row, ◌is_one_of◌, table, row_in, known_in, known, fields_of, most_of, size}
use Rattle.memx_tcp.specs.Packet.{header_size, limit}
use Rattle.memx_tcp.specs.Read.{values_in}
use Rattle.memx_tcp.specs.Reading.{fields, all_named, fields_by}
use Rattle.memx_tcp.specs.Writing.{under, values_of}

infixr 5 ◌and◌
-- ---- rows

-- a proof for a row, and those for the rows behind it
abbrev pub ◌and◌ : {A B : Type 0} → A → B → A × B
a and b = (a, b)

-- what each row has, and a row of nothing has
abbrev Rows : (Row → Type 0) → List Row → Type 0
Rows P [] = (kind : ℕ) → P (row_in [] kind)
Rows P (r ∷ rows) = P r × Rows P rows

-- has every row that a type finds
of_row : (P : Row → Type 0) (rows : List Row) (kind : ℕ) → Rows P rows → P (row_in rows kind)
of_row P [] kind h = h kind
of_row P (r ∷ rows) kind h =
    by-test (kind is r.kind)
    (λ e. rw e h.0)
    (λ e. rw e (of_row P rows kind h.1))

-- values under their names are found there again
abbrev Again : ℕ → List ℕ → Row → Type 0
Again k s r =
    let vs = values_in r.fields s in
    let p = all_named r.fields vs (fields k 0 0 0 0 0) in
    (p.kind ≡ k) × (map (under p) r.fields ≡ vs)

again-rows : (k : ℕ) (s : List ℕ) → Rows (Again k s) table
unfolding values_in
again-rows k s =
    (refl, refl) and (refl, refl) and (refl, refl) and (refl, refl) and (refl, refl) and (refl, refl)
    and (refl, refl) and (refl, refl) and (refl, refl) and (refl, refl) and (refl, refl) and (refl, refl)
    and (refl, refl) and (refl, refl) and (refl, refl) and (refl, refl) and (refl, refl) and (λ kind. (refl, refl))

pub named_again : (k : ℕ) (s : List ℕ) → let p = fields_by k (values_in (fields_of k) s) in
    (p.kind ≡ k) × (values_of p ≡ values_in (fields_of k) s)
unfolding fields_of fields_by values_of
named_again k s =
    let a : Again k s (row_in table k) = of_row (Again k s) table k (again-rows k s) in
    (a.0, rw a.0 a.1)

-- what the type of each row has, a known type has
abbrev pub Types : (ℕ → Type 0) → List Row → Type 0
Types P [] = Unit
Types P (r ∷ rows) = P r.kind × Types P rows

of_types : (P : ℕ → Type 0) (rows : List Row) (k : ℕ) → Types P rows → known_in rows k ≡ true → P k
of_types P [] k h e = absurd (true≢false (sym e))
of_types P (r ∷ rows) k h e =
    by-test (k is r.kind)
    (λ q. rw (eqb-true k r.kind q) h.0)
    (λ q. of_types P rows k h.1 (rw q at e))

pub of-known : (P : ℕ → Type 0) → Types P table → (k : ℕ) → known k ≡ true → P k
unfolding known
of-known P h k e = of_types P table k h e

-- ---- bytes

-- a test that every number below n passes
abbrev below : ℕ → (ℕ → Bool) → Bool
below zero test = true
below (suc n) test = test n && below n test

of-below : (n : ℕ) (test : ℕ → Bool) → below n test ≡ true → (k : ℕ) → k < n → test k ≡ true
of-below zero test e k h = absurd (omega arith)
of-below (suc n) test e k h =
    by-test (k is n)
    (λ q. rw (eqb-true k n q) (and_left (test n) (below n test) e))
    (λ q. let d = eqb-false k n q in of-below n test (and_right (test n) (below n test) e) k (omega arith))

abbrev same : Bool → Bool → Bool
same true b = b
same false b = not b

same-means : (a b : Bool) → same a b ≡ true → a ≡ b
same-means true true e = refl
same-means true false e = sym e
same-means false true e = e
same-means false false e = refl

-- the types that there are
abbrev ranges : ℕ → Bool
ranges k = k at_most 11 || 100 at_most k && k at_most 104

known_bytes : below 256 (λ k. same (ranges k) (known k)) ≡ true
unfolding known
known_bytes = refl

pub known_is : (k : ℕ) → k < 256 → ranges k ≡ known k
known_is k h = same-means (ranges k) (known k) (of-below 256 (λ k. same (ranges k) (known k)) known_bytes k h)

-- ---- the arms of a match on a type

-- a type that is none of some keys
pub missed : (set : List ℕ) (k : ℕ) → (OneOf set k → ⊥) → k is_one_of set ≡ false
missed [] k h = refl
missed (m ∷ []) k h = rw (ne_eqb k m h)
missed (m ∷ n ∷ set) k h = rw (ne_eqb k m (λ e. h (inl e))) (missed (n ∷ set) k (λ e. h (inr e)))

-- the arms from the last to the first
abbrev pub Missed : List (List ℕ) → ℕ → Type 0
Missed [] k = Unit
Missed (set ∷ arms) k = Missed arms k × (OneOf set k → ⊥)

abbrev in_arm : List (List ℕ) → ℕ → Bool
in_arm [] k = false
in_arm (set ∷ arms) k = k is_one_of set || in_arm arms k

all-missed : (arms : List (List ℕ)) (k : ℕ) → Missed arms k → in_arm arms k ≡ false
all-missed [] k h = refl
all-missed (set ∷ arms) k h = rw (missed set k h.1) (all-missed arms k h.0)

-- a test that every row passes whose type is in no arm
abbrev passes : (Row → Bool) → List (List ℕ) → List Row → Bool
passes test arms [] = true
passes test arms (r ∷ rows) = (in_arm arms r.kind || test r) && passes test arms rows

-- and a row of nothing passes, the row of a type passes that is in no arm
row-passes : (test : Row → Bool) (arms : List (List ℕ)) (rows : List Row) → passes test arms rows ≡ true
    → ((kind : ℕ) → test (row_in [] kind) ≡ true) → (k : ℕ) → in_arm arms k ≡ false → test (row_in rows k) ≡ true
row-passes test arms [] e none k m = none k
row-passes test arms (r ∷ rows) e none k m =
    let here = in_arm arms r.kind || test r in
    let there = passes test arms rows in
    by-test (k is r.kind)
    (λ q. let n : in_arm arms r.kind ≡ false = rw (← eqb-true k r.kind q) m in rw q (rw n at (and_left here there e)))
    (λ q. rw q (row-passes test arms rows (and_right here there e) none k m))

pub otherwise : (test : Row → Bool) (arms : List (List ℕ)) → passes test arms table ≡ true → ((kind : ℕ) → test (row_in [] kind) ≡ true)
    → (k : ℕ) → Missed arms k → test (row_in table k) ≡ true
otherwise test arms e none k m = row-passes test arms table e none k (all-missed arms k m)

-- no lawful packet is over the limit
pub short : (kind : ℕ) → header_size + size (fields_of kind) + most_of kind ≤ limit
unfolding fields_of most_of size
short kind = leb-true _ _ (otherwise (λ r. header_size + size r.fields + r.most at_most limit) [] refl (λ k. refl) kind tt)
