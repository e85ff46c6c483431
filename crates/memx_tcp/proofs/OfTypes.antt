-- What holds of every type of the code: by an arm of a match, which names some of them, or of each by computation.
-- Assumes nothing.
use Prim.Native.Nat.{ℕ}
use mathlib.Core.Path.{◌≡◌, refl, sym}
use mathlib.Core.Logic.{◌⊎◌, inl, inr}
use mathlib.Core.List.{List, [], ◌∷◌}
use mathlib.Core.Bool.{Bool, true, false, ◌||◌, true≢false}
use borrow.Author.Tests.{eqb-true}
use Rattle.wire.specs.Checks.{◌is◌, refused, taken}
use Rattle.wire.specs.declared.refusal.Refusal.{Refusal}
use Rattle.wire.specs.declared.refusal.Refusal.TheVariants.{UnknownType}
use Rattle.wire.proofs.Checks.{chosen, not-both, taken-same, refused-same}
use Rattle.wire.proofs.Tests.{by-test, or_right}
use Rattle.memx_tcp.proofs.Every.{◌and◌}
use Rattle.memx_tcp.specs.Layout.{Row, row_in, known_in, table, known, fields_of}
use Rattle.memx_tcp.specs.Types.{byte_of, kinds, kind_among, kind_of}
use Rattle.memx_tcp.specs.declared.types.Kind.{Kind}
use Rattle.memx_tcp.specs.declared.types.Kind.TheVariants as kind

-- ---- the arms of a match

-- a type that is one of some
abbrev pub Among : List Kind → Kind → Type 0
Among [] k = ⊥
Among (j ∷ []) k = k ≡ j
Among (j ∷ i ∷ set) k = (k ≡ j) ⊎ Among (i ∷ set) k

-- what each of them has, it has
abbrev pub Each : (Kind → Type 0) → List Kind → Type 0
Each P [] = Unit
Each P (k ∷ ks) = P k × Each P ks

pub by-arm : (P : Kind → Type 0) (set : List Kind) (k : Kind) → Each P set → Among set k → P k
by-arm P [] k each e = absurd e
by-arm P (j ∷ []) k each e = rw e each.0
by-arm P (j ∷ i ∷ set) k each (inl e) = rw e each.0
by-arm P (j ∷ i ∷ set) k each (inr e) = by-arm P (i ∷ set) k each.1 e

-- ---- every type

pub by-kind : (P : Kind → Type 0) → Each P kinds → (k : Kind) → P k
by-kind P each kind.Heartbeat = each.0
by-kind P each kind.LoginAccepted = each.1.0
by-kind P each kind.LoginRejected = each.1.1.0
by-kind P each kind.StartOfSession = each.1.1.1.0
by-kind P each kind.EndOfSession = each.1.1.1.1.0
by-kind P each kind.ReplayBegin = each.1.1.1.1.1.0
by-kind P each kind.ReplayRejected = each.1.1.1.1.1.1.0
by-kind P each kind.ReplayComplete = each.1.1.1.1.1.1.1.0
by-kind P each kind.StreamBegin = each.1.1.1.1.1.1.1.1.0
by-kind P each kind.StreamRejected = each.1.1.1.1.1.1.1.1.1.0
by-kind P each kind.StreamComplete = each.1.1.1.1.1.1.1.1.1.1.0
by-kind P each kind.Sequenced = each.1.1.1.1.1.1.1.1.1.1.1.0
by-kind P each kind.Login = each.1.1.1.1.1.1.1.1.1.1.1.1.0
by-kind P each kind.Replay = each.1.1.1.1.1.1.1.1.1.1.1.1.1.0
by-kind P each kind.ReplayAll = each.1.1.1.1.1.1.1.1.1.1.1.1.1.1.0
by-kind P each kind.Stream = each.1.1.1.1.1.1.1.1.1.1.1.1.1.1.1.0
by-kind P each kind.Unsequenced = each.1.1.1.1.1.1.1.1.1.1.1.1.1.1.1.1.0

-- ---- the byte of a type

module _ (n : ℕ) where
  found : (ks : List Kind) (k : Kind) → kind_among ks n ≡ taken k → n ≡ byte_of k
  found [] k e = not-both (kind_among [] n) UnknownType k refl e
  found (j ∷ ks) k e =
      chosen (n is byte_of j) (taken j) (kind_among ks n) (taken k)
      (λ q s. rw (← taken-same j k s) (eqb-true n (byte_of j) q))
      (λ _ s. found ks k s)
      e

  abbrev listed : List Kind → Bool
  listed [] = false
  listed (k ∷ ks) = n is byte_of k || listed ks

  missed : (ks : List Kind) (why : Refusal) → kind_among ks n ≡ refused why → (why ≡ UnknownType) × (listed ks ≡ false)
  missed [] why e = (refused-same why UnknownType (sym e), refl)
  missed (j ∷ ks) why e =
      chosen (n is byte_of j) (taken j) (kind_among ks n) (refused why)
      (λ q s. not-both (taken j) why j s refl)
      (λ q s. rw q (missed ks why s))
      e

  pub stands-for : (k : Kind) → kind_of n ≡ taken k → n ≡ byte_of k
  stands-for k e = found kinds k e

  pub stands-for-none : (why : Refusal) → kind_of n ≡ refused why → (why ≡ UnknownType) × (known n ≡ false)
  unfolding known
  stands-for-none why e = missed kinds why e

  -- a type that is none has no fields
  nothing : (rows : List Row) → known_in rows n ≡ false → (row_in rows n).fields ≡ []
  nothing [] e = refl
  nothing (r ∷ rows) e =
      by-test (n is r.kind)
      (λ q. absurd (true≢false (rw q at e)))
      (λ q. rw q (nothing rows (or_right (n is r.kind) (known_in rows n) e)))

  pub unknown-fields : known n ≡ false → fields_of n ≡ []
  unfolding known fields_of
  unknown-fields e = nothing table e

pub known-kind : (k : Kind) → known (byte_of k) ≡ true
unfolding known
known-kind =
    by-kind (λ k. known (byte_of k) ≡ true)
    (refl and refl and refl and refl and refl and refl and refl and refl and refl and refl
    and refl and refl and refl and refl and refl and refl and refl and tt)
