-- What a reader says of a packet whose type it doesn't know, or that goes on after what its type has: the refusals that the face makes by
-- itself.
-- Assumes nothing.
use Rattle.std.specs.Prelude.{if◌then◌else◌}
use Prim.Native.Nat.{ℕ, ◌+◌, ◌<◌}
use mathlib.Core.Path.{◌≡◌, refl}
use mathlib.Core.Bool.{Bool, true, false, not}
use mathlib.Core.List.{List, [], ◌∷◌}
use native.Mathlib.Omega.{arith}
use borrow.Author.Tests.{ne_eqb}
use lib.Dec.{leb}
use lib.ListN.{length}
use Rattle.wire.specs.Checks.{◌is◌, ◌at_most◌, Verdict, refused}
use Rattle.wire.specs.Reply.{Reply, settle}
use Rattle.wire.specs.declared.refusal.Refusal.{Refusal}
use Rattle.wire.specs.declared.refusal.Refusal.TheVariants.{Empty, Overlong, UnknownType, Framing}
use Rattle.flat_packet.specs.Fitting.{unfit, alone}

-- a type that is none of these
abbrev pub None : List ℕ → ℕ → Type 0
None [] kind = Unit
None (k ∷ ks) kind = (kind ≡ k → ⊥) × None ks kind

-- a packet of some bytes: over the limit, or the verdict v
abbrev pub opened : {A : Type 0} (some : Bool) (limit : ℕ) → List ℕ → Verdict A → Verdict A
opened some limit d v = if some then if length d at_most limit then v else refused Overlong else refused Empty

module _ (A : Type 0) (d : List ℕ) (room : ℕ) where
  -- a refusal stands
  pub stands : (b : Bool) (why : Refusal)
      → if b then refused why else refused Overlong ≡ settle {A = A} (if b then refused why else refused Overlong) d room
  stands true why = refl
  stands false why = refl

  module _ (some : Bool) (limit size : ℕ) (s : some ≡ true) where
    pub unknown : length d ≡ size → unfit limit size UnknownType ≡ settle {A = A} (opened some limit d (refused UnknownType)) d room
    unknown l = rw (s, l) (stands (leb size limit) UnknownType)

    pub beyond : (body : List ℕ) (reply : Reply) (v : Verdict A) → length d ≡ size + length body → 0 < length body
        → alone limit size body reply ≡ settle (opened some limit d (if length d is size then v else refused Framing)) d room
    beyond body reply v l h =
        rw (s, l, ne_eqb (length body) 0 (λ z. omega arith), ne_eqb (size + length body) size (λ z. omega arith))
        (stands (leb (size + length body) limit) Framing)

  -- a datagram of an unknown type; and one that goes on with a body
  pub unknown-datagram : (size : ℕ) → length d ≡ size → 0 < size
      → unfit 1472 size UnknownType ≡ settle {A = A} (opened (not (length d is 0)) 1472 d (refused UnknownType)) d room
  unknown-datagram size l h = unknown (not (length d is 0)) 1472 size (rw (ne_eqb (length d) 0 (λ z. omega arith))) l

  pub beyond-datagram : (size : ℕ) (body : List ℕ) (reply : Reply) (v : Verdict A) → length d ≡ size + length body → 0 < length body
      → alone 1472 size body reply ≡ settle (opened (not (length d is 0)) 1472 d (if length d is size then v else refused Framing)) d room
  beyond-datagram size body reply v l h =
      beyond (not (length d is 0)) 1472 size (rw (ne_eqb (length d) 0 (λ z. omega arith))) body reply v l h
