-- What a walker owns is what the slice that it holds owns: it can be made of the slice, lent with the place, and kept at another place.
-- Assumes nothing.
use mathlib.Core.Path.{◌≡◌, refl}
use Prim.Native.Nat.{ℕ, ◌<◌, ◌^◌}
use mathlib.Core.List.{List, [], ◌∷◌}
use lib.ListN.{length}
use seplogic.Ra.Ura.{Ura}
use mir.Syntax.{named, w64}
use mir.Val.{Val, vint}
use base.Logic.{SProp, ent, sep, emp}
use base.Fml.{Share, Fml, ftrue, flft}
use types.Logic.{Logic, sem}
use types.Kit.{‵, raw, ◌⊛◌, ⋆, given, ◌$◌, ◌∵◌, !, qed, by, move, use1, use2, split, join, learn, fjoin, frame, done}
use denote.RattleType.{owns}
use denote.Laws.{Is}
use denote.Plain.{uint_Makes}
use denote.Builtin.{u8, usize}
use denote.Ref.{NamedLft}
use denote.Slice.{slice_val, ShrSlice}
use denote.Steps.{owned, nothing}
use denote.Struct.Laws as LL
use denote.Struct.Rest.{all_own, own_open, own_shut, own_put}
use denote.Struct.Values.{Values}
use Rattle.walker.specs.declared.Walker.{Walker}
use Rattle.walker.specs.contracts.Walker as T
use Rattle.walker.proofs.Walker.TheLaws as T'

-- what a walker owns, at the lifetime α of its slice
abbrev pub Held : NamedLft → Walker → Fml
Held α w = (T.the_row α).own_val w (T'.lowered w ∷ [])

-- the machine value of its slice, and what the slice owns
abbrev pub slice_of : Walker → Val
slice_of w = slice_val w.datagram.ref_ptr (length w.datagram.now)

abbrev pub Slice : NamedLft → Walker → Fml
Slice α w = (ShrSlice (named 0) α.lft u8).own_val w.datagram (slice_of w ∷ [])

-- its fields, their machine values, and what they own together
abbrev pub fields : (α : NamedLft) → Walker → Values (T.the_type α).parts
fields α w = (w.datagram, (w.place, tt))

abbrev pub passed : Walker → List Val × (List Val × Unit {0})
passed w = (slice_of w ∷ [], (vint w64 w.place ∷ [], tt))

abbrev pub Parts : NamedLft → Walker → Fml
Parts α w = owns (ShrSlice (named 0) α.lft u8 ∷ usize ∷ []) (fields α w) (passed w)

-- the same datagram, at the place n
abbrev pub at_place : Walker → ℕ → Walker
at_place w n = record { datagram = w.datagram; place = n }

module _ {M : Type 1} {𝓤 : Ura M} (𝓛 : Logic 𝓤) (α : NamedLft) (w : Walker) where
  -- a walker is made of a slice
  pub made : w.place < 2 ^ 64 → ent 𝓤 (sem 𝓛 (Slice α w)) (sem 𝓛 (Held α w))
  made fits =
      qed 𝓛 (‵ (Slice α w) ∷ []) ∵ nothing ! $ owned ! usize (Is usize) (uint_Makes 𝓛 w64) w.place _ (refl, fits) $ fjoin !
      $ move ! (1 ∷ 0 ∷ []) $ fjoin ! $
      by ! (own_shut 𝓛 (T.the_type α) (T'.the_laws α) (fields α w))

  -- what a function of a slice and a place asks, if it has no `requires`; q is the share of the lifetime's token
  abbrev pub Asked : Share → SProp 𝓤
  Asked q = sep 𝓤 (⋆ 𝓛 ((‵ (flft α.lft q) ⊛ ‵ ftrue) ∷ ‵ (Parts α w) ∷ [])) (emp 𝓤)

  pub asked : (q : Share) → ent 𝓤 (⋆ 𝓛 ((‵ (flft α.lft q) ⊛ ‵ ftrue) ∷ ‵ (Parts α w) ∷ [])) (Asked q)
  asked q = qed 𝓛 ((‵ (flft α.lft q) ⊛ ‵ ftrue) ∷ ‵ (Parts α w) ∷ []) ∵ join ! $ frame ! $ done !

  -- a walker is Copy: it lends its fields to such a function, and keeps what it owns
  pub lent : (q : Share) → ent 𝓤 (⋆ 𝓛 ((‵ (flft α.lft q) ⊛ ‵ ftrue) ∷ ‵ (Held α w) ∷ [])) (sep 𝓤 (Asked q) (sem 𝓛 (Held α w)))
  lent q =
      qed 𝓛 ((‵ (flft α.lft q) ⊛ ‵ ftrue) ∷ ‵ (Held α w) ∷ []) ∵ move ! (1 ∷ []) $ use1 𝓛 (‵ (Held α w) ⊛ ‵ (Held α w))
      ((LL.copy (T.the_type α) (T'.the_copy α) 𝓛).twice w (T'.lowered w ∷ [])) $ split ! $
      use1 𝓛 (given (T'.lowered w ∷ [] ≡ T'.lowered w ∷ []) (‵ (all_own (T.the_type α).parts (T'.the_laws α) (fields α w))))
      (own_open 𝓛 (T.the_type α) (T'.the_laws α) (fields α w) (T'.lowered w)) $ learn ! (λ _.
      -- [what the fields own; what the walker owns; the token]
      move ! (2 ∷ 0 ∷ []) $ use2 𝓛 (raw (Asked q)) (asked q) $ frame ! $ done !)

  -- a walker keeps what it owns where it goes
  pub kept : (n : ℕ) → n < 2 ^ 64 → ent 𝓤 (sem 𝓛 (Held α w)) (sem 𝓛 (Held α (at_place w n)))
  kept n fits =
      qed 𝓛 (‵ (Held α w) ∷ []) ∵ owned ! usize (Is usize) (uint_Makes 𝓛 w64) n _ (refl, fits) $ move ! (1 ∷ 0 ∷ []) $
      by ! (own_put 𝓛 (T.the_type α) (T'.the_laws α) 1 (fields α w) n (T'.lowered w))
