-- The log's checks stand in the scope's order: adding 10, 13, 2, 7, 9; adding many 10, 13, 4, 2, 7, 9; the end 10, 13. Each list is what
-- its definition checks.
-- Assumes nothing.
use Prim.Native.Nat.{ℕ}
use mathlib.Core.Path.{◌≡◌, refl}
use mathlib.Core.Bool.{true}
use mathlib.Core.List.{List, [], ◌∷◌, ◌++◌}
use Rattle.wire.specs.Checks.{Verdict, taken, Check, ◌else◌, checked, in_order}
use Rattle.wire.specs.declared.refusal.Refusal.TheVariants.{Framing}
use Rattle.blocks.specs.Blocks.{is_whole, messages_of}
use Rattle.lent_log.specs.Log.{Kept, extended, growing, fitting, adding, to_the_end, adding_many, declaring}
use Rattle.lent_log.specs.declared.Log.{Log}

module _ (l : Log) (s : List ℕ) where
  -- a definition is some checks, in an order, and then what is taken
  abbrev Checked : Verdict Kept → List Check → Kept → List ℕ → Type 0
  Checked v cs k order = (v ≡ checked cs (taken k)) × (in_order order cs ≡ true)

  pub adding-in-order : (m : List ℕ)
      → Checked (adding l s m) (growing l s ++ fitting l s (m ∷ [])) (extended l s (m ∷ [])) (10 ∷ 13 ∷ 2 ∷ 7 ∷ 9 ∷ [])
  unfolding adding
  adding-in-order m = (refl, refl)

  pub adding-many-in-order : (framed : List ℕ) → let ms = messages_of (to_the_end framed) in
      Checked (adding_many l s framed) (growing l s ++ ((is_whole (to_the_end framed) else Framing) ∷ fitting l s ms)) (extended l s ms)
      (10 ∷ 13 ∷ 4 ∷ 2 ∷ 7 ∷ 9 ∷ [])
  unfolding adding_many
  adding-many-in-order framed = (refl, refl)

  pub declaring-in-order :
      Checked (declaring l s) (growing l s) (record { log = record { count = l.count; used = l.used; ended = true }; bytes = s })
      (10 ∷ 13 ∷ [])
  unfolding declaring
  declaring-in-order = (refl, refl)
