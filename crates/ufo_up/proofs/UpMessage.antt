-- One message: what the block at its place and its type byte say of it.
-- Assumes nothing.
use Prim.Native.Nat.{ℕ, ◌+◌, ◌<◌}
use mathlib.Core.List.{List}
use mathlib.Core.Path.{◌≡◌, refl, ap, sym, ◌∙◌}
use native.Mathlib.Omega.{arith}
use borrow.Author.Tests.{le-leb, lt-leb, eq-eqb, ne_eqb}
use lib.ListN.{length, drop}
use Rattle.wire.specs.Checks.{Verdict, refused, taken, checked, ◌told_by◌}
use Rattle.wire.specs.declared.refusal.Refusal.{Refusal}
use Rattle.wire.specs.declared.refusal.Refusal.TheVariants.{UnknownType, Framing}
use Rattle.wire.proofs.Checks.{not-both, taken-same, through, told-refused}
use Rattle.blocks.specs.Blocks.{stated, end_at, block_at}
use Rattle.blocks.specs.declared.Block.{Block}
use Rattle.blocks.proofs.NextBlock.{missed}
use Rattle.blocks.proofs.Found.{own, Found}
use Rattle.ufo_up.specs.Up.{Message, kind, by_kind, checks_alone, read_alone, read_message, message_at, up_of, placed_of}
use Rattle.ufo_up.specs.declared.up.Up.{Up}

-- each type byte has its reader
module _ (m : List ℕ) where
  pub of-kind : (n : ℕ) → kind m ≡ n → read_message m ≡ by_kind n m
  unfolding read_message
  of-kind n e = rw e

  pub is_none : (kind m ≡ 76 → ⊥) → (kind m ≡ 84 → ⊥) → (kind m ≡ 85 → ⊥) → (kind m ≡ 82 → ⊥) → (kind m ≡ 79 → ⊥)
      → read_message m ≡ refused UnknownType
  unfolding read_message
  is_none l t u r o =
      rw (ne_eqb (kind m) 76 l, ne_eqb (kind m) 84 t, ne_eqb (kind m) 85 u, ne_eqb (kind m) 82 r, ne_eqb (kind m) 79 o)

-- what stands alone is told so wherever it stands
pub alone : (m : List ℕ) (said : Message) (next : ℕ)
    → read_alone said m told_by up_of next ≡ checked (checks_alone m) (taken (up_of next said))
unfolding read_alone
alone m said next = through (λ v. v told_by up_of next) (λ why. refl) (checks_alone m) (taken said)

module _ (d : List ℕ) (p : ℕ) where
  -- no block stands at p
  pub over-at : length d < end_at d p → message_at d p ≡ refused Framing
  unfolding message_at
  over-at h = rw (lt-leb (end_at d p) (length d) h)

  pub none-at : (why : Refusal) → block_at d p ≡ refused why → message_at d p ≡ refused why
  none-at why e = let f = missed d p why e in rw f.0 (over-at f.1)

  -- one does
  module _ (b : Block) (f : Found d p b) where
    pub empty-at : b.length ≡ 0 → message_at d p ≡ refused Framing
    unfolding message_at
    empty-at z =
        rw (le-leb (end_at d p) (length d) (omega (arith, f.ends, f.inside)), eq-eqb (stated (drop p d)) 0 (sym f.states ∙ z))

    pub own_at : (b.length ≡ 0 → ⊥) → message_at d p ≡ read_message (own d p b)
    unfolding message_at
    own_at z =
        rw (
          le-leb (end_at d p) (length d) (omega (arith, f.ends, f.inside)),
          ne_eqb (stated (drop p d)) 0 (λ q. z (f.states ∙ q)),
          f.same,
        )

    -- what its own bytes are told as, with the place where they end
    pub told-as : (b.length ≡ 0 → ⊥) → (up : Up) → read_message (own d p b) told_by up_of (b.start + length (own d p b)) ≡ taken up
        → message_at d p told_by placed_of (end_at d p) ≡ taken (record { message = up; next = b.next })
    told-as z up e =
        let ends : b.start + length (own d p b) ≡ b.next = rw f.long (omega (arith, f.begins, f.states, f.ends)) in
        ap (λ (v : Verdict Message). v told_by placed_of (end_at d p)) (own_at z) ∙ by (read_message (own d p b)) _ ends e where
          by : (v : Verdict Message) (next : ℕ) → next ≡ b.next → v told_by up_of next ≡ taken up
              → v told_by placed_of (end_at d p) ≡ taken (record { message = up; next = b.next })
          by (refused why) next ends e = not-both (refused why) why up refl e
          by (taken m) next ends e = rw (← f.ends, ← ends, taken-same (up_of next m) up e)

    pub refused-as : (b.length ≡ 0 → ⊥) → (why : Refusal) (next : ℕ) → read_message (own d p b) told_by up_of next ≡ refused why
        → message_at d p told_by placed_of (end_at d p) ≡ refused why
    refused-as z why next e = rw (own_at z, told-refused (read_message (own d p b)) (up_of next) why e)
