-- A message that goes on after what its type has is refused as 4.
-- Assumes nothing.
use Prim.Native.Nat.{ℕ, ◌+◌, ◌<◌}
use mathlib.Core.List.{List, ◌∷◌, ◌++◌}
use mathlib.Core.Path.{◌≡◌, refl, ◌∙◌}
use native.Mathlib.Omega.{arith}
use borrow.Author.Tests.{ne_eqb}
use lib.ListN.{length, length-append}
use Rattle.wire.specs.Checks.{refused}
use Rattle.wire.specs.declared.refusal.Refusal.TheVariants.{Framing}
use Rattle.wire.proofs.Width.{length-bytes_of}
use Rattle.ufo_up.specs.Up.{Message, login, request, unsequenced, heartbeat, logout, write_message, read_l, read_t, read_alone}
use Rattle.ufo_up.specs.Up.{read_message}
use Rattle.ufo_up.proofs.UpMessage.{of-kind}

-- a message of a type that ends where its fields end, which have their lengths
abbrev pub Ends : Message → Type 0
Ends (login user password session) = (length user ≡ 6) × (length password ≡ 10) × (length session ≡ 10)
Ends (request first count) = Unit
Ends (unsequenced bytes) = ⊥
Ends heartbeat = Unit
Ends logout = Unit

module _ (more : List ℕ) (h : 0 < length more) where
  pub longer-is-4 : (m : Message) → Ends m → read_message (write_message m ++ more) ≡ refused Framing
  unfolding read_l read_t read_alone
  longer-is-4 (login u w s) f =
      let d = write_message (login u w s) ++ more in
      let l : length d ≡ 27 + length more = simp (length-append, f.0, f.1, f.2) (omega arith) in
      of-kind d 76 refl ∙ rw (ne_eqb (length d) 27 (λ e. omega arith))
  longer-is-4 (request n c) f =
      let d = write_message (request n c) ++ more in
      let l : length d ≡ 7 + length more = simp (length-append, length-bytes_of) (omega arith) in
      of-kind d 84 refl ∙ rw (ne_eqb (length d) 7 (λ e. omega arith))
  longer-is-4 (unsequenced b) f = absurd f
  longer-is-4 heartbeat f = of-kind (82 ∷ more) 82 refl ∙ rw (ne_eqb (length (82 ∷ more)) 1 (λ e. omega arith))
  longer-is-4 logout f = of-kind (79 ∷ more) 79 refl ∙ rw (ne_eqb (length (79 ∷ more)) 1 (λ e. omega arith))
