-- A message that was stored piece by piece from the output's start is its block, stored there.
-- Assumes nothing.
use Prim.Native.Nat.{ℕ, ◌+◌}
use mathlib.Core.List.{List, [], ◌∷◌, ◌++◌}
use mathlib.Core.Path.{◌≡◌, refl}
use native.Mathlib.Numerals.{one-add}
use lib.ListN.{length, set}
use lib.Seq.{sets}
use Rattle.wire.specs.Fields.{bytes_of}
use Rattle.names.specs.Names.{name_bytes, user_bytes}
use Rattle.wire.specs.declared.kinds.Name.{Name}
use Rattle.wire.specs.declared.kinds.User.{User}
use Rattle.blocks.specs.Blocks.{frame}
use Rattle.ufo_up.specs.Up.{login, request, write_message}

-- a block's length and a type byte
abbrev pub headed : ℕ → ℕ → List ℕ
headed size kind = bytes_of 2 size ++ (kind ∷ [])

module _ (out : List ℕ) where
  pub laid-head : (size kind : ℕ) → set (sets out 0 (bytes_of 2 size)) 2 kind ≡ sets out 0 (headed size kind)
  unfolding bytes_of
  laid-head size kind = refl

  pub laid-login : (u : User) (w s : Name)
      → sets (sets (sets (sets out 0 (headed 27 76)) 3 (user_bytes u)) 9 (name_bytes w)) 19 (name_bytes s)
      ≡ sets out 0 (frame (write_message (login (user_bytes u) (name_bytes w) (name_bytes s))))
  unfolding bytes_of
  laid-login u w s = refl

  pub laid-request : (n c : ℕ)
      → sets (sets (sets out 0 (headed 7 84)) 3 (bytes_of 4 n)) 7 (bytes_of 2 c) ≡ sets out 0 (frame (write_message (request n c)))
  unfolding bytes_of
  laid-request n c = refl

  pub laid-unsequenced : (b : List ℕ) → sets (sets out 0 (headed (1 + length b) 85)) 3 b ≡ sets out 0 (frame (85 ∷ b))
  unfolding bytes_of
  laid-unsequenced b = rw one-add

  pub laid-alone : (kind : ℕ) → sets out 0 (headed 1 kind) ≡ sets out 0 (frame (kind ∷ []))
  unfolding bytes_of
  laid-alone kind = refl
