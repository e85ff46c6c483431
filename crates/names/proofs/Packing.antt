-- Packing ten or six bytes and laying them out again are inverse to each other: one law over the two widths.
-- Assumes nothing.
use Prim.Native.Nat.{ℕ, ◌+◌, ◌*◌, ◌^◌, ◌≤◌, ◌<◌}
use mathlib.Core.Path.{◌≡◌, ap, ◌∙◌}
use mathlib.Core.List.{List, ◌++◌, append_assoc}
use native.Mathlib.Omega.{arith}
use lib.ListN.{length, take, drop, length-drop, length-append}
use lib.Seq.{drop_at, take-add, take_all, sets}
use Rattle.wire.specs.Fields.{be, bytes_of, Bytes}
use Rattle.names.specs.Names.{name_bytes, name_of, user_bytes, user_of}
use Rattle.wire.specs.declared.kinds.Name.{Name}
use Rattle.wire.specs.declared.kinds.User.{User}
use Rattle.wire.proofs.Width.{be-bytes_of, bytes_of-be, bytes_drop, length-bytes_of, sets-after}

module _ (j k : ℕ) where
  -- two fields side by side, read from what was written
  pair_read : (m n : ℕ) (t : List ℕ) → m < 2 ^ (8 * j) → n < 2 ^ (8 * k) → (be j ((bytes_of j m ++ bytes_of k n) ++ t) ≡ m)
      × (be k (drop j ((bytes_of j m ++ bytes_of k n) ++ t)) ≡ n)
  pair_read m n t h l =
      let e : (bytes_of j m ++ bytes_of k n) ++ t ≡ bytes_of j m ++ (bytes_of k n ++ t) = append_assoc (bytes_of j m) (bytes_of k n) t in
      rw e (
        be-bytes_of j m (bytes_of k n ++ t) h,
        rw (drop_at (bytes_of j m) (bytes_of k n ++ t) j (length-bytes_of j m)) (be-bytes_of k n t l),
      )

  -- and written from what was read
  pair-written : (s : List ℕ) → Bytes s → j + k ≤ length s → bytes_of j (be j s) ++ bytes_of k (be k (drop j s)) ≡ take (j + k) s
  pair-written s b h =
      rw (bytes_of-be j s b (omega arith), bytes_of-be k (drop j s) (bytes_drop j s b) (rw length-drop (omega arith)), take-add j k s)

  pair_put : (d : List ℕ) (at m n : ℕ) → sets (sets d at (bytes_of j m)) (at + j) (bytes_of k n) ≡ sets d at (bytes_of j m ++ bytes_of k n)
  pair_put d at m n = sets-after d at j (bytes_of j m) (bytes_of k n) (length-bytes_of j m)

  -- the same where each is stored by a call of its own
  pub pair_puts : (d mid left : List ℕ) (at m n : ℕ) → mid ≡ sets d at (bytes_of j m) → left ≡ sets mid (at + j) (bytes_of k n)
      → left ≡ sets d at (bytes_of j m ++ bytes_of k n)
  pair_puts d mid left at m n e f = f ∙ ap (λ (x : List ℕ). sets x (at + j) (bytes_of k n)) e ∙ pair_put d at m n

-- what fits a name's two numbers
abbrev pub Holds : Name → Type 0
Holds n = (n.0 < 2 ^ 16) × (n.1 < 2 ^ 64)

pub name-read : (n : Name) (t : List ℕ) → Holds n → name_of (name_bytes n ++ t) ≡ n
name-read n t h = let p = pair_read 2 8 n.0 n.1 t h.0 h.1 in rw (p.0, p.1)

pub name-written : (s : List ℕ) → Bytes s → 10 ≤ length s → name_bytes (name_of s) ≡ take 10 s
name-written s b h = pair-written 2 8 s b h

-- so where the bytes are no more than these
pub name-again : (s : List ℕ) → Bytes s → length s ≡ 10 → name_bytes (name_of s) ≡ s
name-again s b e = name-written s b (omega arith) ∙ take_all 10 s (omega arith)

pub length-name_bytes : (n : Name) → length (name_bytes n) ≡ 10
length-name_bytes n = simp (length-append, length-bytes_of)

abbrev pub UserHolds : User → Type 0
UserHolds u = (u.0 < 2 ^ 16) × (u.1 < 2 ^ 32)

pub user-read : (u : User) (t : List ℕ) → UserHolds u → user_of (user_bytes u ++ t) ≡ u
user-read u t h = let p = pair_read 2 4 u.0 u.1 t h.0 h.1 in rw (p.0, p.1)

pub user-written : (s : List ℕ) → Bytes s → 6 ≤ length s → user_bytes (user_of s) ≡ take 6 s
user-written s b h = pair-written 2 4 s b h

pub user-again : (s : List ℕ) → Bytes s → length s ≡ 6 → user_bytes (user_of s) ≡ s
user-again s b e = user-written s b (omega arith) ∙ take_all 6 s (omega arith)

pub length-user_bytes : (u : User) → length (user_bytes u) ≡ 6
length-user_bytes u = simp (length-append, length-bytes_of)
