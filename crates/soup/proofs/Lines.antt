-- A line is its type byte, its payload and a linefeed; and each part is found in it again.
-- Assumes nothing.
use Prim.Native.Nat.{ℕ, suc, ◌+◌, ◌-◌, ◌≤◌}
use mathlib.Core.Path.{◌≡◌, refl, sym, ap, ◌∙◌}
use mathlib.Core.List.{List, [], ◌∷◌, ◌++◌, append_assoc, append-nil}
use mathlib.Core.Bool.{true, not}
use native.Mathlib.Omega.{arith}
use lib.Dec.{eqb}
use lib.ListN.{length, get_or, take, drop, length-append, length-drop}
use lib.Seq.{take_at, drop_at, get_or_at, take_all, take-suc, take-add, drop-drop, drop-cons, get_or-drop}
use Rattle.soup.specs.Packet.{line}
use Rattle.soup.specs.Read.{last, front, field, payload, unbroken}
use Rattle.wire.proofs.Tests.{and_right}

-- ---- the parts of a line

module _ (kind : ℕ) (s : List ℕ) where
  pub length-line : length (line kind s) ≡ length s + 2
  length-line = simp length-append (omega arith)

  before_last : length (line kind s) - 1 ≡ suc (length s)
  before_last = omega (arith, length-line)

  pub last_line : last (line kind s) ≡ 10
  last_line = rw before_last (get_or_at s 10 [] 0 (length s) refl)

  pub front-line : front (line kind s) ≡ kind ∷ s
  front-line = rw before_last (take_at (kind ∷ s) (10 ∷ []) (suc (length s)) refl)

  pub payload-line : payload (line kind s) ≡ s
  payload-line = let e : length (line kind s) - 2 ≡ length s = omega (arith, length-line) in rw e (take_at s (10 ∷ []) (length s) refl)

-- ---- a line of its parts

snoc : (s : List ℕ) (k : ℕ) → length s ≡ suc k → take k s ++ get_or s k 0 ∷ [] ≡ s
snoc s k l = sym (take-suc s k 0 (omega arith)) ∙ take_all (suc k) s (omega arith)

pub line-whole : (d : List ℕ) → 2 ≤ length d → last d ≡ 10 → line (get_or d 0 0) (payload d) ≡ d
line-whole d h e =
    let k : 1 + (length d - 2) ≡ length d - 1 = omega arith in
    let here : get_or (drop 1 d) (length d - 2) 0 ≡ 10 = rw (get_or-drop, k) e in
    let rest : payload d ++ 10 ∷ [] ≡ drop 1 d = rw (← here) (snoc (drop 1 d) (length d - 2) (rw length-drop (omega arith))) in
    rw rest (sym (drop-cons d 0 0 (omega arith)))

-- a line that ends in a linefeed and begins with none has two bytes or more
pub two_bytes : (d : List ℕ) → last d ≡ 10 → (get_or d 0 0 ≡ 10 → ⊥) → 2 ≤ length d
two_bytes [] e k = absurd (omega arith)
two_bytes (x ∷ []) e k = absurd (k e)
two_bytes (x ∷ y ∷ s) e k = omega arith

pub payload-unbroken : (d : List ℕ) → 2 ≤ length d → last d ≡ 10 → unbroken (front d) ≡ true → unbroken (payload d) ≡ true
unfolding unbroken
payload-unbroken d h e u =
    let k = get_or d 0 0 in
    let f : front d ≡ k ∷ payload d = ap front (sym (line-whole d h e)) ∙ front-line k (payload d) in
    and_right (not (eqb k 10)) (unbroken (payload d)) (rw f at u)

-- ---- fields

-- two fields side by side are one
pub fields_join : (i m n : ℕ) (d : List ℕ) → field i (m + n) d ≡ field i m d ++ field (i + m) n d
fields_join i m n d = take-add m n (drop i d) ∙ ap (λ (t : List ℕ). field i m d ++ take n t) (drop-drop m i d)

-- a field of a line, between what stands before it and what stands behind it
field_in : (kind m n : ℕ) (s a b c : List ℕ) → s ≡ a ++ (b ++ c) → length a ≡ m → length b ≡ n → field (suc m) n (line kind s) ≡ b
field_in kind m n s a b c e A B =
    rw (e, append_assoc a (b ++ c) (10 ∷ []), append_assoc b c (10 ∷ []), drop_at a (b ++ (c ++ 10 ∷ [])) m A)
    (take_at b (c ++ 10 ∷ []) n B)

-- the fields of an `A` and of an `L`, found in its line, whatever they are
pub accept-found : (session number : List ℕ) → length session ≡ 10 → length number ≡ 20 → let d = line 65 (session ++ number) in
    (field 1 10 d ≡ session) × (field 11 20 d ≡ number)
accept-found session number s n =
    let fields = session ++ number in
    (field_in 65 0 10 fields [] session number refl refl s, field_in 65 10 20 fields session number [] (rw append-nil) s n)

pub login-found : (user password session number : List ℕ) → length user ≡ 6 → length password ≡ 10 → length session ≡ 10
    → length number ≡ 20 → let d = line 76 (user ++ password ++ session ++ number) in
    (field 1 6 d ≡ user) × (field 7 10 d ≡ password) × (field 17 10 d ≡ session) × (field 27 20 d ≡ number)
login-found user password session number u p s n =
    let fields = user ++ password ++ session ++ number in
    let two = user ++ password in
    let three = user ++ password ++ session in (
      field_in 76 0 6 fields [] user (password ++ (session ++ number)) (simp append_assoc) refl u,
      field_in 76 6 10 fields user password (session ++ number) (simp append_assoc) u p,
      field_in 76 16 10 fields two session number (append_assoc two session number) (simp length-append (omega arith)) s,
      field_in 76 26 20 fields three number [] (rw append-nil) (simp length-append (omega arith)) n,
    )
