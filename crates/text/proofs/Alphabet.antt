-- A letter or digit is one of the sixty-two, written out.
-- Assumes nothing.
use Prim.Native.Nat.{ℕ, zero, suc, ◌+◌, ◌≤◌, ◌<◌}
use mathlib.Core.Path.{◌≡◌, refl}
use mathlib.Core.Bool.{true, ◌&&◌, ◌||◌}
use mathlib.Core.List.Memᴰ
use mathlib.Core.List.{List, [], ◌∷◌, ◌++◌, Memᴰ}
use mathlib.Core.Logic.{◌⊎◌, inl, inr, ◌↔◌}
use native.Mathlib.Omega.{arith}
use borrow.Author.Tests.{le-leb, lt-leb, leb-true, leb-false}
use lib.Dec.{leb}
use Rattle.wire.specs.Fields.{bytes_of}
use Rattle.wire.specs.Checks.{◌at_most◌}
use Rattle.wire.proofs.Tests.{by-test, both, either}
use Rattle.text.specs.Text.{letter_or_digit}

-- 0123456789ABCDEFGHIJKLMNOPQRSTUVWXYZabcdefghijklmnopqrstuvwxyz
abbrev pub alphabet : List ℕ
alphabet =
    bytes_of 62
    0x30313233343536373839_4142434445464748494A4B4C4D4E4F505152535455565758595A_6162636465666768696A6B6C6D6E6F707172737475767778797A

-- n numbers, from m on
abbrev run : ℕ → ℕ → List ℕ
run m zero = []
run m (suc n) = m ∷ run (suc m) n

runs : alphabet ≡ run 48 10 ++ (run 65 26 ++ run 97 26)
unfolding bytes_of
runs = refl

-- what lies between the first and the last of a run stands in it, and nothing else does
in-run : (b m n : ℕ) → m ≤ b → b < m + n → Memᴰ b (run m n)
in-run b m zero l h = absurd (omega arith)
in-run b m (suc n) l h =
    by-test (leb b m)
    (λ p. let e = leb-true b m p in Memᴰ.head (omega arith))
    (λ p. let e = leb-false b m p in Memᴰ.tail (in-run b (suc m) n e (omega arith)))

run_in : (b m n : ℕ) → Memᴰ b (run m n) → (m ≤ b) × (b < m + n)
run_in b m zero k = absurd (Memᴰ.not-nil k)
run_in b m (suc n) k = by (λ (t : Memᴰ b (run (suc m) n)). run_in b (suc m) n t) (Memᴰ.cases_cons k) where
  by : (Memᴰ b (run (suc m) n) → (suc m ≤ b) × (b < suc m + n)) → (b ≡ m) ⊎ Memᴰ b (run (suc m) n) → (m ≤ b) × (b < m + suc n)
  by rest (inl e) = (omega arith, omega arith)
  by rest (inr t) = let h = rest t in (omega arith, omega arith)

between : (m b n : ℕ) → m at_most b && b at_most n ≡ true → (m ≤ b) × (b ≤ n)
between m b n e = let p = both (m at_most b) (b at_most n) e in (leb-true m b p.0, leb-true b n p.1)

stands : (b : ℕ) → letter_or_digit b ≡ true → Memᴰ b alphabet
unfolding letter_or_digit
stands b e = rw runs (by (either (48 at_most b && b at_most 57 || 65 at_most b && b at_most 90) (97 at_most b && b at_most 122) e)) where
  digit-or-capital : (48 at_most b && b at_most 57 ≡ true) ⊎ (65 at_most b && b at_most 90 ≡ true)
      → Memᴰ b (run 48 10 ++ (run 65 26 ++ run 97 26))
  digit-or-capital (inl p) = let k = between 48 b 57 p in Memᴰ.append_left (run 65 26 ++ run 97 26) (in-run b 48 10 k.0 (omega arith))
  digit-or-capital (inr p) = let k = between 65 b 90 p in
      Memᴰ.append_right (run 48 10) (Memᴰ.append_left (run 97 26) (in-run b 65 26 k.0 (omega arith)))

  by : (48 at_most b && b at_most 57 || 65 at_most b && b at_most 90 ≡ true) ⊎ (97 at_most b && b at_most 122 ≡ true)
      → Memᴰ b (run 48 10 ++ (run 65 26 ++ run 97 26))
  by (inl p) = digit-or-capital (either (48 at_most b && b at_most 57) (65 at_most b && b at_most 90) p)
  by (inr p) = let k = between 97 b 122 p in
      Memᴰ.append_right (run 48 10) (Memᴰ.append_right (run 65 26) (in-run b 97 26 k.0 (omega arith)))

is_one : (b : ℕ) → Memᴰ b (run 48 10 ++ (run 65 26 ++ run 97 26)) → letter_or_digit b ≡ true
unfolding letter_or_digit
is_one b m = by (Memᴰ.append_cases (run 48 10) m) where
  letter : Memᴰ b (run 65 26) ⊎ Memᴰ b (run 97 26) → letter_or_digit b ≡ true
  letter (inl k) = let h = run_in b 65 26 k in
      rw (le-leb 48 b (omega arith), lt-leb b 57 (omega arith), le-leb 65 b (omega arith), le-leb b 90 (omega arith))
  letter (inr k) = let h = run_in b 97 26 k in
      rw (
        le-leb 48 b (omega arith),
        lt-leb b 57 (omega arith),
        le-leb 65 b (omega arith),
        lt-leb b 90 (omega arith),
        le-leb 97 b (omega arith),
        le-leb b 122 (omega arith),
      )

  by : Memᴰ b (run 48 10) ⊎ Memᴰ b (run 65 26 ++ run 97 26) → letter_or_digit b ≡ true
  by (inl k) = let h = run_in b 48 10 k in rw (le-leb 48 b (omega arith), le-leb b 57 (omega arith))
  by (inr k) = letter (Memᴰ.append_cases (run 65 26) k)

-- A byte is a letter or digit exactly if it is one of them.
pub one-of-the-62 : (b : ℕ) → (letter_or_digit b ≡ true) ↔ Memᴰ b alphabet
one-of-the-62 b = (stands b, λ m. is_one b (rw runs at m))
