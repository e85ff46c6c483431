-- What characters are read as: spaces alone are no number, and without a leading zero a number is read of the characters that it is
-- written with and of no others.
-- Assumes nothing.
use Rattle.std.proofs.Common.{◌≡◌, ℕ, ◌-◌, ◌^◌, ◌<◌, true, false, ◌&&◌, Result, Ok, Err, List, length, arith, eqb-true, le-leb}
use Rattle.wire.specs.Checks.{◌is◌, ◌at_most◌}
use Rattle.wire.proofs.Tests.{by-test, both, impossible}
use Rattle.text.specs.Text.{blank}
use Rattle.decimal.specs.Decimal.{well_formed, value_of, written, leading_zero, number_of}
use Rattle.decimal.specs.declared.Fault.{Fault}
use Rattle.decimal.specs.declared.Fault.TheVariants.{Misshapen, Blank, Over}
use Rattle.decimal.proofs.Written.{length-written, read-written, written_read}

abbrev Read : Result ℕ Fault → Result ℕ Fault → Type 0
Read a b = a ≡ b

-- Spaces alone are never a number, and so never 0.
pub blank-is-none : (s : List ℕ) (n : ℕ) → blank s ≡ true → number_of s ≡ Ok n → ⊥
unfolding number_of
blank-is-none s n b e =
    by-test (length s is 20 && well_formed s)
    (λ t. let q : Read (Err Blank) (Ok n) = rw (t, b) at e in impossible cc)
    (λ t. let q : Read (Err Misshapen) (Ok n) = rw t at e in impossible cc)

-- Reading what was written gives the number again.
pub written-reads-back : (n : ℕ) → n < 2 ^ 64 → number_of (written n) ≡ Ok n
unfolding number_of
written-reads-back n h =
    let r = read-written n h in
    rw (length-written n, r.formed, r.filled, r.value, le-leb n (2 ^ 64 - 1) (omega arith))

-- And without a leading zero a number was read of the very characters that it is written with.
pub reads-no-other : (s : List ℕ) (n : ℕ) → number_of s ≡ Ok n → leading_zero s ≡ false → written n ≡ s
unfolding number_of
reads-no-other s n e z =
    by-test (length s is 20 && well_formed s)
    (λ t.
    by-test (blank s)
    (λ u. let q : Read (Err Blank) (Ok n) = rw (t, u) at e in impossible cc)
    (λ u.
    by-test (value_of s at_most 2 ^ 64 - 1)
    (λ v.
    let q : Read (Ok (value_of s)) (Ok n) = rw (t, u, v) at e in
    let m : value_of s ≡ n = cc in
    let f = both (length s is 20) (well_formed s) t in
    rw (← m) (written_read s (eqb-true (length s) 20 f.0) f.1 u z))
    (λ v. let q : Read (Err Over) (Ok n) = rw (t, u, v) at e in impossible cc)))
    (λ t. let q : Read (Err Misshapen) (Ok n) = rw t at e in impossible cc)
