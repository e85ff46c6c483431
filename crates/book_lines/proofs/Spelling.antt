-- One character further in a text: what stands in front and what is still to come spell the same as before.
-- Assumes nothing.
use Rattle.std.proofs.Common.{◌≡◌, ℕ, ◌+◌, ◌*◌, ◌<◌, ◌≤◌, add-one}
use Rattle.std.proofs.Common.{List, ◌++◌, length, slice_index_or, take, drop, append_assoc, append-nil, set, take-suc-set}
use Rattle.std.proofs.Common.{drop_of_length-le, drop-cons, Option, Some, None}
use Rattle.book_lines.specs.Hex.{digit, onto, spelt}

-- the next character of a text
one_more : (high : Option ℕ) (i : ℕ) (text : List ℕ) → i < length text
    → spelt high (drop i text) ≡ onto high (digit (slice_index_or text i 0)) (λ h. spelt h (drop (i + 1) text))
unfolding spelt
one_more high i text h = rw (add-one, drop-cons text i 0)

module _ (i : ℕ) (text : List ℕ) (inside : i < length text) where
  -- it is no digit
  pub skips : (high : Option ℕ) → digit (slice_index_or text i 0) ≡ None → spelt high (drop (i + 1) text) ≡ spelt high (drop i text)
  unfolding onto
  skips high e = rw (one_more high i text inside, e)

  -- it is the first digit of a byte
  pub waits : (low : ℕ) → digit (slice_index_or text i 0) ≡ Some low → spelt (Some low) (drop (i + 1) text) ≡ spelt None (drop i text)
  unfolding onto
  waits low e = rw (one_more None i text inside, e)

  -- it is the second one, and the byte is put
  pub pairs : (count high low : ℕ) (out : List ℕ) → count < length out
      → digit (slice_index_or text i 0) ≡ Some low
      → take (count + 1) (set out count (high * 16 + low)) ++ spelt None (drop (i + 1) text)
      ≡ take count out ++ spelt (Some high) (drop i text)
  unfolding onto
  pairs count high low out room e = rw (one_more (Some high) i text inside, e, add-one, take-suc-set, append_assoc)

-- nothing is still to come
pub no_more : (high : Option ℕ) (i : ℕ) (text front : List ℕ) → length text ≤ i → front ++ spelt high (drop i text) ≡ spelt None text
    → front ≡ spelt None text
unfolding spelt
no_more high i text front h e = rw (drop_of_length-le, append-nil) at e
