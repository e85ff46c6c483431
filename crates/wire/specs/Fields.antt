-- Unsigned numbers on the wire, the most significant byte first, at any width. `Width`: reading undoes writing (`be-bytes_of`), and writing
-- undoes reading (`bytes_of-be`).
-- Assumes nothing.
use Rattle.std.specs.Prelude.{ℕ, zero, suc, ◌+◌, ◌*◌, ◌/◌, ◌%◌, ◌^◌, ◌<◌, List, [], ◌∷◌, get_or, drop}

-- the number that the first k bytes of s spell; a byte that isn't there counts as 0
unfoldable pub be : ℕ → List ℕ → ℕ
be zero s = 0
be (suc k) s = get_or s 0 0 * 2 ^ (8 * k) + be k (drop 1 s)

-- the k bytes that spell n: its top byte, then the bytes of what is left
unfoldable pub bytes_of : ℕ → ℕ → List ℕ
bytes_of zero n = []
bytes_of (suc k) n = n / 2 ^ (8 * k) % 256 ∷ bytes_of k (n % 2 ^ (8 * k))

-- each element of s is a byte
abbrev pub Bytes : List ℕ → Type 0
Bytes s = (i : ℕ) → get_or s i 0 < 256
