-- Bytes and their parts; and fields, which obey one law at every width: a field of j + k bytes is its first j bytes and then its last k.
-- Assumes nothing.
use Prim.Native.Nat.{ℕ, zero, suc, ◌+◌, ◌*◌, ◌/◌, ◌%◌, ◌^◌, ◌≤◌, ◌<◌}
use mathlib.Core.Path.{◌≡◌, refl, ap, sym, ◌∙◌}
use mathlib.Core.List.{List, [], ◌∷◌, ◌++◌, append-nil}
use native.Mathlib.Nat.{mod-eq_of_lt, mod-lt, le_of_suc-le-suc, not-suc-le-zero, zero-add, add-zero, suc-add, add-suc, add_comm, mul-add}
use native.Mathlib.Numerals.{one-add}
use native.Mathlib.Omega.{arith}
use lib.Arith.{digits_lt, digits_div, digits_mod, mod-mul}
use lib.Pow.{pow-add, pow_pos, field, mod-mod-pow, shr-shr}
use lib.ListN.{length, get_or, take, drop, set, length-drop, take-append-drop}
use lib.Seq.{get_or-drop, drop-drop, sets, take_all, length-take-le}
use Rattle.wire.specs.Fields.{be, bytes_of, Bytes}

-- one more byte is a factor of 256
pow-byte : (k : ℕ) → 2 ^ (8 * suc k) ≡ 256 * 2 ^ (8 * k)
pow-byte k = ap (λ (n : ℕ). 2 ^ n) (more k) ∙ pow-add 2 8 (8 * k) where
  more : (k : ℕ) → 8 * suc k ≡ 8 + 8 * k
  more k = omega arith

-- bytes taken from bytes are bytes
pub bytes_drop : (n : ℕ) (s : List ℕ) → Bytes s → Bytes (drop n s)
bytes_drop n s b i = rw get_or-drop (b (n + i))

pub bytes-tail : (x : ℕ) (s : List ℕ) → Bytes (x ∷ s) → Bytes s
bytes-tail x s b i = b (suc i)

pub bytes_take : (n : ℕ) (s : List ℕ) → Bytes s → Bytes (take n s)
bytes_take zero s b i = omega arith
bytes_take (suc n) [] b i = omega arith
bytes_take (suc n) (x ∷ s) b zero = b 0
bytes_take (suc n) (x ∷ s) b (suc i) = bytes_take n s (bytes-tail x s b) i

-- and so are bytes after bytes
pub bytes-cons : (x : ℕ) (s : List ℕ) → x < 256 → Bytes s → Bytes (x ∷ s)
bytes-cons x s h b zero = h
bytes-cons x s h b (suc i) = b i

pub bytes-append : (a b : List ℕ) → Bytes a → Bytes b → Bytes (a ++ b)
bytes-append [] b p q = q
bytes-append (x ∷ a) b p q = bytes-cons x (a ++ b) (p 0) (bytes-append a b (bytes-tail x a p) q)

-- a part that lies inside, and the same before what follows it
pub length_part : {A : Type 0} (i n : ℕ) (s : List A) → i + n ≤ length s → length (take n (drop i s)) ≡ n
length_part i n s h = length-take-le n (drop i s) (rw length-drop (omega arith))

pub part-again : {A : Type 0} (i n : ℕ) (s : List A) → take n (drop i s) ++ drop (i + n) s ≡ drop i s
part-again i n s = rw (← drop-drop n i s) (take-append-drop n (drop i s))

-- a first byte that is not 0, before what follows it
pub first-again : (n : ℕ) (s : List ℕ) → 0 < n → get_or s 0 0 ≡ n → n ∷ drop 1 s ≡ s
first-again n [] h e = absurd (omega arith)
first-again n (x ∷ s) h e = ap (λ (y : ℕ). y ∷ s) (sym e)

-- bound: k bytes spell less than 2 ^ (8 * k)
pub be-lt : (k : ℕ) (s : List ℕ) → Bytes s → be k s < 2 ^ (8 * k)
unfolding be
be-lt zero s b = omega arith
be-lt (suc k) s b = rw pow-byte (digits_lt (b 0) (be-lt k (drop 1 s) (bytes_drop 1 s b)))

-- length: a number of k bytes has k bytes
pub length-bytes_of : (k n : ℕ) → length (bytes_of k n) ≡ k
unfolding bytes_of
length-bytes_of zero n = refl
length-bytes_of (suc k) n = ap suc (length-bytes_of k (n % 2 ^ (8 * k)))

-- and they are bytes
pub bytes-bytes_of : (k n : ℕ) → Bytes (bytes_of k n)
unfolding bytes_of
bytes-bytes_of zero n i = omega arith
bytes-bytes_of (suc k) n zero = mod-lt (n / 2 ^ (8 * k)) (omega arith)
bytes-bytes_of (suc k) n (suc i) = bytes-bytes_of k (n % 2 ^ (8 * k)) i

-- reading what was written, whatever follows
pub be-bytes_of : (k n : ℕ) (t : List ℕ) → n < 2 ^ (8 * k) → be k (bytes_of k n ++ t) ≡ n
unfolding be bytes_of
be-bytes_of zero n t h = omega arith
be-bytes_of (suc k) n t h =
    rw (be-bytes_of k (n % 2 ^ (8 * k)) t (mod-lt n (pow_pos (8 * k))))
    (sym (mod-mul n {m = 256} {c = 2 ^ (8 * k)} (omega arith) (pow_pos (8 * k))) ∙ mod-eq_of_lt (rw pow-byte at h))

-- the same where nothing follows
pub be-last : (k n : ℕ) → n < 2 ^ (8 * k) → be k (bytes_of k n) ≡ n
be-last k n h = rw append-nil at (be-bytes_of k n [] h)

-- writing what was read
pub bytes_of-be : (k : ℕ) (s : List ℕ) → Bytes s → k ≤ length s → bytes_of k (be k s) ≡ take k s
unfolding be bytes_of
bytes_of-be zero s b h = refl
bytes_of-be (suc k) [] b h = absurd (not-suc-le-zero h)
bytes_of-be (suc k) (x ∷ s) b h =
    let t = bytes-tail x s b in
    let l = be-lt k s t in
    simp (digits_div x l, digits_mod x l, mod-eq_of_lt (b 0), bytes_of-be k s t (le_of_suc-le-suc h))

-- a field read at a place and written again, before what follows it
pub written-again : (k i : ℕ) (d : List ℕ) → Bytes d → i + k ≤ length d → bytes_of k (be k (drop i d)) ++ drop (i + k) d ≡ drop i d
written-again k i d b h =
    rw (bytes_of-be k (drop i d) (bytes_drop i d b) (rw length-drop (omega arith))) (part-again i k d)

-- the same at the very end
pub written_last : (k i : ℕ) (d : List ℕ) → Bytes d → length d ≡ i + k → bytes_of k (be k (drop i d)) ≡ drop i d
written_last k i d b h =
    rw (bytes_of-be k (drop i d) (bytes_drop i d b) (rw length-drop (omega arith)))
    (take_all k (drop i d) (rw length-drop (omega arith)))

-- splitting a field that is read
pub be-add : (j k : ℕ) (s : List ℕ) → be (j + k) s ≡ be j s * 2 ^ (8 * k) + be k (drop j s)
unfolding be
be-add zero k s = simp zero-add (omega arith)
be-add (suc j) k s =
    simp (suc-add, be-add j k (drop 1 s), drop-drop, one-add, mul-add, pow-add) (omega arith)

-- splitting a field that is written
pub bytes_of-add : (j k n : ℕ) → n < 2 ^ (8 * (j + k)) → bytes_of (j + k) n ≡ bytes_of j (n / 2 ^ (8 * k)) ++ bytes_of k (n % 2 ^ (8 * k))
unfolding bytes_of
bytes_of-add zero k n h = rw (zero-add k, mod-eq_of_lt (rw zero-add at h))
bytes_of-add (suc j) k n h =
    rw (suc-add, bytes_of-add j k (n % 2 ^ (8 * (j + k))) (mod-lt n (pow_pos (8 * (j + k)))))
    (simp (mul-add, field, mod-mod-pow) (rw (add_comm (8 * j) (8 * k), shr-shr n (8 * k) (8 * j))))

-- bytes stored after bytes are stored as one
pub sets-append : {A : Type 0} (d : List A) (at : ℕ) (a b : List A) → sets (sets d at a) (at + length a) b ≡ sets d at (a ++ b)
sets-append d at [] b = rw add-zero
sets-append d at (x ∷ a) b =
    rw (add-suc at (length a), ← suc-add at (length a)) (sets-append (set d at x) (suc at) a b)

-- the same by their number
pub sets-after : {A : Type 0} (d : List A) (at n : ℕ) (a b : List A) → length a ≡ n → sets (sets d at a) (at + n) b ≡ sets d at (a ++ b)
sets-after d at n a b e = rw (← e) (sets-append d at a b)

-- two bytes at a place
pub be-two : (s : List ℕ) (at : ℕ) → be 2 (drop at s) ≡ get_or s at 0 * 256 + get_or s (at + 1) 0
unfolding be
be-two s at =
    rw (get_or-drop 1 (drop at s) 0, get_or-drop at s 0, get_or-drop at s (1 + 0), add-zero at) (omega arith)
