-- The table of the powers of ten: its rule, by computing the whole table once.
-- Assumes nothing.
use Rattle.std.proofs.Common.{◌≡◌, ℕ, zero, suc, ◌+◌, ◌^◌, ◌<◌, List, [], ◌∷◌, get_or, sym, ap, ◌∙◌, le_of_suc-le-suc, not-suc-le-zero}
use Rattle.std.proofs.Common.{add-zero, add-suc, suc-add, zero-add}

-- n powers of ten, from the one of place i on
abbrev pub powers : ℕ → ℕ → List ℕ
powers zero i = []
powers (suc n) i = 10 ^ i ∷ powers n (suc i)

from : (n i k : ℕ) → k < n → get_or (powers n i) k 0 ≡ 10 ^ (i + k)
from zero i k h = absurd (not-suc-le-zero h)
from (suc n) i zero h = ap (λ (m : ℕ). 10 ^ m) (sym (add-zero i))
from (suc n) i (suc k) h =
    from n (suc i) k (le_of_suc-le-suc h) ∙ ap (λ (m : ℕ). 10 ^ m) (suc-add i k ∙ sym (add-suc i k))

-- a table that computes to the first n powers of ten has the power of ten of each place
pub power_at : (n k : ℕ) → k < n → get_or (powers n 0) k 0 ≡ 10 ^ k
power_at n k h = from n 0 k h ∙ ap (λ (m : ℕ). 10 ^ m) (zero-add k)
