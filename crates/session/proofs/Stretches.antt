-- A stretch of a log: what agrees with the log number by number is one, and what stood before it and the stretch are one again.
-- Assumes nothing.
use Prim.Native.Nat.{ℕ, ◌+◌, ◌≤◌, ◌<◌}
use mathlib.Core.Path.{◌≡◌, sym, ap, ◌∙◌}
use mathlib.Core.List.{List, [], ◌++◌}
use lib.ListN.{length, get_or, take, drop}
use lib.Seq.{take-add, get_or-take, get_or-drop, ext_get_or}
use Rattle.wire.proofs.Width.{length_part}

module _ (log : List (List ℕ)) (at : ℕ) (ms : List (List ℕ)) (h : at + length ms ≤ length log)
    (f : (i : ℕ) → i < length ms → get_or ms i [] ≡ get_or log (at + i) []) where
  stretch : ms ≡ take (length ms) (drop at log)
  stretch =
      ext_get_or [] ms (take (length ms) (drop at log)) (sym (length_part at (length ms) log h))
      (λ i l. f i l ∙ sym (get_or-take (length ms) (drop at log) i [] l ∙ get_or-drop at log i []))

  pub joined : take at log ++ ms ≡ take (at + length ms) log
  joined = ap (λ (x : List (List ℕ)). take at log ++ x) stretch ∙ sym (take-add at (length ms) log)
