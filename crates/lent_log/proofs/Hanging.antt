-- What a log has that hangs together, what makes one so, and what refutes it.
-- Assumes nothing.
use Prim.Native.Nat.{ℕ, ◌-◌, ◌^◌, ◌≤◌, ◌<◌}
use mathlib.Core.List.{List}
use mathlib.Core.Path.{◌≡◌, ◌∙◌}
use mathlib.Core.Logic.{◌⊎◌, inl, inr}
use mathlib.Core.Bool.{true, false, ◌&&◌, and-false}
use borrow.Author.Tests.{le-leb, lt-leb, leb-true}
use lib.ListN.{length}
use lib.Dec.{leb}
use Rattle.wire.proofs.Tests.{both}
use Rattle.blocks.specs.Blocks.{whole, is_whole}
use Rattle.blocks.proofs.Counting.{whole_is}
use Rattle.lent_log.specs.Log.{small, sound, blocks_in, messages_in, hangs}
use Rattle.lent_log.specs.declared.Log.{Log}

module _ (l : Log) (s : List ℕ) where
  pub record Hangs : Type 0 where
    pub count : l.count ≤ 2 ^ 32 - 2
    pub mark : l.used ≤ length s
    pub cuts : blocks_in l s ≡ whole (messages_in l s)
    pub sizes : small (messages_in l s) ≡ true

  pub hanging : hangs l s ≡ true → Hangs
  unfolding hangs
  hanging e =
      let a = leb l.count (2 ^ 32 - 2) in
      let b = leb l.used (length s) in
      let t = both (a && b) (sound (blocks_in l s)) e in
      let f = both a b t.0 in
      let q = both (is_whole (blocks_in l s)) (small (messages_in l s)) t.1 in
      record {
        count = leb-true l.count (2 ^ 32 - 2) f.0;
        mark = leb-true l.used (length s) f.1;
        cuts = whole_is (blocks_in l s) q.0;
        sizes = q.1;
      }

  -- the count of the blocks decides
  pub hangs-if-sound : l.count ≤ 2 ^ 32 - 2 → l.used ≤ length s → hangs l s ≡ sound (blocks_in l s)
  unfolding hangs
  hangs-if-sound h k = rw (le-leb l.count (2 ^ 32 - 2) h, le-leb l.used (length s) k)

  pub hangs-so : l.count ≤ 2 ^ 32 - 2 → l.used ≤ length s → (ms : List (List ℕ)) → blocks_in l s ≡ whole ms → small ms ≡ true
      → hangs l s ≡ true
  hangs-so h k ms e z = hangs-if-sound h k ∙ rw e z

  -- and past those bounds nothing does
  pub out_of_bounds : (2 ^ 32 - 2 < l.count) ⊎ ((l.count ≤ 2 ^ 32 - 2) × (length s < l.used)) → hangs l s ≡ false
  unfolding hangs
  out_of_bounds (inl h) = rw (lt-leb l.count (2 ^ 32 - 2) h)
  out_of_bounds (inr h) = rw (lt-leb l.used (length s) h.1, and-false (leb l.count (2 ^ 32 - 2)))
