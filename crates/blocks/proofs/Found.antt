-- What is known of a block that was found: where it begins and ends, and that its bytes are the message there.
-- Assumes nothing.
use Prim.Native.Nat.{ℕ, ◌+◌, ◌-◌, ◌≤◌}
use mathlib.Core.List.{List}
use mathlib.Core.Path.{◌≡◌, refl, sym, ◌∙◌}
use native.Mathlib.Omega.{arith}
use lib.ListN.{length, take, drop}
use lib.Seq.{drop-drop}
use Rattle.wire.proofs.Width.{length_part}
use Rattle.blocks.specs.Blocks.{stated, first, end_at, block_at}
use Rattle.wire.specs.Checks.{taken}
use Rattle.blocks.specs.declared.Block.{Block}
use Rattle.blocks.proofs.NextBlock.{found}

module _ (s : List ℕ) (p : ℕ) (b : Block) where
  -- its own bytes
  abbrev pub own : List ℕ
  own = take (b.next - b.start) (drop b.start s)

  pub record Found : Type 0 where
    pub begins : b.start ≡ p + 2
    pub states : b.length ≡ stated (drop p s)
    pub ends : b.next ≡ end_at s p
    pub inside : b.next ≤ length s
    pub long : length own ≡ b.length
    pub same : own ≡ first (drop p s)

  pub finds : block_at s p ≡ taken b → Found
  finds e =
      let f = found s p b e in
      let t : b.next - b.start ≡ stated (drop p s) = omega arith in
      record {
        begins = f.begins;
        states = f.states;
        ends = f.ends;
        inside = omega arith;
        long = length_part b.start (b.next - b.start) s (omega arith) ∙ t ∙ sym f.states;
        same = rw (t, f.begins, drop-drop) refl;
      }
