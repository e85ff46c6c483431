-- Blocks that a program visits one after the other by hp_next_block are the messages that they are cut into.
-- Assumes nothing.
use Prim.Native.Nat.{ℕ, zero, suc}
use mathlib.Core.Path.{◌≡◌, refl}
use mathlib.Core.List.{List, ◌∷◌}
use lib.ListN.{drop}
use lib.Seq.{drop-drop}
use Rattle.blocks.specs.Blocks.{first, whole, cut, end_at}
use Rattle.blocks.proofs.NextBlock.{block-fits}
use Rattle.blocks.proofs.Skipping.{none-at, stepped-at}
use Rattle.flat_session.specs.Face.{LeavesVisited}

pub visited-left : (n : ℕ) (blocks : List ℕ) (place : ℕ) (ms : List (List ℕ)) → cut n (drop place blocks) ≡ whole ms
    → (left : List (List ℕ) → Type 0) → left ms → LeavesVisited blocks n place left
visited-left zero blocks place ms c left l = rw (none-at blocks place ms c).0 at l
visited-left (suc n) blocks place ms c left l =
    let at = stepped-at n blocks place ms c in
    let here = block-fits blocks place _ _ refl refl at.inside in
    λ κs a x e g p.
    rw (p, g.0, g.1, here, ← drop-drop 2 place blocks)
    (visited-left n blocks (end_at blocks place) at.others at.cuts (λ more. left (first (drop place blocks) ∷ more))
    (rw at.are at l))
