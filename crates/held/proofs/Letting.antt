-- What is let go, told of the definition: nothing where nothing is held, or the messages of the run.
-- Assumes nothing.
use Prim.Native.Nat.{ℕ, ◌+◌, ◌≤◌}
use mathlib.Core.Path.{◌≡◌, refl}
use mathlib.Core.List.{List, []}
use mathlib.Core.Bool.{true}
use native.Mathlib.Omega.{arith}
use borrow.Author.Tests.{le-leb}
use lib.ListN.{length}
use lib.Seq.{sets}
use Rattle.blocks.specs.Blocks.{frames}
use Rattle.held.specs.Slots.{slot_of}
use Rattle.held.specs.Hanging.{sound}
use Rattle.held.specs.Releasing.{run, held_from, released, releasing, Settled}
use Rattle.held.proofs.Bitmap.{none-full}
use Rattle.held.proofs.Releases.{length-held, released-none}
use Rattle.wire.specs.Checks.{taken}

module _ (held : ℕ) (area : List ℕ) (m at : ℕ) (out : List ℕ) where
  -- nothing is held
  pub nothing-goes : sound held area ≡ true → held ≡ 0 → at ≤ length out
      → Settled (releasing held area m at (length out)) at out (taken (record { messages = 0; bytes = 0 })) out
  unfolding frames
  nothing-goes e z h =
      let none : released held area m ≡ [] = released-none held area m (rw z (none-full (slot_of m))) in
      rw (e, none, le-leb (at + 0) (length out) (omega arith)) (record { answer = refl; bytes = refl })

  module _ (e : sound held area ≡ true) (k : ℕ) (q : k ≡ run 31 held m) where
    pub lets_go : (bytes : ℕ) (left : List ℕ) → bytes ≡ length (frames (held_from k area m)) → at + bytes ≤ length out
        → left ≡ sets out at (frames (held_from k area m))
        → Settled (releasing held area m at (length out)) at out (taken (record { messages = k; bytes = bytes })) left
    lets_go bytes left b h l =
        rw (e, le-leb (at + length (frames (released held area m))) (length out) (rw (b, q) at h), b, l, q)
        (record { answer = rw (length-held (run 31 held m) area m); bytes = refl })
