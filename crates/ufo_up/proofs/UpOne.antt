-- What the reader says of a packet that holds one message alone: over the limit, or what it says of the message.
-- Assumes nothing.
use Prim.Native.Nat.{ℕ, ◌+◌, ◌<◌}
use mathlib.Core.List.{List, [], ◌∷◌}
use mathlib.Core.Path.{◌≡◌}
use native.Mathlib.Omega.{arith}
use borrow.Author.Tests.{ne_eqb, leb-true}
use lib.Dec.{leb}
use lib.ListN.{length}
use Rattle.wire.specs.Checks.{◌at_most◌, taken, ◌else◌, checked, ◌into◌}
use Rattle.wire.specs.Datagram.{limit}
use Rattle.wire.specs.declared.refusal.Refusal.TheVariants.{Overlong}
use Rattle.wire.proofs.Tests.{by-test}
use Rattle.blocks.specs.Blocks.{frame, whole, upstream}
use Rattle.blocks.proofs.Frames.{length-frame, frames-one}
use Rattle.blocks.proofs.Cutting.{upstream-frames}
use Rattle.ufo_up.specs.Up.{read_message, read_each, read_up}

pub read_one : (m : List ℕ) → 0 < length m
    → read_up (frame m) ≡ checked ((2 + length m at_most limit else Overlong) ∷ []) (read_message m into λ x. taken (x ∷ []))
unfolding read_up read_each
read_one m h =
    let some = ne_eqb (2 + length m) 0 (λ z. omega arith) in
    by-test (leb (2 + length m) limit)
    (λ q.
    let l = leb-true (2 + length m) limit q in
    let u : upstream (frame m) ≡ whole (m ∷ []) = rw (frames-one m) at (upstream-frames (m ∷ []) (omega arith) (omega arith, tt) (h, tt)) in
    rw (u, length-frame m, some, q))
    (λ q. rw (length-frame m, some, q))
