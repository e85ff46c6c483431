-- Whether one message is held: N's own is not, none past N+31 is, and none at all under an empty bitmap.
-- Assumes nothing.
use Prim.Native.Nat.{ℕ, ◌+◌, ◌≤◌, ◌<◌}
use mathlib.Core.Path.{◌≡◌}
use mathlib.Core.Bool.{true, false, ◌&&◌, and-false}
use native.Mathlib.Omega.{arith}
use borrow.Author.Tests.{lt-leb, leb-true}
use lib.Dec.{leb}
use Rattle.wire.proofs.Tests.{and_left, and_right}
use Rattle.held.specs.Slots.{slot_of, full}
use Rattle.held.proofs.Bitmap.{none-full}
use Rattle.missing.specs.Missing.{is_held}

module _ (held next m : ℕ) where
  pub held-within : is_held held next m ≡ true → (next < m) × (m ≤ next + 31)
  held-within e =
      let near = and_left (leb (next + 1) m && leb m (next + 31)) (full held m) e in
      let a = leb-true (next + 1) m (and_left (leb (next + 1) m) (leb m (next + 31)) near) in
      let b = leb-true m (next + 31) (and_right (leb (next + 1) m) (leb m (next + 31)) near) in
      (omega arith, b)

  -- N itself is not held, nor what was before it
  pub none_before : m ≤ next → is_held held next m ≡ false
  none_before h = rw (lt-leb (next + 1) m (omega arith))

  pub none-beyond : next + 31 < m → is_held held next m ≡ false
  none-beyond h = rw (lt-leb m (next + 31) h, and-false (leb (next + 1) m))

pub none-held : (next m : ℕ) → is_held 0 next m ≡ false
none-held next m = rw (none-full (slot_of m), and-false (leb (next + 1) m && leb m (next + 31)))
