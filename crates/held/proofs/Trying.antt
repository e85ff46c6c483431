-- A message tried at its slot, told by what stands in its way: nothing, or the first thing that does.
-- Assumes nothing.
use Prim.Native.Nat.{ℕ, ◌+◌, ◌-◌, ◌*◌, ◌≤◌, ◌<◌}
use mathlib.Core.Path.{◌≡◌, refl}
use mathlib.Core.List.{List}
use mathlib.Core.Bool.{true, false}
use native.Mathlib.Omega.{arith}
use borrow.Author.Tests.{le-leb, lt-leb}
use lib.ListN.{length}
use lib.Seq.{sets}
use Rattle.blocks.specs.Blocks.{frame}
use Rattle.held.specs.Slots.{area_size, longest, slot_of, full, filled}
use Rattle.held.specs.Holding.{hold_one, Held}

module _ (next held m : ℕ) (area message : List ℕ) where
  abbrev Leaves : ℕ → List ℕ → Type 0
  Leaves r left = Held (hold_one next (record { held = held; area = area }) m message) r left

  pub not-early : m ≤ next → Leaves held area
  unfolding hold_one
  not-early a = rw (lt-leb (next + 1) m (omega arith)) (record { bitmap = refl; bytes = refl })

  module _ (a : next < m) where
    pub too_far : 31 < m - next → Leaves held area
    unfolding hold_one
    too_far b = rw (le-leb (next + 1) m (omega arith), lt-leb m (next + 31) (omega arith)) (record { bitmap = refl; bytes = refl })

    module _ (b : m - next ≤ 31) where
      pub slot-full : full held m ≡ true → Leaves held area
      unfolding hold_one
      slot-full c = rw (le-leb (next + 1) m (omega arith), le-leb m (next + 31) (omega arith), c) (record { bitmap = refl; bytes = refl })

      module _ (c : full held m ≡ false) where
        pub too_long : longest < length message → Leaves held area
        unfolding hold_one
        too_long d = rw (le-leb (next + 1) m (omega arith), le-leb m (next + 31) (omega arith), c, lt-leb (length message) longest d)
            (record { bitmap = refl; bytes = refl })

        module _ (d : length message ≤ longest) where
          pub no-slots : length area < area_size → Leaves held area
          unfolding hold_one
          no-slots e = rw (
            le-leb (next + 1) m (omega arith),
            le-leb m (next + 31) (omega arith),
            c,
            le-leb (length message) longest d,
            lt-leb area_size (length area) e,
          ) (record { bitmap = refl; bytes = refl })

          pub lies-there : area_size ≤ length area → Leaves (filled held (slot_of m)) (sets area (1472 * slot_of m) (frame message))
          unfolding hold_one
          lies-there e = rw (
            le-leb (next + 1) m (omega arith),
            le-leb m (next + 31) (omega arith),
            c,
            le-leb (length message) longest d,
            le-leb area_size (length area) e,
          ) (record { bitmap = refl; bytes = refl })
