use Prim.Native.Nat.{◌+◌, ◌-◌, ◌≤◌}
use mathlib.Core.Path.{◌≡◌}
use mathlib.Core.Bool.{false}
use Rattle.std.specs.Prelude.{slice_get}
use Rattle.missing.specs.Missing.{is_held, missing}
use Rattle.missing.specs.Runs.{ranges_from}
use Rattle.missing.proofs.at.Given as goal

abbrev pub invariant-loop : goal.invariant-loop
invariant-loop l =
    (slice_get (missing l.held l.next l.top) l.place
    ≡ slice_get (ranges_from (is_held l.held l.next) l.next (l.top - l.next) l.first) (l.place - l.counter))
    × (l.first ≤ l.top - l.next)
    × (is_held l.held l.next (l.next + l.first) ≡ false)
