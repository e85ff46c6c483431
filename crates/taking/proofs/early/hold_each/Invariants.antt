use Prim.Native.Nat.{◌+◌, ◌-◌, ◌≤◌}
use mathlib.Core.Path.{◌≡◌}
use mathlib.Core.Bool.{true}
use lib.ListN.{length}
use Rattle.blocks.specs.Blocks.{fills}
use Rattle.held.specs.Holding.{hold_all}
use Rattle.reports.specs.Reports.{blocks_from}
use Rattle.taking.proofs.early.hold_each.Given as goal

abbrev pub invariant-loop-k : goal.invariant-loop-k
invariant-loop-k l =
    let b = l.batch in
    let d = b.datagram.now in
    (l.k ≤ b.count) × (length l.area ≡ length l.initial.area) × (fills d l.at (b.count - l.k) ≡ true)
    × (hold_all l.next (record { held = l.held; area = l.initial.area }) b.first (blocks_from d b.place b.count)
    ≡ hold_all l.next (record { held = l.kept; area = l.area }) (b.first + l.k) (blocks_from d l.at (b.count - l.k)))
