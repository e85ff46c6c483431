use Rattle.std.proofs.Common.{◌-◌, ◌≡◌, ◌+◌, ◌≤◌}
use Rattle.soup_pieces.specs.Searching.{index_of, slice}
use Rattle.soup_pieces.proofs.searching.find.Given as goal

-- what is left to look at has its first place where the whole has it
abbrev pub invariant-loop-at : goal.invariant-loop-at
invariant-loop-at l =
    (l.from ≤ l.at) × (l.at ≤ l.to) × (l.at + index_of l.byte (slice l.at l.to l.s) ≡ l.from + index_of l.byte (slice l.from l.to l.s))

abbrev pub decreases-loop-at : goal.decreases-loop-at
decreases-loop-at l = l.to - l.at
