use Rattle.record.specs.Standing.{range_at}
use Rattle.record.proofs.standing.missing_range.Goals as goal

pub returns-then-hangs_together : goal.returns-then-hangs_together
unfolding range_at
returns-then-hangs_together c = rw (← c.hangs_together.ensures, c.if-hangs_together.true, c.at.ensures)

pub returns-else-hangs_together : goal.returns-else-hangs_together
unfolding range_at
returns-else-hangs_together c = rw (← c.hangs_together.ensures, c.if-hangs_together.false)
