use Rattle.record.specs.Record.{hangs}
use Rattle.record.proofs.hangs.hangs_together.Goals as goal

pub returns : goal.returns
unfolding hangs
returns c = rw (← c.is_well_kept.ensures, ← c.is_in_place.ensures)
