-- What a batch knows of itself: its blocks fill its datagram from its place on.
-- Assumes nothing.
use Rattle.reports.specs.Reports.{Fills}
use Rattle.taking.specs.declared.batch.Batch.{Batch}

pub brings : (b : Batch) → Fills b.datagram.now b.place b.first b.count
brings b = record { blocks = b.filled; some = b.some; bound = b.bound }
