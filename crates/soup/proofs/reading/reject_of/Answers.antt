use Rattle.soup.specs.Read.{reject_of}
use Rattle.soup.proofs.reading.reject_of.Goals as goal

pub returns-then-reason : goal.returns-then-reason
unfolding reject_of
returns-then-reason c = rw c.if-reason.true

pub returns-else-reason : goal.returns-else-reason
unfolding reject_of
returns-else-reason c = rw c.if-reason.false
