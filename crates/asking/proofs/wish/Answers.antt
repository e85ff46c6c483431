use Rattle.std.proofs.Common.{rules}
use Rattle.asking.specs.Asking.{wish}
use Rattle.asking.proofs.wish.Goals.{else-eq-via-then-eq+else-not-late, else-eq-via-else-eq}
use Rattle.asking.proofs.wish.Goals as goal

pub returns-then-lt : goal.returns-then-lt
unfolding wish
returns-then-lt c = search rules

pub returns-then-not-late : goal.returns-then-not-late
unfolding wish
returns-then-not-late c = search rules

pub returns : goal.returns
unfolding wish
returns c =
    rw c.request.ensures
    (elim c.else-eq.branch [ else-eq-via-then-eq+else-not-late w ↦ search rules | else-eq-via-else-eq w ↦ search rules ])
