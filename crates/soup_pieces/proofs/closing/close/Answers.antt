use mathlib.Core.Path.{sym, ◌∙◌}
use Rattle.soup_pieces.proofs.Closes.{closed-taken, closed-refused}
use Rattle.soup_pieces.proofs.closing.close.Goals as goal

pub returns-in-Ok : goal.returns-in-Ok
returns-in-Ok c =
    rw c.empty.ensures (closed-taken c.args.line.now c.args.next.0 c.args.place c.in-Ok.judged (sym c.judge.ensures ∙ c.in-Ok.is))

pub returns-in-Err : goal.returns-in-Err
returns-in-Err c =
    rw c.empty-in-Err.ensures
    (closed-refused c.args.line.now c.args.next.0 c.args.place c.in-Err.why (sym c.judge.ensures ∙ c.in-Err.is))
