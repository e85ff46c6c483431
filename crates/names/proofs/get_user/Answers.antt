use lib.Seq.{drop-drop}
use Rattle.names.proofs.get_user.Goals as goal

pub returns : goal.returns
returns c =
    let a = c.args in
    rw (drop-drop 2 a.at a.s.now, ← c.get2.ensures, ← c.get4.ensures)
