use Rattle.std.proofs.Common.{ℕ, List, ◌∙◌, ap, take, drop, ◌-◌}
use Rattle.wire.proofs.Eight.{is-stored}
use Rattle.wire.proofs.fields.put.Goals as goal

pub returns : goal.returns
returns g c =
    let a = c.args in
    is-stored g.row.N c.requires.0 a.d.now _ a.at a.n c.requires.1 c.ranges.n.fits c.requires.2
    (c.copy_from_slice.ensures.after ∙ ap (λ (b : List ℕ). take (8 - (8 - g.row.N)) (drop (8 - g.row.N) b)) c.to_be_bytes-bytes.ensures)
