use Rattle.std.proofs.Common.{◌∙◌, drop}
use Rattle.wire.proofs.Eight.{is-read}
use Rattle.wire.proofs.Width.{be-lt, bytes_drop}
use Rattle.wire.proofs.fields.get.Goals as goal

pub returns : goal.returns
returns g c =
    let a = c.args in
    let e = c.from_be_bytes.ensures ∙ is-read g.row.N c.requires.0 a.s.now _ a.at c.requires.1 c.copy_from_slice.ensures.after in
    (e, rw e (be-lt g.row.N (drop a.at a.s.now) (bytes_drop a.at a.s.now (λ i. (c.type_inv.s i).fits))))
