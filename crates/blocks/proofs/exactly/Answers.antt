use mathlib.Core.Path.{sym, ◌∙◌}
use Rattle.blocks.specs.Blocks.{place_after}
use Rattle.blocks.proofs.Filling.{is-the-end, fills-by-place}
use Rattle.blocks.proofs.exactly.Goals as goal

pub returns : goal.returns
returns c =
    let a = c.args in
    rw c.skip.ensures at c.eq.ensures ∙ is-the-end a.s.now _ (place_after a.count a.s.now a.place)
    ∙ sym (fills-by-place a.count a.s.now a.place)
