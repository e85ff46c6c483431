use mathlib.Core.Path.{sym, ◌∙◌}
use Rattle.held.proofs.Bits.{set-fits}
use Rattle.held.proofs.Bitmap.{power}
use Rattle.held.proofs.slots.fill.Goals as goal

pub overflow_add-result : goal.overflow_add-result
overflow_add-result c =
    let a = c.args in
    let free = sym c.is_full.ensures ∙ c.if-is_full.false in
    rw (power a.slot c.requires) (record { fits = set-fits 32 a.slot a.held c.ranges.held.fits c.requires free })
