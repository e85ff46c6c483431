use mathlib.Core.Path.{sym}
use borrow.Author.Tests.{le-leb, lt-leb}
use lib.ListN.{length}
use Rattle.held.specs.Slots.{area_size}
use Rattle.held.specs.Hanging.{sound}
use Rattle.held.proofs.Hangs.{none-sound}
use Rattle.held.proofs.hanging.is_sound.Goals as goal

pub returns-then-area-lt-AREA : goal.returns-then-area-lt-AREA
unfolding sound
returns-then-area-lt-AREA c = rw (lt-leb area_size (length c.args.area.now) c.if-area-lt-AREA.true)

pub returns-then-held-eq0 : goal.returns-then-held-eq0
returns-then-held-eq0 c = sym (rw c.if-held-eq0.true (none-sound c.args.area.now c.if-area-lt-AREA.false))

pub returns : goal.returns
unfolding sound
returns c =
    rw (le-leb area_size (length c.args.area.now) c.if-area-lt-AREA.false) c.fits.ensures
