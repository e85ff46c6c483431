-- `is_whole` meets its contract: an area of 32 slots; with nothing held no more is asked, else bitmap and lengths are.
use mathlib.Core.Path.{sym}
use mathlib.Core.Bool.{and-false}
use borrow.Author.Tests.{le-leb, lt-leb}
use lib.ListN.{length}
use Rattle.held.specs.Slots.{area_size}
use Rattle.held.specs.Hanging.{in_place, sound}
use Rattle.held.proofs.Hangs.{none-in-place, none-sound}
use Rattle.held.proofs.hanging.is_whole.Goals as goal

pub returns-then-area-lt-AREA : goal.returns-then-area-lt-AREA
unfolding sound
returns-then-area-lt-AREA c =
    let a = c.args in
    rw (lt-leb area_size (length a.area.now) c.if-area-lt-AREA.true) (sym (and-false (in_place a.held a.next a.top)))

pub returns-then-held-eq0 : goal.returns-then-held-eq0
returns-then-held-eq0 c =
    let a = c.args in
    rw (c.if-held-eq0.true, none-in-place a.next a.top, none-sound a.area.now c.if-area-lt-AREA.false)

pub returns : goal.returns
unfolding sound
returns c =
    let a = c.args in
    rw (
      le-leb area_size (length a.area.now) c.if-area-lt-AREA.false,
      ← c.is_in_place.ensures,
      ← c.fits.ensures,
    )
