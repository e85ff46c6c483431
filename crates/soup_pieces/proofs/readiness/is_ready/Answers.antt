use mathlib.Core.Path.{sym}
use native.Mathlib.Omega.{arith}
use lib.Seq.{length-take-le}
use Rattle.soup_pieces.proofs.Ready.{too_short, too_many, by-rest}
use Rattle.soup_pieces.proofs.readiness.is_ready.Goals as goal

pub returns-then-buffer-lt-LONGEST : goal.returns-then-buffer-lt-LONGEST
returns-then-buffer-lt-LONGEST c = too_short _ _ c.if-buffer-lt-LONGEST.true

pub returns-then-kept-ge-LONGEST : goal.returns-then-kept-ge-LONGEST
returns-then-kept-ge-LONGEST c = too_many _ _ c.if-buffer-lt-LONGEST.false c.if-kept-ge-LONGEST.true

pub returns-then-pieces : goal.returns-then-pieces
returns-then-pieces c = by-rest _ _ _ c.if-buffer-lt-LONGEST.false c.if-kept-ge-LONGEST.false (rw c.if-pieces.true)

pub slice_bounds-is_unbroken-end : goal.slice_bounds-is_unbroken-end
slice_bounds-is_unbroken-end c =
    let a = c.args in
    sym (length-take-le a.pieces.kept a.buffer.now (omega arith))

pub returns : goal.returns
returns c =
    by-rest _ _ _ c.if-buffer-lt-LONGEST.false c.if-kept-ge-LONGEST.false (rw c.if-pieces.false c.is_unbroken.ensures)
