-- Each return is a case of `Gathers`: a linefeed is in reach, the piece ends first, or the packet runs over. The case is told by the
-- search's answer and by how the branches went.
use mathlib.Core.Path.{sym}
use native.Mathlib.Omega.{arith}
use lib.Seq.{length-take-le}
use Rattle.soup_pieces.proofs.Gathers.{found-line, answers-line, answers-end, answers-overlong}
use Rattle.soup_pieces.proofs.gathering.gather.Goals as goal

pub slice_bounds-close-end-then-found-to : goal.slice_bounds-close-end-then-found-to
slice_bounds-close-end-then-found-to c =
    sym (length-take-le _ _ (omega (arith, c.copy.auto.out)))

pub close-requires : goal.close-requires
close-requires c =
    let b = c.args.buffer.now in
    let p = c.args.piece.now in
    rw c.copy.ensures
    (found-line b p c.args.kept c.args.from c.args.next.0 c.requires.0 c.requires.1 c.requires.2 c.requires.3 _ _
    c.smaller-most.ensures c.linefeed-found.ensures.0 c.if-found-to.true)

pub returns-then-found-to : goal.returns-then-found-to
returns-then-found-to c =
    let b = c.args.buffer.now in
    let p = c.args.piece.now in
    rw (c.close.ensures, c.copy.ensures)
    (answers-line b p c.args.kept c.args.from c.args.next.0 c.requires.0 c.requires.1 c.requires.2 c.requires.3 _ _
    c.smaller-most.ensures c.linefeed-found.ensures.0 c.if-found-to.true)

pub returns-then-left-room : goal.returns-then-left-room
returns-then-left-room c =
    let b = c.args.buffer.now in
    let p = c.args.piece.now in
    rw c.copy-2.ensures
    (answers-end b p c.args.kept c.args.from c.args.next.0 c.requires.0 c.requires.1 c.requires.2 c.requires.3 _ _
    c.smaller-most.ensures c.linefeed-found.ensures.0 c.if-found-to.false c.if-left-room.true)

pub returns : goal.returns
returns c =
    let b = c.args.buffer.now in
    let p = c.args.piece.now in
    rw (c.empty.ensures, c.copy-2.ensures)
    (answers-overlong b p c.args.kept c.args.from c.args.next.0 c.requires.0 c.requires.1 c.requires.2 c.requires.3 _ _
    c.smaller-most.ensures c.linefeed-found.ensures.0 c.if-found-to.false c.if-left-room.false)
