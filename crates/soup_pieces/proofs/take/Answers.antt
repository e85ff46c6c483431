-- A call is refused, or drops all of the piece, or gathers from a place on (`Takes`). The two ways to that place meet before `gather`:
-- `FromThere` is what holds there whichever was taken.
use Prim.Native.Nat.{ℕ, ◌≤◌}
use mathlib.Core.Path.{◌≡◌}
use mathlib.Core.Bool.{true}
use mathlib.Core.List.{List}
use native.Mathlib.Omega.{arith}
use lib.ListN.{length, take, drop}
use Rattle.wire.proofs.Tests.{held, failed}
use Rattle.soup_pieces.specs.Machine.{first}
use Rattle.soup_pieces.specs.Eating.{machine_of, ready}
use Rattle.soup_pieces.specs.declared.Pieces.{Pieces}
use Rattle.soup_pieces.proofs.Stretches.{holding}
use Rattle.soup_pieces.proofs.Ready.{ready-says}
use Rattle.soup_pieces.proofs.Takes.{broken, past_end, goes_on, all-dropped, dropped, kept-still}
use Rattle.soup_pieces.proofs.take.Goals.{Joined-pieces, then-pieces+else-found-piece, else-pieces}
use Rattle.soup_pieces.proofs.take.Goals as goal

pub returns-then-not-is_ready : goal.returns-then-not-is_ready
returns-then-not-is_ready c =
    broken _ _ _ _ (failed c.is_ready.ensures c.if-not-is_ready.true-raw)

pub returns-then-piece-place : goal.returns-then-piece-place
returns-then-piece-place c =
    past_end _ _ _ _ (held c.is_ready.ensures c.if-not-is_ready.false-raw) c.if-piece-place.true

pub returns-then-found-piece : goal.returns-then-found-piece
returns-then-found-piece c =
    let h = held c.is_ready.ensures c.if-not-is_ready.false-raw in
    all-dropped _ _ _ _ h c.if-piece-place.false c.if-pieces.true _ c.linefeed-found.ensures.0 c.if-found-piece.true

-- where the branch on dropping has ended, whichever way it went: the kept bytes are gathered on from a place in the piece
record FromThere (pieces : Pieces) (buffer piece : List ℕ) (place from : ℕ) : Type 0 where
  inside : from ≤ length piece
  same : first (machine_of pieces buffer) (drop place piece)
      ≡ first (holding pieces.next.0 (take pieces.kept buffer)) (drop from piece)

ready-there : (c : Joined-pieces) → let a = c.args in ready a.pieces a.buffer.now ≡ true
ready-there c = held c.is_ready.ensures c.if-not-is_ready.false-raw

from-there : (c : Joined-pieces) → let a = c.args in
    FromThere a.pieces a.buffer.now a.piece.now a.place c.if-pieces.from
from-there c =
    let a = c.args in
    let d = dropped a.pieces a.buffer.now a.piece.now a.place (ready-there c) c.if-piece-place.false in
    let k = kept-still a.pieces a.buffer.now a.piece.now a.place (ready-there c) c.if-piece-place.false in
    elim c.if-pieces.branch [
      | then-pieces+else-found-piece w ↦ record {
        inside = omega (arith, w.from-is, w.linefeed-found.ensures.1, w.if-found-piece.false);
        same = rw w.from-is (d w.if-pieces.true w.linefeed-found.result w.linefeed-found.ensures.0
            (omega (arith, w.linefeed-found.ensures.1, w.if-found-piece.false)));
      }
      | else-pieces w ↦ record { inside = omega (arith, w.from-is); same = rw w.from-is (k w.if-pieces.false) }
    ]

pub gather-requires : goal.gather-requires
gather-requires c =
    let a = c.args in
    let h = ready-says a.pieces a.buffer.now (ready-there (goal.at.gather-requires c).Joined-pieces) in
    (h.few, h.long, h.whole, (from-there (goal.at.gather-requires c).Joined-pieces).inside)

pub returns : goal.returns
returns c =
    let a = c.args in
    let on = goes_on a.pieces a.buffer.now a.piece.now a.place (ready-there (goal.at.returns c).Joined-pieces) c.if-piece-place.false in
    rw (on, (from-there (goal.at.returns c).Joined-pieces).same) c.gather.ensures
