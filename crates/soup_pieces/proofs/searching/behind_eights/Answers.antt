-- `behind_eights` meets its contract: eight bytes at a time, no linefeed lies behind.
use native.Mathlib.Nat.{add-sub_cancel_left}
use native.Mathlib.Omega.{arith}
use Rattle.wire.proofs.Tests.{held}
use Rattle.soup_pieces.proofs.Searches.{unbroken-none-yet, eight-more}
use Rattle.soup_pieces.proofs.searching.behind_eights.Goals as goal

pub loop-at-init : goal.loop-at-init
loop-at-init c = (omega arith, omega arith, unbroken-none-yet c.args.s.now c.args.from)

pub overflow_sub-to : goal.overflow_sub-to
overflow_sub-to c = omega arith

pub returns-then-not-is_unbroken : goal.returns-then-not-is_unbroken
returns-then-not-is_unbroken c = c.loop-at.invariant

pub overflow_add-at : goal.overflow_add-at
overflow_add-at c = omega arith

pub loop-at-smaller : goal.loop-at-smaller
loop-at-smaller c = omega arith

pub loop-at-preserved : goal.loop-at-preserved
loop-at-preserved c = (
  omega arith,
  omega arith,
  eight-more c.args.s.now c.args.from c.loop-at.at c.args.to c.loop-at.invariant.0 (omega arith) c.requires.1
      c.loop-at.invariant.2 (rw add-sub_cancel_left at (held c.is_unbroken.ensures c.if-not-is_unbroken.false-raw)),
)

pub returns : goal.returns
returns c = c.loop-at.invariant
