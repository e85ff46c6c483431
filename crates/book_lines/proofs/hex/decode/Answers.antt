-- `decode` puts what the text spells: at each turn the bytes put so far, with what the rest of the text still spells, are that.
use Rattle.std.proofs.Common.{length, take, arith, sym, ◌∙◌, le-leb}
use Rattle.book_lines.proofs.Spelling.{skips, waits, pairs, no_more}
use Rattle.book_lines.proofs.hex.decode.Goals as goal
use Rattle.book_lines.proofs.hex.decode.Goals.{in_default-None, in-None-Some, in-Some-Some}

pub loop-b-preserved : goal.loop-b-preserved
loop-b-preserved c =
    let text = c.args.text.now in
    let l = c.loop-b in
    let said = sym c.digit.ensures.value in
    elim c.match-digit.branch [
      | in_default-None w ↦
          let e = skips l.b-index text (omega arith) l.waits (said ∙ w.in_default-None.is-1) in
          rw (w.count-is, w.out-is, w.waits-is) (omega arith, l.invariant.1, rw e l.invariant.2)
      | in-None-Some w ↦
          let p = w.in-None-Some in
          let low = rw p.is-1 at c.digit.ensures.bound in
          let was = rw p.is-0 at l.invariant.2 in
          let e = waits l.b-index text (omega arith) p.low (said ∙ p.is-1) in
          rw (w.count-is, w.out-is, w.waits-is) (omega arith, low, rw e was)
      | in-Some-Some w ↦
          let p = w.in-Some-Some in
          let was = rw p.is-0 at l.invariant.2 in
          let e = pairs l.b-index text (omega arith) l.count p.high p.low l.out (omega arith) (said ∙ p.is-1) in
          rw (w.count-is, w.out-is, w.waits-is) (omega arith, tt, e ∙ was)
    ]

pub returns-clause-out_after : goal.returns-clause-out_after
returns-clause-out_after c =
    let l = c.loop-b in
    let e = no_more l.waits l.b-index c.args.text.now (take l.count l.out) (omega arith) l.invariant.2 in
    rw (le-leb (length c.args.text.now) (length c.args.out.now) (omega arith)) e
