-- Each return is a case of `Closes`: by the line's first byte, by the reader's answer to any other, and by whether it is its turn.
use mathlib.Core.Path.{◌∙◌}
use Rattle.wire.proofs.Checks.{passed-on}
use Rattle.soup_pieces.proofs.Closes.{judged-message-refused, judged-message-taken, judged-unread-refused, judged-accept-taken}
use Rattle.soup_pieces.proofs.Closes.{judged-accept-refused, judged-other-taken}
use Rattle.soup_pieces.proofs.closing.judge.Goals as goal

pub returns-in_err-check_turn : goal.returns-in_err-check_turn
returns-in_err-check_turn c =
    passed-on c.from_residual.result c.from_residual.ensures.1
    ∙ judged-message-refused c.args.line.now c.requires c.args.next.0 c.if-line-eq83.true _ c.check_turn.ensures _ c.in_err-check_turn.was

pub returns-then-line-eq83 : goal.returns-then-line-eq83
returns-then-line-eq83 c =
    judged-message-taken c.args.line.now c.requires c.args.next.0 c.if-line-eq83.true _ c.check_turn.ensures _ c.in_ok-check_turn.was

pub returns-in_err-packet : goal.returns-in_err-packet
returns-in_err-packet c =
    passed-on c.from_residual-in_err-packet.result c.from_residual-in_err-packet.ensures.1
    ∙ judged-unread-refused c.args.line.now c.requires c.args.next.0 _ c.read.ensures _ c.in_err-packet.was

pub returns-in-Accept : goal.returns-in-Accept
returns-in-Accept c =
    judged-accept-taken c.args.line.now c.requires c.args.next.0 _ c.read.ensures _ c.in_ok-packet.was _ _ c.in-Accept.is c.if-next-eq0.true

pub returns-in-Accept-2 : goal.returns-in-Accept-2
returns-in-Accept-2 c =
    judged-accept-refused c.args.line.now c.requires c.args.next.0 _ c.read.ensures _ c.in_ok-packet.was _ _ c.in-Accept.is
    c.if-next-eq0.false

pub returns-in_default : goal.returns-in_default
returns-in_default c =
    judged-other-taken c.args.line.now c.requires c.args.next.0 _ c.read.ensures _ c.in_ok-packet.was
    (λ i. (c.type_inv.line i).fits) c.if-line-eq83.false c.in_default.not-Accept
