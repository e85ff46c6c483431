-- `accept_of` looks at the session's padding, and then goes by its number, as `accept-as` says.
use Rattle.std.proofs.Common.{◌∙◌, eq-eqb, ne_eqb}
use Rattle.wire.proofs.Tests.{held, failed}
use Rattle.wire.proofs.Checks.{passed-on}
use Rattle.soup.proofs.Together.{accept-together, accept-as}
use Rattle.soup.proofs.reading.accept_of.Goals as goal

pub returns-then-not-is_spaces_then_text : goal.returns-then-not-is_spaces_then_text
returns-then-not-is_spaces_then_text c =
    rw (accept-together c.args.session.now c.args.digits.now, failed c.is_spaces_then_text.ensures c.if-not-is_spaces_then_text.true-raw)

pub returns-in_err-number : goal.returns-in_err-number
returns-in_err-number c =
    let padded = held c.is_spaces_then_text.ensures c.if-not-is_spaces_then_text.false-raw in
    passed-on c.from_residual.result c.from_residual.ensures.1
    ∙ rw (accept-as c.args.session.now _ _ _ _ padded c.is_blank.ensures c.number_of.ensures c.in_err-number.was)

pub returns-then-number-eq0 : goal.returns-then-number-eq0
returns-then-number-eq0 c =
    let padded = held c.is_spaces_then_text.ensures c.if-not-is_spaces_then_text.false-raw in
    rw (
      accept-as c.args.session.now _ _ _ _ padded c.is_blank.ensures c.number_of.ensures c.in_ok-number.was,
      eq-eqb _ 0 c.if-number-eq0.true,
    )

pub returns : goal.returns
returns c =
    let padded = held c.is_spaces_then_text.ensures c.if-not-is_spaces_then_text.false-raw in
    rw (
      accept-as c.args.session.now _ _ _ _ padded c.is_blank.ensures c.number_of.ensures c.in_ok-number.was,
      ne_eqb _ 0 c.if-number-eq0.false,
      c.get_name.ensures,
    )
