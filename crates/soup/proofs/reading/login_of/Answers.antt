-- `login_of` looks at the texts' padding together, and then goes by its number, as `login-as` says.
use Rattle.std.proofs.Common.{◌≡◌, Bool, ◌&&◌, ◌∙◌, List, ℕ}
use Rattle.wire.proofs.Tests.{held, failed}
use Rattle.wire.proofs.Checks.{passed-on}
use Rattle.text.specs.Text.{text_then_spaces, spaces_then_text}
use Rattle.soup.proofs.Together.{login-together, login-as}
use Rattle.soup.proofs.reading.login_of.Goals as goal

-- whether the texts are padded as they should be: what the code says is what the paper says
same : {a b d : Bool} (user password session : List ℕ) → a ≡ text_then_spaces user → b ≡ text_then_spaces password
    → d ≡ spaces_then_text session
    → a && b && d ≡ text_then_spaces user && text_then_spaces password && spaces_then_text session
same user password session e f g = rw (e, f, g)

pub returns-then-not-padded : goal.returns-then-not-padded
returns-then-not-padded c =
    let a = c.args in
    let e = same _ _ _ c.is_text_then_spaces.ensures c.is_text_then_spaces-2.ensures c.is_spaces_then_text.ensures in
    rw (login-together a.user.now a.password.now a.session.now a.digits.now, failed e c.if-not-padded.true-raw)

pub returns-in_err-number : goal.returns-in_err-number
returns-in_err-number c =
    let a = c.args in
    let e = same _ _ _ c.is_text_then_spaces.ensures c.is_text_then_spaces-2.ensures c.is_spaces_then_text.ensures in
    let padded = held e c.if-not-padded.false-raw in
    passed-on c.from_residual.result c.from_residual.ensures.1
    ∙ rw (login-as a.user.now a.password.now a.session.now _ _ _ _ padded c.is_blank.ensures c.number_of.ensures c.in_err-number.was)

pub returns : goal.returns
returns c =
    let a = c.args in
    let e = same _ _ _ c.is_text_then_spaces.ensures c.is_text_then_spaces-2.ensures c.is_spaces_then_text.ensures in
    let padded = held e c.if-not-padded.false-raw in
    rw (
      login-as a.user.now a.password.now a.session.now _ _ _ _ padded c.is_blank.ensures c.number_of.ensures c.in_ok-number.was,
      c.get_user.ensures,
      c.get_name.ensures,
      c.get_name-2.ensures,
    )
