use mathlib.Core.Path.{sym, ◌∙◌}
use native.Mathlib.Omega.{arith}
use Rattle.lent_log.proofs.Hanging.{hangs-if-sound, out_of_bounds}
use Rattle.lent_log.proofs.hangs_together.Goals as goal

pub returns-then-log-gt-MOST_MESSAGES : goal.returns-then-log-gt-MOST_MESSAGES
returns-then-log-gt-MOST_MESSAGES c = sym (out_of_bounds c.args.log c.args.bytes.now c.then-log-gt-MOST_MESSAGES.either)

pub returns : goal.returns
returns c =
    let a = c.args in
    c.is_sound.ensures ∙ sym (hangs-if-sound a.log a.bytes.now (omega arith) (omega arith))
