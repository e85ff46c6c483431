use Rattle.std.proofs.Common.{rules, tests}
use Rattle.std.proofs.lemmas.Iterator.{YieldsList-from_slice}
use Rattle.std.proofs.lemmas.Iterator.Search.{all_from_yields_List}
use mathlib.Core.Path.{◌∙◌}
use Rattle.text.proofs.Padding.{space, all-spaces}
use Rattle.text.proofs.is_blank.Goals as goal

pub returns : goal.returns
returns c =
    all_from_yields_List space _ _ _ c.all.ensures.ran (YieldsList-from_slice c.args.t.now cc) (λ x b q k. search (rules, tests))
    ∙ all-spaces c.args.t.now
