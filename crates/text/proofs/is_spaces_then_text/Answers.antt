use Rattle.std.proofs.Common.{rules, tests}
use Rattle.std.proofs.lemmas.Iterator.{YieldsList-from_slice}
use Rattle.std.proofs.lemmas.Iterator.Search.{all_from_yields_List, position_from_yields_List}
use Rattle.std.specs.List.{list_all}
use Prim.Native.Nat.{ℕ}
use mathlib.Core.Bool.{Bool, not}
use mathlib.Core.Path.{◌∙◌, ap}
use Rattle.text.specs.Text.{letter_or_digit}
use Rattle.text.proofs.Padding.{space, all-text, from-first, behind-spaces}
use Rattle.text.proofs.is_spaces_then_text.Goals as goal

pub returns : goal.returns
returns c =
    let t = c.args.t.now in
    let p : ℕ → Bool = λ b. not (space b) in
    let found = position_from_yields_List p _ _ c.position.result c.position.ensures.ran (YieldsList-from_slice t cc)
    (λ x b q k. search (rules, tests)) in
    let rest = from-first p t c.position.result c.unwrap_or-start.result found c.unwrap_or-start.ensures in
    all_from_yields_List letter_or_digit _ _ _ c.all.ensures.ran (YieldsList-from_slice _ cc) (λ x b q k. search (rules, tests))
    ∙ ap (list_all letter_or_digit) rest ∙ all-text _ ∙ behind-spaces t
