use Rattle.std.proofs.Common.{rules, tests}
use Rattle.std.proofs.lemmas.Iterator.{YieldsList-from_slice}
use Rattle.std.proofs.lemmas.Iterator.Search.{position_from_yields_List}
use Prim.Native.Nat.{ℕ}
use mathlib.Core.Bool.{Bool, not}
use mathlib.Core.Path.{◌∙◌, ap}
use Rattle.text.specs.Text.{letter_or_digit, blank}
use Rattle.text.proofs.Padding.{from-first, behind-text}
use Rattle.text.proofs.is_text_then_spaces.Goals as goal

pub returns : goal.returns
returns c =
    let t = c.args.t.now in
    let p : ℕ → Bool = λ b. not (letter_or_digit b) in
    let found = position_from_yields_List p _ _ c.position.result c.position.ensures.ran (YieldsList-from_slice t cc)
    (λ x b q k. search (rules, tests)) in
    let rest = from-first p t c.position.result c.unwrap_or-end.result found c.unwrap_or-end.ensures in
    c.is_blank.ensures ∙ ap blank rest ∙ behind-text t
