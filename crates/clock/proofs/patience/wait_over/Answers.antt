-- `wait_over` goes on from the wait that `wait_of` gives.
use mathlib.Core.Path.{◌≡◌, sym, ◌∙◌}
use mathlib.Core.Bool.{Bool, false}
use mathlib.Core.List.{[], ◌∷◌}
use lib.Ieee.{Float, le, of_bits, round}
use Rattle.std.specs.Prelude.{Option, Some, None, MatchOption}
use Rattle.std.proofs.Common.{rules}
use Rattle.wire.specs.Checks.{Verdict, refused, taken, ◌else◌, ◌into◌, checked}
use Rattle.wire.specs.declared.refusal.Refusal.TheVariants.{Broken, Range}
use Rattle.wire.proofs.Checks.{into-checked, passed-on}
use Rattle.clock.specs.Sheet.{sound}
use Rattle.clock.specs.Patience.{in_range, wait_under, waiting, past, within_day, wait_over}
use Rattle.clock.specs.declared.sheet.Sheet.{Sheet}
use Rattle.clock.specs.declared.patience.Patience.{Patience}
use Rattle.clock.proofs.patience.wait_over.Goals as goal

abbrev said : Float → Option Float → Verdict Bool
said e w = checked ((within_day e else Range) ∷ []) (taken (past w e))

goes_on : (s : Sheet) (p : Patience) (e : Float) (v : Verdict (Option Float)) → waiting s p ≡ v → wait_over s p e ≡ (v into said e)
goes_on s p e v q = rw (← q) (sym (into-checked ((sound s else Broken) ∷ (in_range p else Range) ∷ []) (taken (wait_under s p)) (said e)))

is-past : {P : Float → Type 0} (w : Option Float) (e : Float) (late : Bool) → ((x : Float) → P x → late ≡ le x e)
    → MatchOption w (late ≡ false) P → late ≡ past w e
is-past None e late f h = h
is-past (Some w) e late f h = f w h

pub returns-in_err-wait : goal.returns-in_err-wait
returns-in_err-wait c =
    passed-on c.from_residual.result c.from_residual.ensures.1
    ∙ sym (goes_on c.args.sheet c.args.rule c.args.elapsed (refused c.in_err-wait.field-0.0) (sym c.wait_of.ensures ∙ c.in_err-wait.was))

pub returns-then-not-is_between : goal.returns-then-not-is_between
unfolding of_bits round
returns-then-not-is_between c =
    sym (goes_on c.args.sheet c.args.rule c.args.elapsed (taken c.in_ok-wait.wait) (sym c.wait_of.ensures ∙ c.in_ok-wait.was)
    ∙ rw (← c.is_between.ensures, c.if-not-is_between.true))

pub returns : goal.returns
unfolding of_bits round
returns c =
    rw (is-past c.in_ok-wait.wait c.args.elapsed c.is_some_and.result (λ x h. search rules) c.is_some_and.ensures)
    (sym (goes_on c.args.sheet c.args.rule c.args.elapsed (taken c.in_ok-wait.wait) (sym c.wait_of.ensures ∙ c.in_ok-wait.was)
    ∙ rw (← c.is_between.ensures, c.if-not-is_between.false)))
