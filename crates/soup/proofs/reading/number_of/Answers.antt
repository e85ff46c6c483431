-- `number_of` goes by what the number came to, as `by_number` says.
use Rattle.std.proofs.Common.{true, false, Ok, Err, ap, ◌∙◌}
use Rattle.decimal.specs.declared.Fault.TheVariants.{Misshapen, Blank, Over}
use Rattle.soup.proofs.Together.{number-as}
use Rattle.soup.proofs.reading.number_of.Goals as goal

pub returns-in-Err-Misshapen : goal.returns-in-Err-Misshapen
returns-in-Err-Misshapen c =
    number-as c.args.absent _ _ (Err Misshapen) c.requires c.read.ensures (c.in-Err-Misshapen.is ∙ ap Err c.in-Err-Misshapen.field-0-is)

pub returns-in-Err-Blank : goal.returns-in-Err-Blank
returns-in-Err-Blank c =
    number-as c.args.absent _ _ (Err Blank) c.requires c.read.ensures (c.in-Err-Blank.is ∙ ap Err c.in-Err-Blank.field-0-is)

pub returns-in-Err-Over : goal.returns-in-Err-Over
returns-in-Err-Over c =
    rw c.if-absent.true
    (number-as true _ _ (Err Over) c.requires c.read.ensures (c.in-Err-Over.is ∙ ap Err c.in-Err-Over.field-0-is))

pub returns-in-Err-Over-2 : goal.returns-in-Err-Over-2
returns-in-Err-Over-2 c =
    rw c.if-absent.false
    (number-as false _ _ (Err Over) c.requires c.read.ensures (c.in-Err-Over.is ∙ ap Err c.in-Err-Over.field-0-is))

pub returns-in-Ok : goal.returns-in-Ok
returns-in-Ok c = rw c.if-absent-2.true (number-as true _ _ (Ok c.in-Ok.field-0) c.requires c.read.ensures c.in-Ok.is)

pub returns-in-Ok-2 : goal.returns-in-Ok-2
returns-in-Ok-2 c = rw c.if-absent-2.false (number-as false _ _ (Ok c.in-Ok.field-0) c.requires c.read.ensures c.in-Ok.is)
