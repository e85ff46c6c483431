-- `added` meets its contract: type by type, the message's writer answers behind what is there, or a body that doesn't belong is refused.
use borrow.Author.Tests.{ne_eqb}
use Rattle.flat_compose.specs.Adding.{add_flat}
use Rattle.flat_compose.proofs.added.Goals as goal

pub returns-in-76 : goal.returns-in-76
unfolding add_flat
returns-in-76 c =
    let a = c.args in
    rw (c.in-76.is, ← c.login_of.ensures a.body.now) c.alone.ensures

pub returns-in-84 : goal.returns-in-84
unfolding add_flat
returns-in-84 c = rw c.in-84.is c.alone-in-84.ensures

pub returns-in-85 : goal.returns-in-85
unfolding add_flat
returns-in-85 c = rw c.in-85.is c.add_message.ensures

pub returns-in-82 : goal.returns-in-82
unfolding add_flat
returns-in-82 c = rw c.in-82.is c.alone-in-82.ensures

pub returns-in-79 : goal.returns-in-79
unfolding add_flat
returns-in-79 c = rw c.in-79.is c.alone-in-79.ensures

pub returns-in_default : goal.returns-in_default
unfolding add_flat
returns-in_default c =
    rw (
      ne_eqb c.args.fields.kind 76 c.in_default.in_default-own.rest.0.0.0.0.1,
      ne_eqb c.args.fields.kind 84 c.in_default.in_default-own.rest.0.0.0.1,
      ne_eqb c.args.fields.kind 85 c.in_default.in_default-own.rest.0.0.1,
      ne_eqb c.args.fields.kind 82 c.in_default.in_default-own.rest.0.1,
      ne_eqb c.args.fields.kind 79 c.in_default.in_default-own.rest.1,
    )
    c.unfit_behind.ensures
