-- What the code finds are the place and the run of the packet with the most messages (`Packing`), so its writer's reply is that packet.
use mathlib.Core.Path.{sym, ◌∙◌}
use lib.ListN.{length}
use lib.Seq.{length-take-le}
use Rattle.wire.proofs.Settling.{settled-by}
use Rattle.lent_log.proofs.Hanging.{hanging}
use Rattle.lend.proofs.Packing.{Sent, sent, never-refused}
use Rattle.lend.proofs.send.Goals.{After-measure-run}
use Rattle.lend.proofs.send.Goals as goal

found : (c : After-measure-run) → let a = c.args in
    Sent a.log a.bytes.now a.first.0 a.count c.requires.0 c.requires.1 c.requires.2 (length a.out.now) c.in_ok-at.at c.measure-run.result
found c =
    let a = c.args in
    sent a.log a.bytes.now a.first.0 a.count c.requires.0 c.requires.1 c.requires.2 (length a.out.now) c.in_ok-at.at c.measure-run.result
    (λ i. (c.type_inv.bytes i).fits)
    c.requires.3
    (sym c.skip.ensures ∙ c.in_ok-at.was)
    c.measure-run.ensures

pub slice_bounds-held-end : goal.slice_bounds-held-end
slice_bounds-held-end c =
    let a = c.args in
    sym (length-take-le a.log.used a.bytes.now (hanging a.log a.bytes.now c.requires.0).mark)

pub returns-in_err-at : goal.returns-in_err-at
returns-in_err-at c =
    let a = c.args in
    never-refused a.log a.bytes.now a.first.0 a.count c.requires.0 c.requires.1 c.requires.2 c.in_err-at.field-0.0
    (sym c.skip.ensures ∙ c.in_err-at.was)

pub slice_bounds-write_messages-count : goal.slice_bounds-write_messages-count
slice_bounds-write_messages-count c = (found (goal.at.slice_bounds-write_messages-count c).After-measure-run).start

pub slice_bounds-write_messages-start : goal.slice_bounds-write_messages-start
slice_bounds-write_messages-start c = (found (goal.at.slice_bounds-write_messages-start c).After-measure-run).start

pub slice_bounds-write_messages-end : goal.slice_bounds-write_messages-end
slice_bounds-write_messages-end c = (found (goal.at.slice_bounds-write_messages-end c).After-measure-run).stop

pub returns : goal.returns
returns c = settled-by (found (goal.at.returns c).After-measure-run).reply c.write_messages.ensures
