use mathlib.Core.Path.{◌≡◌, refl, sym, ◌∙◌}
use mathlib.Core.Logic.{inl, inr}
use mathlib.Core.Bool.{true}
use Rattle.wire.specs.Fields.{Bytes}
use Rattle.wire.specs.Checks.{taken, ◌told_by◌}
use Rattle.wire.proofs.Checks.{passed-on}
use Rattle.held.specs.Hanging.{sound}
use Rattle.record.specs.Record.{hangs}
use Rattle.reports.specs.Reports.{news, end, report_of, blocks_at, reported_of}
use Rattle.reports.proofs.Reports.{reported-so}
use Rattle.taking.proofs.Answering.{answers-broken, both-hang, answers-refusal, answers-none, fills-so}
use Rattle.taking.proofs.Answering.{answers-messages}
use Rattle.taking.proofs.take.Goals.{After-report_of, In_ok-report, then-not-is_well_kept-via-then-not-is_well_kept}
use Rattle.taking.proofs.take.Goals.{then-not-is_well_kept-via-else-not-is_well_kept+then-not-is_whole}
use Rattle.taking.proofs.take.Goals as goal

hang : (c : After-report_of) → let a = c.args in
    (hangs a.kept ≡ true) × (sound a.kept.held a.area.now ≡ true)
hang c =
    let a = c.args in
    both-hang a.kept a.area.now a.datagram.now a.out.now
    (sym c.if-not-is_well_kept.ensures) (sym c.if-not-is_whole.ensures)

-- what the report was, told of the definition
told : (c : In_ok-report) → let a = c.args in
    taken c.in_ok-report.report ≡ (report_of a.kept.session a.datagram.now told_by reported_of (blocks_at a.kept.session a.datagram.now))
told c = sym c.in_ok-report.was ∙ c.report_of.ensures

bytes : (c : After-report_of) → Bytes c.args.datagram.now
bytes c i = (c.type_inv.datagram i).fits

pub returns-then-not-is_well_kept : goal.returns-then-not-is_well_kept
returns-then-not-is_well_kept c =
    let a = c.args in
    answers-broken a.kept a.area.now a.datagram.now a.out.now
    (elim c.then-not-is_well_kept.branch [
      | then-not-is_well_kept-via-then-not-is_well_kept w ↦ inl (sym w.if-not-is_well_kept.ensures)
      | then-not-is_well_kept-via-else-not-is_well_kept+then-not-is_whole w ↦
          inr (sym w.if-not-is_well_kept.ensures, sym w.if-not-is_whole.ensures)
    ])

pub invariant_of-batch : goal.invariant_of-batch
invariant_of-batch c =
    let a = c.args in
    let heard = (goal.at.invariant_of-batch c).After-report_of in
    let m = reported-so _ _ _ (rw c.in-Messages.is at (told (goal.at.invariant_of-batch c).In_ok-report)) in
    let f = fills-so a.kept a.area.now a.datagram.now a.out.now (hang heard).0 (hang heard).1 (bytes heard) _ _ _ m in
    record { bytes = bytes heard; filled = f.blocks; some = f.some; bound = f.bound }

pub take_messages-requires : goal.take_messages-requires
take_messages-requires c = hang (goal.at.take_messages-requires c).After-report_of

pub returns-in_err-report : goal.returns-in_err-report
returns-in_err-report c =
    let a = c.args in
    let heard = (goal.at.returns-in_err-report c).After-report_of in
    rw (passed-on c.from_residual.result c.from_residual.ensures.1)
    (answers-refusal a.kept a.area.now a.datagram.now a.out.now (hang heard).0 (hang heard).1 _
    (reported-so _ _ _ (sym c.in_err-report.was ∙ c.report_of.ensures)))

pub returns-in-Messages : goal.returns-in-Messages
returns-in-Messages c =
    let a = c.args in
    let heard = (goal.at.returns-in-Messages c).After-report_of in
    let m = reported-so _ _ _ (rw c.in-Messages.is at (told (goal.at.returns-in-Messages c).In_ok-report)) in
    answers-messages a.kept a.area.now a.datagram.now a.out.now (hang heard).0 (hang heard).1 (bytes heard) _ _ _ m _ _ _
    c.take_messages.ensures

pub returns-in-News : goal.returns-in-News
returns-in-News c =
    let a = c.args in
    let heard = (goal.at.returns-in-News c).After-report_of in
    let m = reported-so _ _ _ (rw c.in-News.is at (told (goal.at.returns-in-News c).In_ok-report)) in
    answers-none a.kept a.area.now a.datagram.now a.out.now (hang heard).0 (hang heard).1 (news _) m refl (λ k. refl) _
    c.pass.ensures

pub returns-in-End : goal.returns-in-End
returns-in-End c =
    let a = c.args in
    let heard = (goal.at.returns-in-End c).After-report_of in
    let m = reported-so _ _ _ (rw c.in-End.is at (told (goal.at.returns-in-End c).In_ok-report)) in
    answers-none a.kept a.area.now a.datagram.now a.out.now (hang heard).0 (hang heard).1 (end _) m refl (λ k. refl) _
    c.pass-in-End.ensures
