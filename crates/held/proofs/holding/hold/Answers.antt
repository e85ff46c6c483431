use mathlib.Core.Path.{◌≡◌, ap, sym, ◌∙◌}
use Rattle.held.specs.Slots.{is_full, full}
use Rattle.held.proofs.Trying.{not-early, too_far, slot-full, too_long, no-slots, lies-there}
use Rattle.held.proofs.holding.hold.Goals.{After-is_full}
use Rattle.held.proofs.holding.hold.Goals as goal

slot_is : (c : After-is_full) → full c.args.held c.args.number ≡ c.is_full.result
slot_is c = ap (is_full c.args.held) (sym c.slot_of-slot.ensures.0) ∙ sym c.is_full.ensures

pub returns-then-number-next : goal.returns-then-number-next
returns-then-number-next c =
    let a = c.args in
    not-early a.next a.held a.number a.area.now a.message.now c.if-number-next.true

pub returns-then-number-next-gt31 : goal.returns-then-number-next-gt31
returns-then-number-next-gt31 c =
    let a = c.args in
    too_far a.next a.held a.number a.area.now a.message.now c.if-number-next.false c.if-number-next-gt31.true

pub returns-then-is_full : goal.returns-then-is_full
returns-then-is_full c =
    let a = c.args in
    slot-full a.next a.held a.number a.area.now a.message.now c.if-number-next.false
    c.if-number-next-gt31.false (slot_is (goal.at.returns-then-is_full c).After-is_full ∙ c.if-is_full.true)

pub returns-then-message-gt-LONGEST : goal.returns-then-message-gt-LONGEST
returns-then-message-gt-LONGEST c =
    let a = c.args in
    too_long a.next a.held a.number a.area.now a.message.now c.if-number-next.false
    c.if-number-next-gt31.false (slot_is (goal.at.returns-then-message-gt-LONGEST c).After-is_full ∙ c.if-is_full.false) c.if-message-gt-LONGEST.true

pub returns-then-area-lt-AREA : goal.returns-then-area-lt-AREA
returns-then-area-lt-AREA c =
    let a = c.args in
    no-slots a.next a.held a.number a.area.now a.message.now c.if-number-next.false
    c.if-number-next-gt31.false (slot_is (goal.at.returns-then-area-lt-AREA c).After-is_full ∙ c.if-is_full.false) c.if-message-gt-LONGEST.false c.if-area-lt-AREA.true

pub returns : goal.returns
returns c =
    let a = c.args in
    rw (c.fill.ensures, c.lay.ensures, c.slot_of-slot.ensures.0)
    (lies-there a.next a.held a.number a.area.now a.message.now c.if-number-next.false
    c.if-number-next-gt31.false (slot_is (goal.at.returns c).After-is_full ∙ c.if-is_full.false) c.if-message-gt-LONGEST.false c.if-area-lt-AREA.false)
