-- `read` counts the digits that end the field; what stands before them decides, as `Ends` says.
use Rattle.std.proofs.Common.{◌≡◌, Ok, sym, ap, ◌∙◌, pos_of_ne-zero, ne_eqb, eqb-true, le-leb, leb-true}
use Rattle.wire.proofs.Tests.{both, held, failed}
use Rattle.decimal.specs.Decimal.{number_of}
use Rattle.decimal.proofs.Ends.{below, stops, misshapen, none, number, of-twenty}
use Rattle.decimal.proofs.read.Goals as goal

pub returns-then-s-ne20 : goal.returns-then-s-ne20
unfolding number_of
returns-then-s-ne20 c = rw (ne_eqb _ 20 c.if-s-ne20.true)

pub twenty-requires : goal.twenty-requires
twenty-requires c =
    rw c.tail_of-tail.ensures.2
    (below c.args.s.now c.tail_of-tail.result.count c.if-s-ne20.false c.tail_of-tail.ensures.0 c.tail_of-tail.ensures.1)

pub returns-then-tail-first : goal.returns-then-tail-first
returns-then-tail-first c =
    let s = c.args.s.now in
    let p = both _ _ c.if-tail-first.true in
    let k : c.tail_of-tail.result.count ≡ 19 = eqb-true _ 19 p.0 in
    let d = leb-true _ 9 p.1 in
    c.twenty.ensures ∙ sym (of-twenty s _ _ c.if-s-ne20.false (c.figure-first.ensures.0 ∙ le-leb _ 9 d) (c.figure-first.ensures.1 d)
    (rw k at c.tail_of-tail.ensures.1) (rw k at c.tail_of-tail.ensures.2))

pub returns-then-not-begins_blank : goal.returns-then-not-begins_blank
returns-then-not-begins_blank c =
    let s = c.args.s.now in
    let stop = stops s _ c.figure-first.result c.tail_of-tail.ensures.0 c.tail_of-tail.ensures.3 c.figure-first.ensures.0
    c.if-tail-first.false in
    sym (misshapen s _ c.if-s-ne20.false c.tail_of-tail.ensures.0 c.tail_of-tail.ensures.1 stop
    (failed c.begins_blank.ensures c.if-not-begins_blank.true-raw))

pub returns-then-tail-eq0 : goal.returns-then-tail-eq0
returns-then-tail-eq0 c =
    sym (none _ _ c.if-s-ne20.false c.tail_of-tail.ensures.0 c.tail_of-tail.ensures.1
    (held c.begins_blank.ensures c.if-not-begins_blank.false-raw) c.if-tail-eq0.true)

pub returns : goal.returns
returns c =
    ap Ok c.tail_of-tail.ensures.2 ∙ sym (number _ _ c.if-s-ne20.false c.tail_of-tail.ensures.0 c.tail_of-tail.ensures.1
    (held c.begins_blank.ensures c.if-not-begins_blank.false-raw)
    (pos_of_ne-zero c.if-tail-eq0.false))
