-- `begins_blank` meets its contract: the stretches that are looked at, four or eight bytes each, may overlap and together are the whole.
use Rattle.std.proofs.Common.{◌-◌, sym, refl, ◌∙◌, arith}
use Rattle.decimal.proofs.Spaces.{short, overlap}
use Rattle.decimal.proofs.begins_blank.Goals as goal

pub returns-then-not-are_spaces : goal.returns-then-not-are_spaces
returns-then-not-are_spaces c =
    let a = c.args in
    sym (short a.s.now 4 a.n (omega arith) (sym c.are_spaces-2.ensures ∙ c.if-not-are_spaces.true))

pub returns-then-n-lt8 : goal.returns-then-n-lt8
returns-then-n-lt8 c =
    let a = c.args in
    let four = sym c.are_spaces-2.ensures ∙ c.if-not-are_spaces.false in
    c.are_spaces-then-n-lt8.ensures ∙ overlap a.s.now (a.n - 4) (a.n - (a.n - 4)) a.n 4 (omega arith) (omega arith) four

pub returns-then-n-lt12 : goal.returns-then-n-lt12
returns-then-n-lt12 c =
    let a = c.args in
    let four = sym c.are_spaces-2.ensures ∙ c.if-not-are_spaces.false in
    c.are_spaces-then-n-lt12.ensures ∙ overlap a.s.now (a.n - 8) (a.n - (a.n - 8)) a.n 4 (omega arith) (omega arith) four

pub returns-then-not-are_spaces-2 : goal.returns-then-not-are_spaces-2
returns-then-not-are_spaces-2 c =
    let a = c.args in
    let twelve = overlap a.s.now 4 8 12 4 refl (omega arith) (sym c.are_spaces-2.ensures ∙ c.if-not-are_spaces.false) in
    sym (short a.s.now 12 a.n (omega arith) (sym twelve ∙ sym c.are_spaces-3.ensures ∙ c.if-not-are_spaces-2.true))

pub returns : goal.returns
returns c =
    let a = c.args in
    let twelve = overlap a.s.now 4 8 12 4 refl (omega arith) (sym c.are_spaces-2.ensures ∙ c.if-not-are_spaces.false) in
    let all = sym twelve ∙ sym c.are_spaces-3.ensures ∙ c.if-not-are_spaces-2.false in
    c.are_spaces-4.ensures ∙ overlap a.s.now (a.n - 8) (a.n - (a.n - 8)) a.n 12 (omega arith) (omega arith) all
