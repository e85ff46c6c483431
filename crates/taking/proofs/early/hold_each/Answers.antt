-- `hold_each` meets its contract: each turn holds the block that it finds, under its number; those tried so far, with those that are left,
-- are all the packet's.
use Prim.Native.Nat.{ℕ, ◌+◌, ◌-◌, ◌<◌}
use mathlib.Core.Path.{◌≡◌, refl, ap, sym, ◌∙◌}
use native.Mathlib.Nat.{sub-zero, add-zero}
use native.Mathlib.Omega.{arith}
use lib.ListN.{length}
use Rattle.blocks.proofs.NextBlock.{block-fits}
use Rattle.blocks.proofs.Found.{Found, finds}
use Rattle.held.specs.Holding.{Holding}
use Rattle.taking.proofs.Trying.{Tried, tried, none_tried, one-long}
use Rattle.taking.proofs.early.hold_each.Goals.{After-next, After-unwrap-block}
use Rattle.taking.proofs.early.hold_each.Goals as goal

left : (n k : ℕ) → k < n → n - (k + 1) ≡ n - k - 1
left n k h = omega arith

-- in a turn there is one to try,
tries : (c : After-next) → let a = c.args in let l = c.loop-k in
    Tried a.batch.datagram.now a.next (record { held = l.kept; area = l.area }) (a.batch.first + l.k) l.at (a.batch.count - l.k)
tries c =
    let a = c.args in
    let l = c.loop-k in
    let some = c.loop-k-test.true in
    tried a.batch.datagram.now a.next (record { held = l.kept; area = l.area }) (a.batch.first + l.k) l.at (a.batch.count - l.k) (omega
    arith) l.invariant.2

-- and it was found
found : (c : After-unwrap-block) → Found c.args.batch.datagram.now c.loop-k.at c.unwrap-block.result
found c = finds _ _ _ (sym c.next.ensures ∙ c.unwrap-block.ensures)

pub loop-k-init : goal.loop-k-init
loop-k-init c =
    let a = c.args in
    (omega arith, refl, rw (sub-zero a.batch.count) a.batch.filled, rw (sub-zero a.batch.count, add-zero a.batch.first))

pub unwrap-block-requires : goal.unwrap-block-requires
unwrap-block-requires c =
    let u = tries c in
    rw (c.next.ensures, block-fits c.args.batch.datagram.now c.loop-k.at _ _ refl refl u.inside)

pub slice_bounds-message-count : goal.slice_bounds-message-count
slice_bounds-message-count c = let f = found (goal.at.slice_bounds-message-count c).After-unwrap-block in omega arith

pub slice_bounds-message-start : goal.slice_bounds-message-start
slice_bounds-message-start c = let f = found (goal.at.slice_bounds-message-start c).After-unwrap-block in omega arith

pub slice_bounds-message-end : goal.slice_bounds-message-end
slice_bounds-message-end c = let f = found (goal.at.slice_bounds-message-end c).After-unwrap-block in omega arith

pub loop-k-preserved : goal.loop-k-preserved
loop-k-preserved c =
    let a = c.args in
    let l = c.loop-k in
    let at = goal.at.loop-k-preserved c in
    let h : Holding = record { held = l.kept; area = l.area } in
    let f = found at.After-unwrap-block in
    let u = tries at.After-next in
    let next : a.batch.first + (l.k + 1) ≡ a.batch.first + l.k + 1 = omega arith in (
      omega arith,
      ap length c.hold-kept.ensures.bytes ∙ one-long a.next h (a.batch.first + l.k) _ ∙ l.invariant.1,
      rw (f.ends, left a.batch.count l.k c.loop-k-test.true) u.others,
      l.invariant.3 ∙ u.goes_on
          ∙ rw (c.hold-kept.ensures.bitmap, c.hold-kept.ensures.bytes, f.same, f.ends, next, left a.batch.count l.k c.loop-k-test.true),
    )

pub returns : goal.returns
returns c =
    let a = c.args in
    let l = c.loop-k in
    let h : Holding = record { held = l.kept; area = l.area } in
    rw (l.invariant.3 ∙ none_tried a.batch.datagram.now a.next h (a.batch.first + l.k) l.at (a.batch.count - l.k) (omega arith)
    l.invariant.2)
    (record { bitmap = refl; bytes = refl })
