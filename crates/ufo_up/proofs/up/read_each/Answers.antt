-- `read_each` meets its contract: the messages read so far are all taken, and the first that is refused decides.
use Prim.Native.Nat.{ℕ, ◌<◌, ◌≤◌}
use mathlib.Core.List.{List}
use mathlib.Core.Path.{◌≡◌, sym, ◌∙◌}
use native.Mathlib.Omega.{arith}
use lib.ListN.{length}
use Rattle.wire.specs.Fields.{Bytes}
use Rattle.wire.specs.Checks.{taken}
use Rattle.wire.specs.Datagram.{limit}
use Rattle.wire.proofs.Checks.{passed-on}
use Rattle.blocks.specs.Blocks.{upstream, messages_of, count_of}
use Rattle.blocks.proofs.Counting.{whole-count}
use Rattle.blocks.proofs.Cutting.{Framed, framed}
use Rattle.ufo_up.proofs.UpPacket.{as-many}
use Rattle.ufo_up.proofs.UpWalk.{reached-none, reached-more, reached-stop, reached-end}
use Rattle.ufo_up.proofs.up.read_each.Goals as goal

whole : (d : List ℕ) → Bytes d → (n : ℕ) → (count_of (upstream d) ≡ taken n) × (length d ≤ limit) → Framed d (messages_of (upstream d))
whole d bytes n r = framed d bytes (whole-count (upstream d) n r.0) (omega (arith, r.1))

another : (d : List ℕ) (k n : ℕ) → count_of (upstream d) ≡ taken n → k < n → k < length (messages_of (upstream d))
another d k n e h = omega (arith, as-many (upstream d) n e)

pub loop-init : goal.loop-init
loop-init c = (omega arith, reached-none c.args.d.now)

pub loop-preserved : goal.loop-preserved
loop-preserved c =
    let a = c.args in
    let l = c.loop in (
      omega arith,
      reached-more a.d.now l.at l.counter (whole a.d.now (λ i. (c.type_inv.d i).fits) a.count c.requires) l.invariant.1
          (another a.d.now l.counter a.count c.requires.0 c.loop-test.true) c.in_ok-at.field-0 (sym c.message_at.ensures ∙ c.in_ok-at.was),
    )

pub returns-in_err-at : goal.returns-in_err-at
returns-in_err-at c =
    let a = c.args in
    let l = c.loop in
    rw (reached-stop a.d.now l.at l.counter (whole a.d.now (λ i. (c.type_inv.d i).fits) a.count c.requires) l.invariant.1
    (another a.d.now l.counter a.count c.requires.0 c.loop-test.true) c.in_err-at.field-0.0 (sym c.message_at.ensures ∙ c.in_err-at.was))
    (passed-on c.from_residual.result c.from_residual.ensures.1)

pub returns : goal.returns
returns c =
    let a = c.args in
    let l = c.loop in
    let all : l.counter ≡ a.count = omega (arith, l.invariant.0, c.loop-test.false) in
    rw (← all) (sym (reached-end a.d.now l.at l.counter (whole a.d.now (λ i. (c.type_inv.d i).fits) a.count c.requires) l.invariant.1
    (omega (arith, all, as-many (upstream a.d.now) a.count c.requires.0))))
