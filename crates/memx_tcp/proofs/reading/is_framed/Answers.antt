-- `is_framed` meets its contract: the stated length is what follows, and what the type may carry.
use Prim.Native.Nat.{ℕ, ◌-◌}
use native.Mathlib.Omega.{arith}
use lib.ListN.{length}
use Rattle.memx_tcp.proofs.Framing.{misstated, cut_short, followed}
use Rattle.memx_tcp.proofs.reading.is_framed.Goals as goal

pub returns-then-d-lt-HEADER : goal.returns-then-d-lt-HEADER
returns-then-d-lt-HEADER c =
    let s = c.args.d.now in
    misstated s (λ e. omega arith)

pub returns-then-get2-follows : goal.returns-then-get2-follows
returns-then-get2-follows c =
    let s = c.args.d.now in
    misstated s (λ e. c.if-get2-follows.true (omega arith))

pub returns-then-follows-fixed : goal.returns-then-follows-fixed
returns-then-follows-fixed c =
    let s = c.args.d.now in
    cut_short s (omega arith) (omega arith)

pub returns : goal.returns
returns c =
    let s = c.args.d.now in
    let n : ℕ = length s - 3 - c.args.fixed in
    rw c.requires.1 (followed s n (omega arith) (omega arith))
