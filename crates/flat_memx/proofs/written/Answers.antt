-- A type that is none, and a body behind a header alone, are refused as `Refusing` says of the definition; messages go to their writer, and
-- so does a header alone, whose body is empty.
use Prim.Native.Nat.{ℕ, ◌+◌, ◌≤◌, ◌<◌}
use mathlib.Core.Path.{◌≡◌, sym, ◌∙◌}
use mathlib.Core.Bool.{Bool, true, false, not, true≢false}
use mathlib.Core.List.{List, []}
use native.Mathlib.Omega.{arith}
use borrow.Author.Tests.{eqb-true}
use denote.Enum.Bare.{sameb}
use lib.ListN.{length, drop_of_length-le}
use Rattle.wire.specs.Checks.{◌is◌}
use Rattle.wire.proofs.Tests.{nonzero}
use Rattle.memx.specs.contracts.layout.Kind.{the_type}
use Rattle.memx.specs.Packet.{limit, write}
use Rattle.memx.specs.Reading.{byte_of}
use Rattle.memx.specs.declared.layout.Kind.{Kind}
use Rattle.memx.specs.declared.layout.Kind.TheVariants.{Heartbeat, Shutdown, Messages}
use Rattle.memx.proofs.Types.{stands-for, stands-for-none}
use Rattle.flat_packet.proofs.Unfitting.{unfits}
use Rattle.flat_memx.specs.Writing.{memx_reply}
use Rattle.flat_memx.proofs.Refusing.{unknown-type, news-with-body}
use Rattle.flat_memx.proofs.written.Goals.{In-Ok, else-ne-via-then-ne+else-not-is_empty, else-ne-via-else-ne}
use Rattle.flat_memx.proofs.written.Goals as goal

kind_is : (c : In-Ok) → c.args.fields.kind ≡ byte_of c.in-Ok.kind
kind_is c = stands-for _ c.in-Ok.kind (sym c.try_from.ensures ∙ c.in-Ok.is)

-- a test of the length
empty : (body : List ℕ) {b : Bool} → b ≡ (length body is 0) → b ≡ true → body ≡ []
empty body e t = let z = eqb-true (length body) 0 (sym e ∙ t) in drop_of_length-le body {i = 0} (omega arith)

some : (body : List ℕ) {b : Bool} → b ≡ (length body is 0) → b ≡ false → 0 < length body
some body e f = nonzero (length body) (rw (← e, f))

-- what is no message has a type up to 1
news : (k : Kind) {b : Bool} → b ≡ not (sameb the_type k Messages) → b ≡ true → byte_of k ≤ 1
news Heartbeat e t = omega arith
news Shutdown e t = omega arith
news Messages e t = absurd (true≢false (sym t ∙ e))

pub returns-in-Err : goal.returns-in-Err
returns-in-Err c =
    let a = c.args in
    let extra = a.extra.now in
    let body = a.body.now in
    let none = stands-for-none a.fields.kind c.in-Err.why (sym c.try_from.ensures ∙ c.in-Err.is) in
    unfits _ _ limit (18 + length extra + length body) c.in-Err.why _
    (rw none.0 (unknown-type a.fields extra body _ none.1)) c.unfit.ensures

pub returns-then-not-is_empty : goal.returns-then-not-is_empty
returns-then-not-is_empty c =
    let a = c.args in
    let extra = a.extra.now in
    let body = a.body.now in
    let kind : a.fields.kind ≤ 1 = rw (kind_is (goal.at.returns-then-not-is_empty c).In-Ok) (news c.in-Ok.kind c.ne.ensures c.if-ne.true) in
    let body-there = some body c.is_empty.ensures c.if-not-is_empty.true in
    unfits _ _ limit (18 + length extra + length body) c.bodiless.result _
    (rw c.bodiless.ensures (news-with-body a.fields extra body _ (omega arith) (omega arith) kind body-there))
    c.unfit-then-not-is_empty.ensures

pub returns-in-Heartbeat : goal.returns-in-Heartbeat
unfolding memx_reply write
returns-in-Heartbeat c =
    let at = goal.at.returns-in-Heartbeat c in
    let kind : c.args.fields.kind ≡ 0 = rw c.in-Heartbeat.is at (kind_is at.In-Ok) in
    let none : c.args.body.now ≡ [] = elim c.else-ne.branch [
      | else-ne-via-then-ne+else-not-is_empty w ↦ empty c.args.body.now w.is_empty.ensures w.if-not-is_empty.false
      | else-ne-via-else-ne w ↦ absurd (true≢false (sym (rw c.in-Heartbeat.is at c.ne.ensures) ∙ w.if-ne.false))
    ] in
    rw (none, kind) c.write_heartbeat.ensures

pub returns-in-Shutdown : goal.returns-in-Shutdown
unfolding memx_reply write
returns-in-Shutdown c =
    let at = goal.at.returns-in-Shutdown c in
    let kind : c.args.fields.kind ≡ 1 = rw c.in-Shutdown.is at (kind_is at.In-Ok) in
    let none : c.args.body.now ≡ [] = elim c.else-ne.branch [
      | else-ne-via-then-ne+else-not-is_empty w ↦ empty c.args.body.now w.is_empty.ensures w.if-not-is_empty.false
      | else-ne-via-else-ne w ↦ absurd (true≢false (sym (rw c.in-Shutdown.is at c.ne.ensures) ∙ w.if-ne.false))
    ] in
    rw (none, kind) c.write_shutdown.ensures

pub returns-in-Messages : goal.returns-in-Messages
unfolding memx_reply
returns-in-Messages c =
    let kind : c.args.fields.kind ≡ 2 = rw c.in-Messages.is at (kind_is (goal.at.returns-in-Messages c).In-Ok) in
    rw kind c.write_messages.ensures
