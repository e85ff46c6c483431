-- What the reader says to what would be written is a list of checks (`laid-verdict`), and the code makes them in their order: past the
-- header's tests those of the blocks are left, and past the blocks' test those of the numbers.
use Prim.Native.Nat.{ℕ, ◌+◌, ◌-◌, ◌^◌, ◌≤◌, ◌<◌}
use mathlib.Core.Path.{◌≡◌, ◌∙◌}
use mathlib.Core.Bool.{true}
use mathlib.Core.List.{List, ◌++◌}
use native.Mathlib.Omega.{arith}
use lib.ListN.{length}
use Rattle.wire.specs.Checks.{taken, Check, checked}
use Rattle.wire.specs.declared.refusal.Refusal.TheVariants.{Overlong, Framing, Form, Absent, Bound}
use Rattle.wire.proofs.Tests.{tests}
use Rattle.wire.proofs.Settling.{refuses, lacks-room, has_room}
use Rattle.blocks.specs.Blocks.{cut, is_whole, messages_of}
use Rattle.memx.specs.Packet.{Packet, messages, limit, header_size, laid}
use Rattle.memx.specs.Read.{read}
use Rattle.blocks.proofs.Counting.{fills-says}
use Rattle.memx.proofs.Header.{length-laid}
use Rattle.memx.proofs.Verdicts.{headed_checks, blocks_checks, laid-verdict}
use Rattle.memx_write.proofs.write_messages.Goals.{After-exactly, Start}
use Rattle.memx_write.proofs.write_messages.Goals as goal

-- what would be written, and what its reader says to it
abbrev packet : Start → List ℕ
packet c = let a = c.args in laid a.session.0 a.first.0 a.count a.extra.now a.blocks.now

abbrev taking : Start → Packet
taking c = let a = c.args in messages a.session.0 a.first.0 a.extra.now (messages_of (cut a.count a.blocks.now))

abbrev of_blocks : Start → List Check
of_blocks c = let a = c.args in blocks_checks a.first.0 a.count a.blocks.now

verdict : (c : Start) → let a = c.args in
    read (packet c) ≡ checked (headed_checks 2 a.extra.now (2 + length a.blocks.now) ++ of_blocks c) (taken (taking c))
verdict c =
    let a = c.args in
    laid-verdict a.session.0 a.first.0 a.count a.extra.now a.blocks.now (omega arith) (omega arith) (omega arith)

long : (c : Start) → let a = c.args in length (packet c) ≡ header_size + length a.extra.now + 2 + length a.blocks.now
long c = let a = c.args in length-laid a.session.0 a.first.0 a.count a.extra.now a.blocks.now

-- past the header's tests
headed-well : (c : Start) → let a = c.args in
    header_size + length a.extra.now + (2 + length a.blocks.now) ≤ limit → header_size + length a.extra.now ≤ 255
    → read (packet c) ≡ checked (of_blocks c) (taken (taking c))
headed-well c size header = rw (verdict c) (search tests)

-- what the blocks' test said
whole : (c : After-exactly) → let a = c.args in is_whole (cut a.count a.blocks.now) ≡ c.exactly.result
whole c =
    let a = c.args in
    fills-says a.blocks.now 0 a.count c.exactly.result (omega arith) c.exactly.ensures

-- past the last test the packet is taken
passed : (c : Start) → let a = c.args in
    header_size + length a.extra.now + (2 + length a.blocks.now) ≤ limit → header_size + length a.extra.now ≤ 255
    → is_whole (cut a.count a.blocks.now) ≡ true → ¬ (a.first.0 ≡ 0) → ¬ (a.count ≡ 0) → a.first.0 + a.count ≤ 2 ^ 64 - 1
    → read (packet c) ≡ taken (taking c)
passed c size header all_whole numbered counted bound = rw (headed-well c size header, all_whole) (search tests)

pub returns-then-place-gt-LIMIT : goal.returns-then-place-gt-LIMIT
returns-then-place-gt-LIMIT c =
    let a = c.args in
    let size : limit < header_size + length a.extra.now + (2 + length a.blocks.now) = omega arith in
    refuses _ _ Overlong (rw (verdict (goal.at.returns-then-place-gt-LIMIT c).Start) (search tests))

pub returns-then-place-blocks : goal.returns-then-place-blocks
returns-then-place-blocks c =
    let a = c.args in
    let size : limit < header_size + length a.extra.now + (2 + length a.blocks.now) = omega arith in
    refuses _ _ Overlong (rw (verdict (goal.at.returns-then-place-blocks c).Start) (search tests))

pub returns-then-more-gt-MOST_EXTRA : goal.returns-then-more-gt-MOST_EXTRA
returns-then-more-gt-MOST_EXTRA c =
    let a = c.args in
    let size : header_size + length a.extra.now + (2 + length a.blocks.now) ≤ limit = omega arith in
    let header : 255 < header_size + length a.extra.now = omega arith in
    refuses _ _ Form (rw (verdict (goal.at.returns-then-more-gt-MOST_EXTRA c).Start) (search tests))

pub returns-then-not-exactly : goal.returns-then-not-exactly
returns-then-not-exactly c =
    let at = goal.at.returns-then-not-exactly c in
    refuses _ _ Framing
    (rw (headed-well at.Start (omega arith) (omega arith), whole at.After-exactly, c.if-not-exactly.true))

pub returns-then-number-eq0 : goal.returns-then-number-eq0
returns-then-number-eq0 c =
    let at = goal.at.returns-then-number-eq0 c in
    refuses _ _ Absent
    (rw (headed-well at.Start (omega arith) (omega arith), whole at.After-exactly, c.if-not-exactly.false) (search tests))

pub returns-then-count-eq0 : goal.returns-then-count-eq0
returns-then-count-eq0 c =
    let at = goal.at.returns-then-count-eq0 c in
    refuses _ _ Absent
    (rw (headed-well at.Start (omega arith) (omega arith), whole at.After-exactly, c.if-not-exactly.false) (search tests))

pub returns-then-number-count : goal.returns-then-number-count
returns-then-number-count c =
    let a = c.args in
    let at = goal.at.returns-then-number-count c in
    let bound : 2 ^ 64 - 1 < a.first.0 + a.count = omega arith in
    refuses _ _ Bound
    (rw (headed-well at.Start (omega arith) (omega arith), whole at.After-exactly, c.if-not-exactly.false) (search tests))

pub returns-then-out-size : goal.returns-then-out-size
returns-then-out-size c =
    let at = goal.at.returns-then-out-size c in
    let s = at.Start in
    let l = long s in
    let w = whole at.After-exactly ∙ c.if-not-exactly.false in
    lacks-room _ (packet s) c.args.out.now
    (rw (passed s (omega arith) (omega arith) w c.if-number-eq0.false c.if-count-eq0.false (omega arith))) (omega arith)

pub returns : goal.returns
returns c =
    let at = goal.at.returns c in
    let s = at.Start in
    let l = long s in
    let w = whole at.After-exactly ∙ c.if-not-exactly.false in
    has_room _ (packet s) c.args.out.now
    (rw (passed s (omega arith) (omega arith) w c.if-number-eq0.false c.if-count-eq0.false (omega arith))) _ _ (omega arith) (omega arith)
    c.put_messages.ensures
