-- What the reader says to a header alone is a list of checks (`news-verdict`); past the header's tests that of the number is left.
use Prim.Native.Nat.{ℕ, ◌+◌, ◌-◌, ◌^◌, ◌≤◌, ◌<◌}
use mathlib.Core.Path.{◌≡◌}
use mathlib.Core.List.{List, [], ◌++◌}
use native.Mathlib.Omega.{arith}
use borrow.Author.Tests.{ne_eqb}
use lib.ListN.{length}
use Rattle.wire.specs.Checks.{taken, checked}
use Rattle.wire.specs.declared.refusal.Refusal.TheVariants.{Overlong, Form, Bound}
use Rattle.wire.proofs.Tests.{tests}
use Rattle.wire.proofs.Settling.{refuses, lacks-room, has_room}
use Rattle.memx.specs.Packet.{limit, header_size, headed}
use Rattle.memx.specs.Read.{news, read}
use Rattle.memx.specs.Reading.{byte_of}
use Rattle.memx.proofs.Header.{length-headed}
use Rattle.memx.proofs.Verdicts.{headed_checks, rest_checks, news-verdict}
use Rattle.memx_write.proofs.write_news.Goals.{Start}
use Rattle.memx_write.proofs.write_news.Goals as goal

-- what would be written, and what its reader says to it
abbrev packet : Start → List ℕ
packet c = let a = c.args in headed (byte_of a.kind) a.session.0 a.highest.0 a.extra.now []

verdict : (c : Start) → let a = c.args in
    read (packet c) ≡ checked (headed_checks (byte_of a.kind) a.extra.now 0 ++ rest_checks a.highest.0 0)
    (taken (news (byte_of a.kind) a.session.0 a.highest.0 a.extra.now))
verdict c =
    let a = c.args in
    news-verdict (byte_of a.kind) a.session.0 a.highest.0 a.extra.now [] (omega arith) (omega arith)
    (ne_eqb (byte_of a.kind) 2 (λ e. omega arith))

long : (c : Start) → length (packet c) ≡ header_size + length c.args.extra.now + 0
long c = let a = c.args in length-headed (byte_of a.kind) a.session.0 a.highest.0 a.extra.now []

-- past the header's tests, and past the last one
headed-well : (c : Start) → let a = c.args in
    header_size + length a.extra.now ≤ limit → header_size + length a.extra.now ≤ 255
    → read (packet c)
    ≡ checked (rest_checks a.highest.0 0) (taken (news (byte_of a.kind) a.session.0 a.highest.0 a.extra.now))
headed-well c short header =
    let a = c.args in
    let known : byte_of a.kind ≤ 2 = omega arith in
    let size : header_size + length a.extra.now + 0 ≤ limit = omega arith in
    rw (verdict c) (search tests)

passed : (c : Start) → let a = c.args in
    header_size + length a.extra.now ≤ limit → header_size + length a.extra.now ≤ 255 → a.highest.0 ≤ 2 ^ 64 - 2
    → read (packet c) ≡ taken (news (byte_of a.kind) a.session.0 a.highest.0 a.extra.now)
passed c short header bound = rw (headed-well c short header) (search tests)

pub returns-then-header-gt-LIMIT : goal.returns-then-header-gt-LIMIT
returns-then-header-gt-LIMIT c =
    let size : limit < header_size + length c.args.extra.now + 0 = omega arith in
    refuses _ _ Overlong (rw (verdict (goal.at.returns-then-header-gt-LIMIT c).Start) (search tests))

pub returns-then-extra-gt-MOST_EXTRA : goal.returns-then-extra-gt-MOST_EXTRA
returns-then-extra-gt-MOST_EXTRA c =
    let a = c.args in
    let known : byte_of a.kind ≤ 2 = omega arith in
    let size : header_size + length a.extra.now + 0 ≤ limit = omega arith in
    let header : 255 < header_size + length a.extra.now = omega arith in
    refuses _ _ Form (rw (verdict (goal.at.returns-then-extra-gt-MOST_EXTRA c).Start) (search tests))

pub returns-then-highest-eq-CEILING : goal.returns-then-highest-eq-CEILING
returns-then-highest-eq-CEILING c =
    let s = (goal.at.returns-then-highest-eq-CEILING c).Start in
    let bound : 2 ^ 64 - 2 < c.args.highest.0 = omega arith in
    refuses _ _ Bound (rw (headed-well s (omega arith) (omega arith)) (search tests))

pub returns-then-out-header : goal.returns-then-out-header
returns-then-out-header c =
    let s = (goal.at.returns-then-out-header c).Start in
    let l = long s in
    lacks-room _ (packet s) c.args.out.now (rw (passed s (omega arith) (omega arith) (omega arith))) (omega arith)

pub returns : goal.returns
returns c =
    let s = (goal.at.returns c).Start in
    let l = long s in
    has_room _ (packet s) c.args.out.now (rw (passed s (omega arith) (omega arith) (omega arith))) _ _ (omega arith) (omega arith)
    c.put_header.ensures
