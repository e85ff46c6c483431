-- Each return is one of the checks that all types share, or what the type's own reader says behind them.
use Prim.Native.Nat.{◌≤◌, ◌<◌}
use mathlib.Core.Path.{◌≡◌, sym, ◌∙◌}
use native.Mathlib.Omega.{arith}
use Rattle.wire.proofs.Checks.{passed-on}
use Rattle.wire.proofs.Tests.{tests}
use Rattle.memx.specs.Read.{kind_in, header_in, read}
use Rattle.memx.specs.Reading.{byte_of}
use Rattle.memx.specs.declared.layout.Kind.{Kind}
use Rattle.memx.specs.declared.layout.Kind.TheVariants.{Heartbeat, Shutdown, Messages}
use Rattle.memx.proofs.Types.{stands-for, stands-for-none}
use Rattle.memx.proofs.Told.{Headed, heartbeat-told, shutdown-told, messages-told}
use Rattle.memx.proofs.reading.read.Goals.{In_ok-kind, Else-d}
use Rattle.memx.proofs.reading.read.Goals.{in-Heartbeat+in_ok-read_news-in-Heartbeat, in-Shutdown+in_ok-read_news-in-Shutdown}
use Rattle.memx.proofs.reading.read.Goals.{in-Messages+in_ok-says-in-Messages}
use Rattle.memx.proofs.reading.read.Goals as goal

-- there are three types
few : (k : Kind) → byte_of k ≤ 2
few Heartbeat = omega arith
few Shutdown = omega arith
few Messages = omega arith

-- the type is known, and the header stands
kind : (c : In_ok-kind) → kind_in c.args.d.now ≡ byte_of c.in_ok-kind.kind
kind c = stands-for _ c.in_ok-kind.kind (sym c.try_from.ensures ∙ c.in_ok-kind.was)

byte_fits : (c : Else-d) → header_in c.args.d.now ≤ 255
byte_fits c = let f = (c.type_inv.d 1).fits in omega arith

headed : (c : Else-d) → Headed c.args.d.now
headed c = record { size = omega arith; own = omega arith; header = omega arith; byte = byte_fits c }

pub returns-in_err-kind : goal.returns-in_err-kind
unfolding read
returns-in_err-kind c =
    let none = stands-for-none _ c.in_err-kind.field-0.0 (sym c.try_from.ensures ∙ c.in_err-kind.was) in
    let over : 2 < kind_in c.args.d.now = none.1 in
    passed-on c.from_residual.result c.from_residual.ensures.1 ∙ rw none.0 (search tests)

pub returns-then-d-lt-HEADER : goal.returns-then-d-lt-HEADER
unfolding read
returns-then-d-lt-HEADER c =
    let known = few c.in_ok-kind.kind in
    let same = kind (goal.at.returns-then-d-lt-HEADER c).In_ok-kind in
    let k : kind_in c.args.d.now ≤ 2 = omega arith in
    search tests

pub returns-then-d : goal.returns-then-d
unfolding read
returns-then-d c =
    let known = few c.in_ok-kind.kind in
    let same = kind (goal.at.returns-then-d c).In_ok-kind in
    let k : kind_in c.args.d.now ≤ 2 = omega arith in
    search tests

pub returns-in_err-read_news-in-Heartbeat : goal.returns-in_err-read_news-in-Heartbeat
returns-in_err-read_news-in-Heartbeat c =
    let at = goal.at.returns-in_err-read_news-in-Heartbeat c in
    passed-on c.from_residual-in_err-read_news-in-Heartbeat.result c.from_residual-in_err-read_news-in-Heartbeat.ensures.1
    ∙ sym (heartbeat-told _ (headed at.Else-d) (rw c.in-Heartbeat.is at (kind at.In_ok-kind))
    ∙ rw (← c.read_news.ensures, c.in_err-read_news-in-Heartbeat.was))

pub returns-in_err-read_news-in-Shutdown : goal.returns-in_err-read_news-in-Shutdown
returns-in_err-read_news-in-Shutdown c =
    let at = goal.at.returns-in_err-read_news-in-Shutdown c in
    passed-on c.from_residual-in_err-read_news-in-Shutdown.result c.from_residual-in_err-read_news-in-Shutdown.ensures.1
    ∙ sym (shutdown-told _ (headed at.Else-d) (rw c.in-Shutdown.is at (kind at.In_ok-kind))
    ∙ rw (← c.read_news-in-Shutdown.ensures, c.in_err-read_news-in-Shutdown.was))

pub returns-in_err-says-in-Messages : goal.returns-in_err-says-in-Messages
returns-in_err-says-in-Messages c =
    let at = goal.at.returns-in_err-says-in-Messages c in
    passed-on c.from_residual-in_err-says-in-Messages.result c.from_residual-in_err-says-in-Messages.ensures.1
    ∙ sym (messages-told _ (headed at.Else-d) (rw c.in-Messages.is at (kind at.In_ok-kind))
    ∙ rw (← c.read_messages.ensures, c.in_err-says-in-Messages.was))

pub returns : goal.returns
returns c =
    let at = goal.at.returns c in
    let h = headed at.Else-d in
    let k = kind at.In_ok-kind in
    rw c.get8.ensures
    (elim c.match-kind.branch [
      | in-Heartbeat+in_ok-read_news-in-Heartbeat w ↦
          rw (w.says-is, heartbeat-told _ h (rw w.in-Heartbeat.is at k), ← w.read_news.ensures, w.in_ok-read_news-in-Heartbeat.was)
      | in-Shutdown+in_ok-read_news-in-Shutdown w ↦
          rw (w.says-is, shutdown-told _ h (rw w.in-Shutdown.is at k), ← w.read_news-in-Shutdown.ensures, w.in_ok-read_news-in-Shutdown.was)
      | in-Messages+in_ok-says-in-Messages w ↦
          rw (w.says-is, messages-told _ h (rw w.in-Messages.is at k), ← w.read_messages.ensures, w.in_ok-says-in-Messages.was)
    ])
