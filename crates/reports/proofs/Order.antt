-- A datagram is reported in the scope's order: the reader's refusal stands; then in UFO style 16, for what is not for the record, and in
-- MEMX style 11, for another session. UFO has no 11: an `S` or an `E` names no session.
-- Assumes nothing.
use Prim.Native.Nat.{ℕ}
use mathlib.Core.Path.{◌≡◌}
use mathlib.Core.List.{List}
use borrow.Author.Tests.{ne_eqb}
use Rattle.wire.specs.Checks.{refused, taken}
use Rattle.wire.specs.declared.kinds.Name.{Name}
use Rattle.wire.specs.declared.kinds.SessionId.{SessionId}
use Rattle.wire.specs.declared.refusal.Refusal.{Refusal}
use Rattle.wire.specs.declared.refusal.Refusal.TheVariants.{OtherSession, NotForRecord}
use Rattle.ufo.specs.Down as ufo
use Rattle.memx.specs.Packet as memx
use Rattle.memx.specs.Read as memx_read
use Rattle.record.specs.declared.Session.TheVariants.{Ufo, Memx}
use Rattle.reports.specs.Reports.{report_of, of_memx}

module _ (name : Name) (d : List ℕ) where
  pub ufo-reader-first : (why : Refusal) → ufo.read d ≡ refused why → report_of (Ufo name) d ≡ refused why
  unfolding report_of
  ufo-reader-first why e = rw e

  pub then-accept-is-16 : (session : List ℕ) (next : ℕ) → ufo.read d ≡ taken (ufo.accept session next)
      → report_of (Ufo name) d ≡ refused NotForRecord
  unfolding report_of
  then-accept-is-16 session next e = rw e

  pub then-reject-is-16 : (reason : ℕ) → ufo.read d ≡ taken (ufo.reject reason) → report_of (Ufo name) d ≡ refused NotForRecord
  unfolding report_of
  then-reject-is-16 reason e = rw e

-- the session that a MEMX packet names
abbrev pub session_of : memx.Packet → ℕ
session_of (memx.heartbeat session highest extra) = session
session_of (memx.shutdown session highest extra) = session
session_of (memx.messages session first extra ms) = session

module _ (own : SessionId) (d : List ℕ) where
  pub memx-reader-first : (why : Refusal) → memx_read.read d ≡ refused why → report_of (Memx own) d ≡ refused why
  unfolding report_of
  memx-reader-first why e = rw e

  other : (p : memx.Packet) → ((session_of p ≡ own.0) → ⊥) → of_memx own.0 p ≡ refused OtherSession
  other (memx.heartbeat session highest extra) f = rw (ne_eqb session own.0 f)
  other (memx.shutdown session highest extra) f = rw (ne_eqb session own.0 f)
  other (memx.messages session first extra ms) f = rw (ne_eqb session own.0 f)

  pub then-another-session-is-11 : (p : memx.Packet) → memx_read.read d ≡ taken p → ((session_of p ≡ own.0) → ⊥)
      → report_of (Memx own) d ≡ refused OtherSession
  unfolding report_of
  then-another-session-is-11 p e f = rw e (other p f)
