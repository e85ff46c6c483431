-- Whose packets are reported. In MEMX style a packet names its session, and only the record's own is reported. In UFO style an `S` or an
-- `E` is, and names none: what comes is reported to whatever record it is fed to, so one line must feed one record: the desk's duty.
-- Assumes nothing.
use Prim.Native.Nat.{ℕ}
use mathlib.Core.Path.{◌≡◌, refl}
use mathlib.Core.List.{List, [], ◌∷◌}
use mathlib.Core.Logic.{◌⊎◌, inl, inr}
use borrow.Author.Tests.{eqb-true}
use Rattle.wire.specs.Checks.{◌is◌, refused, taken, ◌else◌}
use Rattle.wire.specs.declared.kinds.Name.{Name}
use Rattle.wire.specs.declared.kinds.SessionId.{SessionId}
use Rattle.wire.specs.declared.refusal.Refusal.TheVariants.{OtherSession, NotForRecord}
use Rattle.wire.proofs.Checks.{not-both, all-passed, went}
use Rattle.ufo.specs.Down as ufo
use Rattle.memx.specs.Packet as memx
use Rattle.memx.specs.Read as memx_read
use Rattle.record.specs.declared.Session.TheVariants.{Ufo, Memx}
use Rattle.reports.proofs.Order.{session_of}
use Rattle.reports.specs.Reports.{Report, messages, news, end, of_ufo, owned, of_memx, report_of}

-- what is reported to a UFO record was read as `S` or as `E`
pub reported-ufo : (name : Name) (d : List ℕ) (report : Report) → report_of (Ufo name) d ≡ taken report
    → ((first : ℕ) × (ms : List (List ℕ)) × (ufo.read d ≡ taken (ufo.messages first ms)))
    ⊎ ((total : ℕ) × (ufo.read d ≡ taken (ufo.end total)))
unfolding report_of
reported-ufo name d report e = let w = went (ufo.read d) of_ufo report e in by w.by w.was w.gave where
  by : (p : ufo.Packet) → ufo.read d ≡ taken p → of_ufo p ≡ taken report
      → ((first : ℕ) × (ms : List (List ℕ)) × (ufo.read d ≡ taken (ufo.messages first ms)))
      ⊎ ((total : ℕ) × (ufo.read d ≡ taken (ufo.end total)))
  by (ufo.accept session next) q f = not-both (refused NotForRecord) NotForRecord report refl f
  by (ufo.reject reason) q f = not-both (refused NotForRecord) NotForRecord report refl f
  by (ufo.messages first ms) q f = inl (first, ms, q)
  by (ufo.end total) q f = inr (total, q)

-- and is the same for every UFO session
pub same-for-every-name : (a b : Name) (d : List ℕ) → report_of (Ufo a) d ≡ report_of (Ufo b) d
unfolding report_of
same-for-every-name a b d = refl

-- what is reported to a MEMX record has its session
pub reported-memx : (own : SessionId) (d : List ℕ) (report : Report) → report_of (Memx own) d ≡ taken report
    → (p : memx.Packet) × (memx_read.read d ≡ taken p) × (session_of p ≡ own.0)
unfolding report_of
reported-memx own d report e = let w = went (memx_read.read d) (of_memx own.0) report e in (w.by, w.was, by w.by w.gave) where
  same : (session : ℕ) (said : Report) → owned own.0 session said ≡ taken report → session ≡ own.0
  same session said f = eqb-true session own.0 (all-passed ((session is own.0 else OtherSession) ∷ []) (taken said) report f).0.0

  by : (p : memx.Packet) → of_memx own.0 p ≡ taken report → session_of p ≡ own.0
  by (memx.heartbeat session highest extra) f = same session (news highest) f
  by (memx.shutdown session highest extra) f = same session (end highest) f
  by (memx.messages session first extra ms) f = same session (messages first ms) f
