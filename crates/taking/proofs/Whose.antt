-- Whose packets a record takes: in MEMX style those that name its session; in UFO style any `S` or `E` that it is fed, since these name
-- none (one line, one record is the desk's duty).
-- Assumes nothing.
use Prim.Native.Nat.{ℕ}
use mathlib.Core.Path.{◌≡◌, ap, sym, ◌∙◌}
use mathlib.Core.List.{List}
use mathlib.Core.Logic.{◌⊎◌}
use Rattle.wire.specs.Checks.{taken}
use Rattle.wire.specs.declared.kinds.Name.{Name}
use Rattle.wire.specs.declared.kinds.SessionId.{SessionId}
use Rattle.ufo.specs.Down as ufo
use Rattle.memx.specs.Packet as memx
use Rattle.memx.specs.Read as memx_read
use Rattle.record.specs.declared.Record.{Record}
use Rattle.record.specs.declared.Session.TheVariants.{Ufo, Memx}
use Rattle.reports.specs.Reports.{report_of}
use Rattle.reports.proofs.Order.{session_of}
use Rattle.reports.proofs.Whose.{reported-ufo, reported-memx}
use Rattle.taking.specs.Taking.{Taking, taking}
use Rattle.taking.proofs.Took.{took}

module _ (r : Record) (area d : List ℕ) (room : ℕ) (t : Taking) (e : taking r area d room ≡ taken t) where
  pub takes-S-or-E : (name : Name) → r.session ≡ Ufo name
      → ((first : ℕ) × (ms : List (List ℕ)) × (ufo.read d ≡ taken (ufo.messages first ms)))
      ⊎ ((total : ℕ) × (ufo.read d ≡ taken (ufo.end total)))
  takes-S-or-E name s =
      let w = took r area d room t e in
      reported-ufo name d w.report (ap (λ x. report_of x d) (sym s) ∙ w.reports)

  pub takes-its-session : (own : SessionId) → r.session ≡ Memx own
      → (p : memx.Packet) × (memx_read.read d ≡ taken p) × (session_of p ≡ own.0)
  takes-its-session own s =
      let w = took r area d room t e in
      reported-memx own d w.report (ap (λ x. report_of x d) (sym s) ∙ w.reports)
