-- What is reported: its numbers keep the style's bounds, and its blocks stand in the datagram. Whose tells of its session.
-- Assumes nothing.
use Prim.Native.Nat.{ℕ, ◌+◌, ◌^◌, ◌≤◌, ◌<◌}
use mathlib.Core.List.{List, [], ◌∷◌}
use mathlib.Core.Path.{◌≡◌, refl}
use native.Mathlib.Omega.{arith}
use borrow.Author.Tests.{le-leb}
use lib.ListN.{length, drop}
use Rattle.wire.specs.Checks.{◌is◌, Verdict, refused, taken, ◌else◌, ◌told_by◌}
use Rattle.wire.specs.Fields.{Bytes}
use Rattle.wire.specs.declared.kinds.Name.{Name}
use Rattle.wire.specs.declared.kinds.SessionId.{SessionId}
use Rattle.wire.specs.declared.refusal.Refusal.TheVariants.{OtherSession, NotForRecord}
use Rattle.wire.proofs.Checks.{not-both, all-passed, went}
use Rattle.blocks.specs.Blocks.{whole, cut}
use Rattle.blocks.proofs.Counting.{fills-cut, length_cut}
use Rattle.ufo.specs.Down as ufo
use Rattle.ufo.proofs.DownMessages.{carries}
use Rattle.ufo.proofs.Exact as ufo_exact
use Rattle.memx.specs.Packet as memx
use Rattle.memx.specs.Read as memx_read
use Rattle.memx.proofs.Carried.{carried-long, carried-cut}
use Rattle.memx.proofs.Exact as memx_exact
use Rattle.record.specs.Record.{highest}
use Rattle.reports.specs.Reports.{Report, messages, news, end, of_ufo, owned, of_memx, report_of, blocks_at, reported_of, top_of, Fills}
use Rattle.reports.specs.Reports.{blocks_from}
use Rattle.record.specs.declared.Session.{Session}
use Rattle.record.specs.declared.Session.TheVariants.{Ufo, Memx}
use Rattle.reports.specs.declared.Reported.{Reported}
use Rattle.reports.specs.declared.Reported.TheVariants as reported

-- messages stand in the datagram from p on
abbrev Stand : List ℕ → ℕ → Report → Type 0
Stand d p (messages first ms) = Fills d p first (length ms) × (blocks_from d p (length ms) ≡ ms)
Stand d p (news n) = Unit
Stand d p (end total) = Unit

pub record Sound (s : Session) (d : List ℕ) (report : Report) : Type 0 where
  pub bound : top_of report ≤ highest s
  pub stand : Stand d (blocks_at s d) report

standing : (d : List ℕ) (p first : ℕ) (ms : List (List ℕ)) → p ≤ length d → cut (length ms) (drop p d) ≡ whole ms → 1 ≤ first
    → first + length ms < 2 ^ 64 → Stand d p (messages first ms)
standing d p first ms h c s b = (record { blocks = rw (le-leb p (length d) h, c); some = s; bound = b }, rw c)

-- there are as many messages as are counted
pub counted : (d : List ℕ) (p first count : ℕ) → Fills d p first count → length (blocks_from d p count) ≡ count
counted d p first count f = length_cut count (drop p d) (blocks_from d p count) (fills-cut d p count f.blocks).1

-- what a MEMX packet of the own session says is what is reported
owns : (id : SessionId) (session : ℕ) (d : List ℕ) (said report : Report) → Sound (Memx id) d said
    → owned id.0 session said ≡ taken report → Sound (Memx id) d report
owns id session d said report s e =
    let p = (all-passed ((session is id.0 else OtherSession) ∷ []) (taken said) report e).1 in
    let same : said ≡ report = cc in
    rw (← same) s

module _ (d : List ℕ) (b : Bytes d) where
  sound-ufo : (name : Name) (p : ufo.Packet) (report : Report) → ufo.read d ≡ taken p → of_ufo p ≡ taken report → Sound (Ufo name) d report
  sound-ufo name (ufo.accept session next) report e f = not-both (refused NotForRecord) NotForRecord report refl f
  sound-ufo name (ufo.reject reason) report e f = not-both (refused NotForRecord) NotForRecord report refl f
  sound-ufo name (ufo.messages first ms) report e f =
      let c = carries d first ms e in
      let some = c.some in
      let most = c.bound in
      let same : messages first ms ≡ report = cc in
      rw (← same) (record { bound = omega arith; stand = standing d 7 first ms c.header c.blocks (omega arith) (omega arith) })
  sound-ufo name (ufo.end total) report e f =
      let same : end total ≡ report = cc in
      rw (← same) (record { bound = (ufo_exact.read-is-written d b (ufo.end total) e).0; stand = tt })

  sound-memx : (id : SessionId) (p : memx.Packet) (report : Report) → memx_read.read d ≡ taken p → of_memx id.0 p ≡ taken report
      → Sound (Memx id) d report
  sound-memx id (memx.heartbeat session number extra) report e f =
      owns id session d (news number) report
      (record { bound = (memx_exact.read-is-written d b (memx.heartbeat session number extra) e).0.bound; stand = tt }) f
  sound-memx id (memx.shutdown session number extra) report e f =
      owns id session d (end number) report
      (record { bound = (memx_exact.read-is-written d b (memx.shutdown session number extra) e).0.bound; stand = tt }) f
  sound-memx id (memx.messages session first extra ms) report e f =
      let fit = (memx_exact.read-is-written d b (memx.messages session first extra ms) e).0 in
      let some = fit.numbered in
      let most = fit.bound in
      let stands = standing d (memx_read.blocks_at d) first ms (carried-long d session first extra ms e)
      (carried-cut d session first extra ms e) some (omega arith) in
      owns id session d (messages first ms) report (record { bound = omega arith; stand = stands }) f

  pub sound : (s : Session) (report : Report) → report_of s d ≡ taken report → Sound s d report
  unfolding report_of
  sound (Ufo name) report e =
      let w = went (ufo.read d) of_ufo report e in
      sound-ufo name w.by report w.was w.gave
  sound (Memx id) report e =
      let w = went (memx_read.read d) (of_memx id.0) report e in
      sound-memx id w.by report w.was w.gave

-- a lawful packet, written, is reported as what it is
pub reports-ufo : (name : Name) (p : ufo.Packet) → ufo.Fit p → report_of (Ufo name) (ufo.write p) ≡ of_ufo p
unfolding report_of
reports-ufo name p fit = rw (ufo_exact.written-is-read p fit)

pub reports-memx : (id : SessionId) (p : memx.Packet) → memx.Fit p → report_of (Memx id) (memx.write p) ≡ of_memx id.0 p
unfolding report_of
reports-memx id p fit = rw (memx_exact.written-is-read p fit)

-- what the code's answer says of the verdict
pub record SaysMessages (place first count p : ℕ) (v : Verdict Report) : Type 0 where
  pub ms : List (List ℕ)
  pub counts : count ≡ length ms
  pub places : p ≡ place
  pub report : v ≡ taken (messages first ms)

abbrev pub Says : ℕ → Verdict Reported → Verdict Report → Type 0
Says place (refused why) v = v ≡ refused why
Says place (taken (reported.Messages first count p)) v = SaysMessages place first.0 count p v
Says place (taken (reported.News number)) v = v ≡ taken (news number.0)
Says place (taken (reported.End total)) v = v ≡ taken (end total.0)

says : (place : ℕ) (v : Verdict Report) → Says place (v told_by reported_of place) v
says place (refused why) = refl
says place (taken (messages first ms)) = record { ms = ms; counts = refl; places = refl; report = refl }
says place (taken (news number)) = refl
says place (taken (end total)) = refl

pub reported-so : (place : ℕ) (v : Verdict Report) (h : Verdict Reported) → h ≡ (v told_by reported_of place) → Says place h v
reported-so place v h e = rw e (says place v)
