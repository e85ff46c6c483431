-- What the numbers of a broadcast mean: a MEMX heartbeat names the highest number published, a shutdown the total.
-- Assumes nothing.
use Prim.Native.Nat.{ℕ, max, ◌≤◌}
use mathlib.Core.Path.{◌≡◌, refl}
use mathlib.Core.Bool.{Bool, true, false, not, ◌&&◌, ◌||◌, true≢false, or-false, or-true}
use mathlib.Core.List.{List, [], ◌∷◌}
use native.Mathlib.Omega.{arith}
use borrow.Author.Tests.{leb-true}
use lib.Dec.{leb}
use lib.ListN.{length}
use Rattle.wire.specs.Fields.{be, bytes_of}
use Rattle.wire.specs.Checks.{◌is◌, Verdict, taken, ◌else◌, ◌into◌}
use Rattle.wire.proofs.Checks.{all-passed, taken-same}
use Rattle.wire.specs.declared.kinds.SessionId.{SessionId}
use Rattle.wire.specs.declared.refusal.Refusal.TheVariants.{OtherSession}
use Rattle.blocks.specs.Blocks.{frames, cut}
use Rattle.memx.specs.Packet.{Packet, heartbeat, shutdown}
use Rattle.memx.specs.Read as memx
use Rattle.held.specs.Slots.{area_size, freed_from}
use Rattle.held.specs.Hanging.{every, in_place}
use Rattle.held.specs.Releasing.{run, held_from}
use Rattle.held.proofs.Hangs.{none-sound}
use Rattle.missing.specs.Missing.{◌to◌}
use Rattle.missing.specs.Missing as lists
use Rattle.record.specs.Record.{fresh, hangs}
use Rattle.record.specs.Standing.{State, complete, missing, standing}
use Rattle.record.specs.declared.Record.{Record}
use Rattle.record.specs.declared.Session.{Session}
use Rattle.record.specs.declared.Session.TheVariants.{Memx}
use Rattle.reports.specs.Reports.{Report, news, end, owned, of_memx, report_of}
use Rattle.taking.specs.Room.{memx_room}
use Rattle.taking.specs.Taking.{Taking, reporting, taking}
use Rattle.taking.proofs.Took.{Took, took}

-- what a packet of the own session said is what was reported
reported-so : (s : Session) (own : SessionId) (d : List ℕ) (p : Packet) (session : ℕ) (said report : Report)
    → s ≡ Memx own
    → memx.read d ≡ taken p
    → of_memx own.0 p ≡ owned own.0 session said
    → report_of s d ≡ taken report
    → said ≡ report
unfolding report_of
reported-so s own d p session said report m f g h =
    taken-same said report (all-passed ((session is own.0 else OtherSession) ∷ []) (taken said) report (rw (m, f, g) at h)).1

-- an end that does not contradict the record is not below T
no-clash : (a b : Bool) → a || true && not b ≡ false → b ≡ true
no-clash true b e = absurd (true≢false e)
no-clash false true e = refl
no-clash false false e = absurd (true≢false e)

module _ (r : Record) (own : SessionId) (mine : r.session ≡ Memx own) (area d : List ℕ) (room : ℕ) (t : Taking)
    (e : taking r area d room ≡ taken t) where
  w : Took r area d room t
  w = took r area d room t e

  -- T becomes the number of a heartbeat, if that is higher, and nothing ends.
  pub heartbeat-names-the-highest : (session n : ℕ) (extra : List ℕ) → memx.read d ≡ taken (heartbeat session n extra)
      → (t.after.top.0 ≡ max r.top.0 n) × (t.after.ended ≡ r.ended)
  heartbeat-names-the-highest session n extra f =
      let said = reported-so r.session own d (heartbeat session n extra) session (news n) w.report mine f refl w.reports in
      rw (w.reported.gives, ← said) (refl, or-false r.ended)

  -- T is the number of a shutdown, and the session has ended.
  pub shutdown-names-the-total : (session n : ℕ) (extra : List ℕ) → memx.read d ≡ taken (shutdown session n extra)
      → (t.after.top.0 ≡ n) × (t.after.ended ≡ true)
  shutdown-names-the-total session n extra f =
      let said = reported-so r.session own d (shutdown session n extra) session (end n) w.report mine f refl w.reports in
      let high : leb r.top.0 n ≡ true =
      no-clash (r.ended && not (leb n r.top.0)) (leb r.top.0 n) (rw (← said) at w.reported.agrees) in
      let bound = leb-true r.top.0 n high in
      rw (w.reported.gives, ← said) (omega arith, or-true r.ended)

-- a fresh record of session 1 that takes two datagrams, with any area of 32 slots and room for a packet and all held messages
module _ (area : List ℕ) (slots : area_size ≤ length area) where
  abbrev after_two : List ℕ → List ℕ → Verdict State
  after_two d e =
      taking (fresh (Memx (record { 0 = 1 }))) area d memx_room into λ t.
      taking t.after t.area e memx_room into λ u. standing u.after

  -- Message 1 comes, then a heartbeat with the number 2: message 2 is missing.
  pub one-then-heartbeat-two : after_two (bytes_of 23 0x02_12_0000000000000001_0000000000000001_0001_0001_5A)
      (bytes_of 18 0x00_12_0000000000000001_0000000000000002) ≡ taken (missing ((2 to 2) ∷ []))
  unfolding be bytes_of frames cut memx.read memx.read_news memx.read_messages freed_from run held_from every in_place hangs report_of
      reporting
      taking lists.ranges lists.missing standing
  one-then-heartbeat-two = rw (none-sound area slots, none-sound area slots)

  -- Messages 1 and 2 come, then a shutdown with the number 2: the record is complete.
  pub two-then-shutdown-two : after_two (bytes_of 26 0x02_12_0000000000000001_0000000000000001_0002_0001_5A_0001_5A)
      (bytes_of 18 0x01_12_0000000000000001_0000000000000002) ≡ taken complete
  unfolding be bytes_of frames cut memx.read memx.read_news memx.read_messages freed_from run held_from every in_place hangs report_of
      reporting
      taking lists.ranges lists.missing standing
  two-then-shutdown-two = rw (none-sound area slots, none-sound area slots)
