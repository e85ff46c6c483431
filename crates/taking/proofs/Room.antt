-- Room enough: a packet's own blocks are no longer than the packet, and behind them go out at most 31 slots' worth.
-- Assumes nothing.
use Prim.Native.Nat.{ℕ, ◌+◌, ◌-◌, ◌*◌, ◌≤◌}
use mathlib.Core.Path.{◌≡◌, refl}
use mathlib.Core.Bool.{true, false, ◌&&◌}
use mathlib.Core.List.{List, [], ◌∷◌}
use native.Mathlib.Omega.{arith}
use lib.Dec.{leb}
use lib.ListN.{length, length-append, length-drop}
use Rattle.wire.specs.Checks.{◌is◌, refused, taken, ◌else◌}
use Rattle.wire.specs.Datagram as ufo
use Rattle.wire.specs.Fields.{Bytes}
use Rattle.wire.specs.declared.refusal.Refusal.TheVariants.{OtherSession, NotForRecord}
use Rattle.wire.proofs.Checks.{all-passed, not-both, taken-same, went}
use Rattle.wire.proofs.Tests.{by-test}
use Rattle.blocks.specs.Blocks.{frames}
use Rattle.blocks.proofs.Frames.{frames-append, frames-drop, frames-none}
use Rattle.ufo.specs.Down as down
use Rattle.ufo.proofs.DownMessages.{carries, carried}
use Rattle.memx.specs.Packet as memx
use Rattle.memx.specs.Read.{read}
use Rattle.memx.proofs.Carried.{carried-frames}
use Rattle.memx.proofs.Taken.{took}
use Rattle.held.specs.Slots.{freed_from}
use Rattle.held.specs.Hanging.{sound}
use Rattle.held.specs.Releasing.{released}
use Rattle.held.proofs.Hangs.{sound-fits, freed-fits}
use Rattle.held.proofs.Releases.{released-lean}
use Rattle.record.specs.Record.{hangs}
use Rattle.record.specs.declared.Record.{Record}
use Rattle.record.specs.declared.Session.{Session}
use Rattle.record.specs.declared.Session.TheVariants.{Ufo, Memx}
use Rattle.reports.specs.Reports.{Report, messages, news, end, top_of, of_ufo, of_memx, report_of}
use Rattle.taking.specs.Room.{ufo_room, memx_room, room_for}
use Rattle.taking.specs.Taking.{contradicts, own, delivered, outcome, taking}
use Rattle.taking.proofs.Took.{takes}

-- A packet's limit, and 31 slots.
pub ufo-room : ufo_room ≡ ufo.limit + 31 * 1472
ufo-room = refl

pub memx-room : memx_room ≡ memx.limit + 31 * 1472
memx-room = refl

-- a report's blocks are no longer than so many bytes
abbrev Within : ℕ → Report → Type 0
Within most (messages first ms) = length (frames ms) ≤ most
Within most (news highest) = Unit
Within most (end total) = Unit

own-within : (most next : ℕ) (report : Report) → Within most report → length (frames (own next report)) ≤ most
own-within most next (messages first ms) w =
    by-test (leb first next && leb next (top_of (messages first ms)))
    (λ e. rw e (omega (arith, frames-drop (next - first) ms)))
    (λ e. rw e (omega (arith, frames-none)))
own-within most next (news highest) w = omega (arith, frames-none)
own-within most next (end total) w = omega (arith, frames-none)

module _ (d : List ℕ) (b : Bytes d) where
  within-ufo : (p : down.Packet) (report : Report) → down.read d ≡ taken p → of_ufo p ≡ taken report → Within ufo.limit report
  within-ufo (down.accept session next) report e f = not-both (refused NotForRecord) NotForRecord report refl f
  within-ufo (down.reject reason) report e f = not-both (refused NotForRecord) NotForRecord report refl f
  within-ufo (down.messages first ms) report e f =
      let size = (carries d first ms e).size in
      rw (← taken-same (messages first ms) report f, ← carried d first ms b e, length-drop) (omega arith)
  within-ufo (down.end total) report e f = rw (← taken-same (end total) report f) tt

  within-memx : (own : ℕ) (p : memx.Packet) (report : Report) → read d ≡ taken p → of_memx own p ≡ taken report → Within memx.limit report
  within-memx own (memx.heartbeat session highest extra) report e f =
      rw (← taken-same (news highest) report (all-passed ((session is own else OtherSession) ∷ []) (taken (news highest)) report f).1) tt
  within-memx own (memx.shutdown session highest extra) report e f =
      rw (← taken-same (end highest) report (all-passed ((session is own else OtherSession) ∷ []) (taken (end highest)) report f).1) tt
  within-memx own (memx.messages session first extra ms) report e f =
      let size = (took d (memx.messages session first extra ms) e).size in
      rw (
        ← taken-same (messages first ms) report (all-passed ((session is own else OtherSession) ∷ []) (taken (messages first ms)) report
            f).1,
        ← carried-frames d session first extra ms e b,
        length-drop,
      ) (omega arith)

  -- with what is held besides
  room-for : (s : Session) (next : ℕ) (report : Report) → report_of s d ≡ taken report
      → length (frames (own next report)) + 31 * 1472 ≤ room_for s
  unfolding report_of
  room-for (Ufo name) next report e =
      let w = went (down.read d) of_ufo report e in
      omega (arith, own-within ufo.limit next report (within-ufo w.by report w.was w.gave))
  room-for (Memx id) next report e =
      let w = went (read d) (of_memx id.0) report e in
      omega (arith, own-within memx.limit next report (within-memx id.0 w.by report w.was w.gave))

  module _ (r : Record) (area : List ℕ) (report : Report) (s : sound r.held area ≡ true) (e : report_of r.session d ≡ taken report)
    where
      -- What goes out for a datagram takes no more than that,
      pub delivery-fits : length (frames (delivered r area report)) ≤ room_for r.session
      delivery-fits =
          let ms = own r.next.0 report in
          let held = freed_from (length ms) r.held r.next.0 in
          let fits = freed-fits r.held area (length ms) r.next.0 (sound-fits r.held area s) in
          let l = released-lean held area (r.next.0 + length ms) fits in
          let more = released held area (r.next.0 + length ms) in
          rw (frames-append ms more, length-append) (omega (arith, room-for r.session r.next.0 report e))

      -- so with that room whatever is reported and doesn't contradict the record is taken.
      pub room-enough : (room : ℕ) → room_for r.session ≤ room → hangs r ≡ true → contradicts r report ≡ false
          → taking r area d room ≡ taken (outcome r area report)
      room-enough room h k c = takes r area d room report k s e c (omega (arith, delivery-fits))
