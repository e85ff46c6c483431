-- The stories, each line worked out with any area of 32 slots.
-- Assumes nothing.
use Prim.Native.Nat.{ℕ, ◌≤◌}
use mathlib.Core.Path.{◌≡◌, refl, ap, ◌∙◌}
use mathlib.Core.List.{List, [], ◌∷◌}
use mathlib.Core.Bool.{Bool, true, false}
use native.Mathlib.Omega.{arith}
use borrow.Author.Tests.{le-leb}
use lib.ListN.{length}
use lib.Seq.{sets, length-sets}
use Rattle.wire.specs.Fields.{be, bytes_of}
use Rattle.wire.specs.Checks.{Verdict, refused, taken}
use Rattle.wire.specs.declared.refusal.Refusal.TheVariants.{Contradiction}
use Rattle.text.specs.Text.{letter_or_digit, blank, text_then_spaces}
use Rattle.blocks.specs.Blocks.{stated, frame, frames, cut, cut_full}
use Rattle.ufo.specs.Down.{read_s, read_e, read}
use Rattle.memx.specs.Read as memx
use Rattle.held.specs.Slots.{area_size, longest, freed_from, slot_at, held_message}
use Rattle.held.specs.Hanging.{every, in_place, sound}
use Rattle.held.specs.Holding.{hold_one, hold_all}
use Rattle.held.specs.Releasing.{run, held_from}
use Rattle.held.proofs.Areas.{other-first, stored-stated, stored-message}
use Rattle.held.proofs.Hangs.{none-sound}
use Rattle.missing.specs.Missing as lists
use Rattle.record.specs.Record.{hangs}
use Rattle.record.specs.Standing.{standing}
use Rattle.record.specs.declared.Record.{Record}
use Rattle.record.specs.declared.Session.{Session}
use Rattle.record.specs.declared.Session.TheVariants.{Memx}
use Rattle.reports.specs.Reports.{report_of}
use Rattle.taking.specs.Room.{ufo_room as enough, memx_room, room_for}
use Rattle.taking.specs.Taking.{Taking, area_of, reporting, taking}
use Rattle.taking.proofs.Kept.{taking-sound}
use Rattle.in_place.specs.Lent.{once_taken}
use Rattle.book.specs.Entry.{Line, Says, story, held_among, retells, retold}
use Rattle.book.specs.Book.{s8841, hi, buy, sell, ok, empty, headers, tale, gaps}

-- what is unfolded to open a record, to see how it stands, and to take a datagram
opens : Unit {0}
unfolding be bytes_of letter_or_digit blank text_then_spaces
opens = tt

stands : Unit {0}
unfolding opens every in_place hangs lists.ranges lists.missing standing held_among
stands = tt

worked-out : Unit {0}
unfolding stands frames cut cut_full read read_s read_e memx.read memx.read_news memx.read_messages freed_from hold_one hold_all run
    held_from
    report_of reporting taking
worked-out = tt

-- a story line by line: the verdict on a datagram, and what it says
data Tells : Record → List ℕ → List Line → Type 0 where
  over : {r : Record} {area : List ℕ} → Tells r area []
  takes : {r : Record} {area : List ℕ} {l : Line} {ls : List Line} (v : Verdict Taking)
      → taking r area l.datagram (room_for r.session) ≡ v → retells r l.datagram v ≡ l → Tells (once_taken r v) (area_of v area) ls
      → Tells r area (l ∷ ls)

told : {r : Record} {area : List ℕ} {ls : List Line} → Tells r area ls → retold r area ls ≡ ls
told over = refl
told (takes v e line lines) = rw (e, line, told lines)

abbrev keeping : Session → (next top : ℕ) → Bool → (held : ℕ) → Record
keeping session next top ended held = record {
  session = session;
  next = record { 0 = next };
  top = record { 0 = top };
  ended = ended;
  asked = record { 0 = 0 };
  held = held;
}

abbrev kept : (next top : ℕ) → Bool → (held : ℕ) → Record
kept = keeping s8841

abbrev heard : (next top : ℕ) → Bool → Record
heard next top ended = keeping (Memx (record { 0 = 1 })) next top ended 0

abbrev leaves : List (List ℕ) → Record → List ℕ → Verdict Taking
leaves delivered after area = taken (record { delivered = delivered; after = after; area = area })

module _ (area : List ℕ) (slots : area_size ≤ length area) where
  -- where nothing is held the area stays as it is
  no-messages : taking (kept 1 0 false 0) area (bytes_of 5 0x45_00000000) enough ≡ leaves [] (kept 1 0 true 0) area
  unfolding worked-out
  no-messages = rw (none-sound area slots)

  empty-told : Tells (kept 1 0 false 0) area empty
  unfolding stands
  empty-told = takes _ no-messages refl over

  hears-none : taking (heard 1 0 false) area (bytes_of 18 0x00_12_0000000000000001_0000000000000000) memx_room
      ≡ leaves [] (heard 1 0 false) area
  unfolding worked-out
  hears-none = rw (none-sound area slots)

  hears-two : taking (heard 1 0 false) area (bytes_of 27 0x02_13_0000000000000001_0000000000000001_AB_0002_0002_4849_0000) memx_room
      ≡ leaves (hi ∷ [] ∷ []) (heard 3 2 false) area
  unfolding worked-out
  hears-two = rw (none-sound area slots)

  shuts-down : taking (heard 3 2 false) area (bytes_of 20 0x01_14_0000000000000001_0000000000000002_ABCD) memx_room
      ≡ leaves [] (heard 3 2 true) area
  unfolding worked-out
  shuts-down = rw (none-sound area slots)

  headers-told : Tells (heard 1 0 false) area headers
  unfolding stands
  headers-told = takes _ hears-none refl (takes _ hears-two refl (takes _ shuts-down refl over))

  -- the long story: message 5 is laid in its slot
  abbrev five : List ℕ
  five = sets area 7360 (frame ok)

  begins : taking (kept 1 0 false 0) area (bytes_of 13 0x53_00000001_0002_0002_4849_0000) enough
      ≡ leaves (hi ∷ [] ∷ []) (kept 3 2 false 0) area
  unfolding worked-out
  begins = rw (none-sound area slots)

  holds-five : taking (kept 3 2 false 0) area (bytes_of 12 0x53_00000005_0001_0003_4F4B21) enough ≡ leaves [] (kept 3 5 false 32) five
  unfolding worked-out
  holds-five = rw (none-sound area slots, le-leb area_size (length area) slots)

  five-sound : sound 32 five ≡ true
  five-sound = taking-sound (kept 3 2 false 0) area _ enough _ holds-five

  gives-five : taking (kept 3 5 false 32) five (bytes_of 20 0x53_00000002_0003_0000_0003_425559_0004_53454C4C) enough
      ≡ leaves (buy ∷ sell ∷ ok ∷ []) (kept 6 5 false 0) five
  unfolding worked-out
  gives-five = rw (five-sound, stored-message area ok 5 (omega arith) slots)

  none_left : sound 0 five ≡ true
  none_left = taking-sound (kept 3 5 false 32) five _ enough _ gives-five

  hears-end : taking (kept 6 5 false 0) five (bytes_of 5 0x45_00000005) enough ≡ leaves [] (kept 6 5 true 0) five
  unfolding worked-out
  hears-end = rw none_left

  too_few : taking (kept 6 5 true 0) five (bytes_of 5 0x45_00000004) enough ≡ refused Contradiction
  unfolding worked-out
  too_few = rw none_left

  too_many : taking (kept 6 5 true 0) five (bytes_of 7 0x53_00000009_0000) enough ≡ refused Contradiction
  unfolding worked-out
  too_many = rw none_left

  stale : taking (kept 6 5 true 0) five (bytes_of 7 0x53_00000003_0000) enough ≡ leaves [] (kept 6 5 true 0) five
  unfolding worked-out
  stale = rw none_left

  tale-told : Tells (kept 1 0 false 0) area tale
  unfolding stands
  tale-told =
      takes _ begins refl
      (takes _ holds-five refl
      (takes _ gives-five refl
      (takes _ hears-end refl (takes _ too_few refl (takes _ too_many refl (takes _ stale refl over))))))

  -- the other one: messages 2 and 4 are laid in theirs
  abbrev two : List ℕ
  two = sets area 2944 (frame hi)

  abbrev both : List ℕ
  both = sets two 5888 (frame ok)

  long : area_size ≤ length two
  long = rw (length-sets area 2944 (frame hi)) slots

  holds-two : taking (kept 1 0 false 0) area (bytes_of 11 0x53_00000002_0001_0002_4849) enough ≡ leaves [] (kept 1 2 false 4) two
  unfolding worked-out
  holds-two = rw (none-sound area slots, le-leb area_size (length area) slots)

  two-sound : sound 4 two ≡ true
  two-sound = taking-sound (kept 1 0 false 0) area _ enough _ holds-two

  holds-four : taking (kept 1 2 false 4) two (bytes_of 12 0x53_00000004_0001_0003_4F4B21) enough ≡ leaves [] (kept 1 4 false 20) both
  unfolding worked-out
  holds-four = rw (two-sound, le-leb area_size (length two) long)

  both-sound : sound 20 both ≡ true
  both-sound = taking-sound (kept 1 2 false 4) two _ enough _ holds-four

  two-stays : held_message both 2 ≡ hi
  unfolding bytes_of
  two-stays =
      let fits : stated (slot_at two 2) ≤ longest = rw (stored-stated area hi 2 (omega arith) (omega arith) slots) (omega arith) in
      other-first two (frame ok) 4 2 (omega arith) (omega arith) fits ∙ stored-message area hi 2 (omega arith) slots

  gives-two : taking (kept 1 4 false 20) both (bytes_of 12 0x53_00000001_0001_0003_425559) enough
      ≡ leaves (buy ∷ hi ∷ []) (kept 3 4 false 16) both
  unfolding worked-out
  gives-two = rw (both-sound, two-stays)

  four-sound : sound 16 both ≡ true
  four-sound = taking-sound (kept 1 4 false 20) both _ enough _ gives-two

  gives-four : taking (kept 3 4 false 16) both (bytes_of 13 0x53_00000003_0001_0004_53454C4C) enough
      ≡ leaves (sell ∷ ok ∷ []) (kept 5 4 false 0) both
  unfolding worked-out
  gives-four = rw (four-sound, stored-message two ok 4 (omega arith) long)

  gaps-told : Tells (kept 1 0 false 0) area gaps
  unfolding stands
  gaps-told = takes _ holds-two refl (takes _ holds-four refl (takes _ gives-two refl (takes _ gives-four refl over)))

pub empty_holds : Says (story s8841 empty)
unfolding opens
empty_holds area slots = ap taken (told (empty-told area slots))

pub headers-hold : Says (story (Memx (record { 0 = 1 })) headers)
headers-hold area slots = ap taken (told (headers-told area slots))

pub tale-holds : Says (story s8841 tale)
unfolding opens
tale-holds area slots = ap taken (told (tale-told area slots))

pub gaps-hold : Says (story s8841 gaps)
unfolding opens
gaps-hold area slots = ap taken (told (gaps-told area slots))
