-- UFO's room is too little in MEMX style: with 31 held messages of 1,470 bytes behind it, a packet of 8,972 bytes needs 54,584.
-- Assumes nothing.
use Prim.Native.Nat.{ℕ, zero, suc, ◌+◌, ◌-◌, ◌*◌, ◌^◌, ◌≤◌, ◌<◌}
use mathlib.Core.Path.{◌≡◌, refl, ◌∙◌}
use mathlib.Core.Bool.{true, false}
use mathlib.Core.List.{List, [], ◌∷◌, ◌++◌}
use native.Mathlib.Omega.{arith}
use borrow.Author.Tests.{lt-leb}
use lib.ListN.{length, replicate, length-append}
use lib.Seq.{drop-append-add}
use Rattle.wire.specs.Checks.{refused, taken}
use Rattle.wire.specs.Fields.{Bytes}
use Rattle.wire.specs.declared.refusal.Refusal.TheVariants.{Room}
use Rattle.blocks.specs.Blocks.{frame, frames, stated}
use Rattle.blocks.proofs.Frames.{length-frame, length-one, frames-append, front-stated, front-first}
use Rattle.memx.specs.Packet as memx
use Rattle.memx.proofs.Limits.{longest-taken}
use Rattle.held.specs.Slots.{slot_of, freed_from, slot_at, held_message}
use Rattle.held.specs.Hanging.{every, in_place, sound}
use Rattle.held.specs.Releasing.{run, held_from}
use Rattle.held.proofs.Hangs.{fits-sound}
use Rattle.record.specs.Record.{hangs}
use Rattle.record.specs.declared.Record.{Record}
use Rattle.record.specs.declared.Session.TheVariants.{Memx}
use Rattle.reports.specs.Reports.{messages, report_of}
use Rattle.taking.specs.Room.{ufo_room}
use Rattle.taking.specs.Taking.{delivered, outcome, taking}
use Rattle.taking.proofs.Order.{then-by-these-checks}
use Rattle.taking.proofs.Took.{takes}

-- an area in whose every slot the same message lies, which fills it
module _ (m : List ℕ) (full : length m ≡ 1470) where
  abbrev brimful : List ℕ
  brimful = frames (replicate 32 m)

  so-many : (n : ℕ) → length (frames (replicate n m)) ≡ 1472 * n
  unfolding frames
  so-many zero = refl
  so-many (suc n) = rw (length-append, length-frame, full, so-many n) (omega arith)

  -- from slot i on as many slots less
  slot-stands : (n i : ℕ) → i ≤ n → slot_at (frames (replicate n m)) i ≡ frames (replicate (n - i) m)
  unfolding frames
  slot-stands n zero l = let z : n - 0 ≡ n = omega arith in rw z
  slot-stands zero (suc i) l = absurd (omega arith)
  slot-stands (suc n) (suc i) l =
      let p : 1472 * suc i ≡ length (frame m) + 1472 * i = rw (length-frame, full) (omega arith) in
      let s : suc n - suc i ≡ n - i = omega arith in
      rw (p, s) (drop-append-add (frame m) (frames (replicate n m)) (1472 * i) ∙ slot-stands n i (omega arith))

  slot_is : (i : ℕ) → i < 32 → slot_at brimful i ≡ frame m ++ frames (replicate (31 - i) m)
  unfolding frames
  slot_is i l = let s : 32 - i ≡ suc (31 - i) = omega arith in slot-stands 32 i (omega arith) ∙ rw s

  slot-states : (i : ℕ) → i < 32 → stated (slot_at brimful i) ≡ 1470
  slot-states i l = rw (slot_is i l) (front-stated m (frames (replicate (31 - i) m)) (omega arith) ∙ full)

  slot-holds : (n : ℕ) → held_message brimful n ≡ m
  slot-holds n = rw (slot_is (slot_of n) (omega arith)) (front-first m (frames (replicate (31 - slot_of n) m)) (omega arith))

  held-are : (k n : ℕ) → held_from k brimful n ≡ replicate k m
  unfolding held_from
  held-are zero n = refl
  held-are (suc k) n = rw (slot-holds n, held-are k (suc n))

  brimful-sound : (held : ℕ) → sound held brimful ≡ true
  brimful-sound held =
      fits-sound held brimful (record { enough = omega (arith, so-many 32); each = λ i l f. omega (arith, slot-states i l) })

  -- N is 1, and all of 2 to 32 are held
  abbrev kept : Record
  kept = record {
    session = Memx (record { 0 = 1 });
    next = record { 0 = 1 };
    top = record { 0 = 32 };
    ended = false;
    asked = record { 0 = 0 };
    held = 2 ^ 32 - 3;
  }

  kept-hangs : hangs kept ≡ true
  unfolding every in_place hangs
  kept-hangs = refl

  module _ (long : List ℕ) (fills : length long ≡ 8950) (b : Bytes long) where
    -- message 1, alone in a packet of 8,972 bytes
    abbrev packet : List ℕ
    packet = memx.write (memx.messages 1 1 [] (long ∷ []))

    as-reported : report_of kept.session packet ≡ taken (messages 1 (long ∷ []))
    unfolding report_of
    as-reported = rw (longest-taken 1 1 long (omega arith) (omega arith) (omega arith) b (omega arith))

    needs : length (frames (delivered kept brimful (messages 1 (long ∷ [])))) ≡ 54584
    unfolding freed_from run
    needs = rw (held-are 31 2, frames-append (long ∷ []) (replicate 31 m), length-append, length-one long, so-many 31, fills)

    -- With as much as it needs it is taken,
    pub just_enough : (room : ℕ) → 54584 ≤ room → taking kept brimful packet room ≡ taken (outcome kept brimful (messages 1 (long ∷ [])))
    just_enough room l =
        takes kept brimful packet room (messages 1 (long ∷ [])) kept-hangs (brimful-sound (2 ^ 32 - 3)) as-reported refl (rw needs l)

    -- with less it is refused,
    pub lacks-room : (room : ℕ) → room < 54584 → taking kept brimful packet room ≡ refused Room
    lacks-room room l =
        then-by-these-checks kept brimful packet room (messages 1 (long ∷ [])) as-reported
        ∙ rw (kept-hangs, brimful-sound (2 ^ 32 - 3), needs, lt-leb 54584 room l)

    -- so with UFO's room.
    pub ufo-room-too-little : taking kept brimful packet ufo_room ≡ refused Room
    ufo-room-too-little = lacks-room ufo_room (omega arith)
