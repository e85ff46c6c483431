-- Handing over the blocks from N on, and what is held behind them: what is delivered of a datagram is what its messages say. Once a packet
-- doesn't contradict the record only room is left to ask for, so the answer to the packet is read off the answer to the handing over.
-- Assumes nothing.
use Rattle.std.specs.Prelude.{if◌then◌else◌}
use Prim.Native.Nat.{ℕ, ◌+◌, ◌-◌, ◌≤◌, ◌<◌, max}
use mathlib.Core.List.{List, [], ◌∷◌, ◌++◌, append-nil}
use mathlib.Core.Path.{◌≡◌, refl, ap, sym, ◌∙◌}
use mathlib.Core.Bool.{Bool, true, false}
use native.Mathlib.Nat.{add-zero}
use native.Mathlib.Omega.{arith}
use lib.Dec.{leb}
use lib.ListN.{length, drop, length-drop, length-append}
use Rattle.wire.specs.Checks.{◌at_most◌, ◌else◌, Verdict, refused, taken, checked, ◌into◌, ◌told_by◌}
use Rattle.wire.specs.Reply.{within, Settled}
use Rattle.wire.specs.declared.refusal.Refusal.TheVariants.{Room, Contradiction}
use Rattle.wire.proofs.Tests.{by-test}
use Rattle.wire.proofs.Checks.{into-checked, not-both, taken-same}
use Rattle.blocks.specs.Blocks.{frames, whole, cut}
use Rattle.blocks.proofs.Frames.{frames-append}
use Rattle.blocks.proofs.Skipping.{skipped, skipped-bytes}
use Rattle.blocks.proofs.Counting.{fills-cut}
use Rattle.held.specs.Slots.{slot_of, freed_from}
use Rattle.held.specs.Hanging.{sound}
use Rattle.held.specs.Releasing.{run, released}
use Rattle.held.specs.declared.releasing.Released.{Released}
use Rattle.held.proofs.Bitmap.{none-full, freed-none, freed-add}
use Rattle.held.proofs.Hangs.{in-place-higher}
use Rattle.held.proofs.Releases.{length-released, released-none, run-within, released-near}
use Rattle.record.specs.Record.{hangs}
use Rattle.record.specs.declared.Record.{Record}
use Rattle.record.proofs.Hanging.{hanging}
use Rattle.reports.specs.Reports.{messages, Fills, blocks_from}
use Rattle.reports.proofs.Reports.{counted}
use Rattle.taking.specs.Taking.{clash, own, told, Taking, reporting, taken_of, Answered}
use Rattle.taking.specs.Ways.{passing}
use Rattle.taking.specs.Delivering.{handed_own, Given, handed, Handed}
use Rattle.taking.specs.declared.Taken.{Taken}
use Rattle.taking.specs.declared.batch.Batch.{Batch}
use Rattle.taking.proofs.Brought.{brings}
use Rattle.taking.proofs.EarlyOrLate.{among, late, none-held, reports-none, leaves}

-- where room alone decides: 9, or what there is room for
data ByRoom {A : Type 0} (a : A) : Verdict A → Type 0 where
  lacks : ByRoom a (refused Room)
  has : ByRoom a (taken a)

by-room : {A : Type 0} (enough : Bool) (a : A) → ByRoom a (if enough then taken a else refused Room)
by-room true a = has
by-room false a = lacks

-- what a packet brings: its blocks fill the datagram from p on
module _ (batch : Batch) where
  abbrev d : List ℕ
  d = batch.datagram.now

  abbrev p : ℕ
  p = batch.place

  abbrev first : ℕ
  first = batch.first

  abbrev count : ℕ
  count = batch.count

  f : Fills d p first count
  f = brings batch

  cuts : (p ≤ length d) × (cut count (drop p d) ≡ whole (blocks_from d p count))
  cuts = fills-cut d p count f.blocks

  -- what is handed over after the first k: the others' blocks, and what is released, if there is room for both
  pub hands-others : (k held : ℕ) (area : List ℕ) (m room : ℕ) → k ≤ count → sound held area ≡ true
      → (let ms = drop k (blocks_from d p count) in
      let more = released held area m in
      handed k d p held area m room ≡ checked ((length (frames (ms ++ more)) at_most room else Room) ∷ [])
      (taken (record { own = frames ms; released = more })))
  hands-others k held area m room h s =
      let all = blocks_from d p count in
      let ms : List (List ℕ) = drop k all in
      let more : List (List ℕ) = released held area m in
      let l : length (frames (ms ++ more)) ≡ length (frames ms) + length (frames more) =
      ap length (frames-append ms more) ∙ length-append (frames ms) (frames more) in
      rw ((skipped k count d p all cuts.0 cuts.1 h).place, skipped-bytes k count d p all batch.bytes cuts.0 cuts.1 h, s, l)
      (by-test (leb (length (frames ms) + length (frames more)) room) (λ e. rw e refl) (λ e. rw e refl))

  -- and where nothing is held
  pub hands-own : (k room : ℕ) → k ≤ count → handed_own k d p room ≡ within room (frames (drop k (blocks_from d p count)))
  hands-own k room h =
      let all = blocks_from d p count in
      rw ((skipped k count d p all cuts.0 cuts.1 h).place, skipped-bytes k count d p all batch.bytes cuts.0 cuts.1 h)

  module _ (r : Record) (area out : List ℕ) where
    abbrev ms : List (List ℕ)
    ms = blocks_from d p count

    many : length ms ≡ count
    many = counted d p first count f

    abbrev said : Verdict Taking
    said = reporting r area (length out) (messages first ms)

    -- N is past the messages
    pub tells-pass : hangs r ≡ true → first + count ≤ r.next.0 → (a : Verdict Taken)
        → a ≡ (passing r [] (first + count - 1) false told_by taken_of)
        → Answered said area out a area out
    tells-pass h past a e =
        let some = f.some in
        let none : own r.next.0 (messages first ms) ≡ [] = late r.next.0 first ms (omega (arith, many)) (rw many past) in
        rw (reports-none r area (messages first ms) h none (length out) (none-held r.next.0 first ms (omega arith)), many)
        (leaves r area (first + count - 1) false out a e)

    -- the packet contradicts
    pub tells-clash : clash r (first + count - 1) false ≡ true → Answered said area out (refused Contradiction) area out
    unfolding reporting
    tells-clash c = rw (many, c) (record { answer = refl; bytes = refl; slots = refl })

    -- what goes out if N is among them: the others from N on, and what is held behind them
    abbrev others : List (List ℕ)
    others = drop (r.next.0 - first) ms

    abbrev free : ℕ
    free = freed_from (first + count - r.next.0) r.held r.next.0

    abbrev more : List (List ℕ)
    more = released free area (first + count)

    abbrev given : Given
    given = record { own = frames others; released = more }

    -- the verdict on it
    abbrev pub room : Verdict Given
    room = checked ((length (frames (others ++ more)) at_most length out else Room) ∷ []) (taken given)

    -- N is past them all, the slots of those that were released are free, and T is the last of the packet's own at least
    abbrev reached : ℕ → Record
    reached k = told r (first + count + k) (freed_from k free (first + count)) (first + count - 1) false

    -- the answer to the packet, by how many were released and by the bytes of all
    abbrev pub answer_by : Released → Taken
    answer_by g = record { bytes = g.bytes; messages = first + count + g.messages - r.next.0; after = reached g.messages }

    -- the packet doesn't contradict, and N is among them: only the room is left to ask for
    module _ (a : first ≤ r.next.0) (b : r.next.0 < first + count) (c : clash r (first + count - 1) false ≡ false) where
      abbrev done : Given → Taking
      done g = record { delivered = others ++ g.released; after = reached (length g.released); area = area }

      room-alone : said ≡ room into λ g. taken (done g)
      unfolding reporting
      room-alone =
          let k : ℕ = first + count - r.next.0 in
          let n : length others ≡ k = rw (length-drop, many) (omega arith) in
          let q : r.next.0 + k ≡ first + count = omega arith in
          let d : own r.next.0 (messages first ms) ≡ others = among r.next.0 first ms a (rw many b) in
          let j : length (others ++ more) ≡ k + length more = rw (length-append, n) in
          let e : freed_from (k + length more) r.held r.next.0 ≡ freed_from (length more) free (first + count) =
          rw q at (freed-add k (length more) r.held r.next.0) in
          let s : r.next.0 + (k + length more) ≡ first + count + length more = omega arith in
          rw (d, n, q, none-held r.next.0 first ms a, many, c, j, e, s)
          (sym (into-checked ((length (frames (others ++ more)) at_most length out else Room) ∷ []) (taken given)
          (λ (g : Given). taken (done g))))

      pub tells : (x : Verdict Released) (left : List ℕ) → Handed room out x left → Answered said area out (x told_by answer_by) area left
      tells x left h = rw room-alone (by room (by-room (length (frames (others ++ more)) at_most length out) given) h) where
        all : first + count + length more - r.next.0 ≡ length (others ++ more)
        all = rw (length-append, length-drop, many) (omega arith)

        by : (v : Verdict Given) → ByRoom given v → Handed v out x left
            → Answered (v into λ g. taken (done g)) area out (x told_by answer_by) area left
        by _ lacks h = record { answer = ap (λ y. y told_by answer_by) h.answer; bytes = h.bytes; slots = refl }
        by _ has h = record {
          answer = ap (λ y. y told_by answer_by) h.answer ∙ rw (all, frames-append others more);
          bytes = rw (frames-append others more) h.bytes;
          slots = refl;
        }

      -- and where nothing is held, nothing is released
      module _ (z : r.held ≡ 0) where
        nothing-free : free ≡ 0
        nothing-free = rw z (freed-none (first + count - r.next.0) r.next.0)

        nothing-more : more ≡ []
        nothing-more = released-none free area (first + count) (rw nothing-free (none-full (slot_of (first + count))))

        abbrev past : Record
        past = told r (first + count) 0 (first + count - 1) false

        own_alone : said ≡ within (length out) (frames others) into λ _. taken (record { delivered = others; after = past; area = area })
        unfolding freed_from
        own_alone =
            rw (room-alone, nothing-more, append-nil others, nothing-free)
            (by-test (leb (length (frames others)) (length out))
            (λ e. rw (e, append-nil others, add-zero (first + count)) refl)
            (λ e. rw e refl))

        abbrev answer_by_own : ℕ → Taken
        answer_by_own n = record { bytes = n; messages = first + count - r.next.0; after = past }

        pub tells-own : (x : Verdict ℕ) (left : List ℕ) → Settled (within (length out) (frames others)) out x left
            → Answered said area out (x told_by answer_by_own) area left
        tells-own x left h =
            let enough = length (frames others) at_most length out in
            rw own_alone (by (within (length out) (frames others)) (by-room enough (frames others)) h) where
              all : first + count - r.next.0 ≡ length others
              all = rw (length-drop, many) (omega arith)

              by : (v : Verdict (List ℕ)) → ByRoom (frames others) v → Settled v out x left
                  → Answered (v into λ _. taken (record { delivered = others; after = past; area = area })) area out
                  (x told_by answer_by_own) area left
              by _ lacks h = record { answer = ap (λ y. y told_by answer_by_own) h.answer; bytes = h.bytes; slots = refl }
              by _ has h = record { answer = ap (λ y. y told_by answer_by_own) h.answer ∙ rw all; bytes = h.bytes; slots = refl }

    -- how many are released, and where N comes to
    pub released-few : hangs r ≡ true → first ≤ r.next.0 → r.next.0 < first + count → (g : Released) (left : List ℕ)
        → Handed room out (taken g) left → (g.messages ≤ 31) × (first + count + g.messages ≤ max r.top.0 (first + count - 1) + 1)
    released-few h a b g left s =
        let k : ℕ = g.messages in
        let j : ℕ = first + count - r.next.0 in
        let q : r.next.0 + j ≡ first + count = omega arith in
        let top : ℕ = max r.top.0 (first + count - 1) in
        let x : k ≡ run 31 free (first + count) =
        by room (by-room (length (frames (others ++ more)) at_most length out) given) s ∙ length-released free area (first + count) in
        let i = in-place-higher r.held r.next.0 r.top.0 top (omega arith) (hanging r h).placed in
        let near = rw q at (released-near r.held r.next.0 top j i (omega arith)) in
        (rw x (run-within 31 free (first + count)), omega (arith, x, near)) where
          by : (v : Verdict Given) → ByRoom given v → Handed v out (taken g) left → g.messages ≡ length more
          by _ lacks s = not-both (taken g) Room g s.answer refl
          by _ has s = ap (λ (x : Released). x.messages) (taken-same g _ s.answer)
