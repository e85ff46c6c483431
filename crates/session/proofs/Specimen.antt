-- A run, worked out byte by byte, so that no claim is empty. A login is accepted, which is not for the record. Three messages; the third
-- comes first and is held, the first comes twice, the second is lost; the end is taken with one missing; one request and its answer deliver
-- the second and release the third, and the record is complete. The area is any that has 32 slots.
-- Assumes nothing.
use Prim.Native.Nat.{ℕ, ◌≤◌}
use mathlib.Core.Path.{◌≡◌, refl, ap, sym, subst}
use mathlib.Core.List.Memᴰ.{head as here}
use mathlib.Core.List.Memᴰ.{tail as there}
use mathlib.Core.List.{List, [], ◌∷◌}
use mathlib.Core.Bool.{Bool, true, false, ◌&&◌}
use native.Mathlib.Omega.{arith}
use borrow.Author.Tests.{le-leb, leb-true}
use lib.Dec.{leb}
use lib.Ieee.{round, le}
use lib.ListN.{length, replicate}
use lib.Seq.{sets}
use Rattle.wire.specs.Fields.{be, bytes_of, Bytes}
use Rattle.wire.specs.Checks.{◌at_most◌, refused, taken}
use Rattle.names.specs.Names.{name_of}
use Rattle.text.specs.Text.{letter_or_digit, blank, text_then_spaces}
use Rattle.wire.specs.declared.kinds.Name.{Name}
use Rattle.wire.specs.declared.refusal.Refusal.TheVariants.{NotForRecord}
use Rattle.wire.proofs.Width.{bytes-cons}
use Rattle.wire.proofs.Tests.{and_left, and_right}
use Rattle.blocks.specs.Blocks.{frames, cut, cut_full}
use Rattle.ufo.specs.Down.{read_a, read_s, read_e, read}
use Rattle.ufo_write.specs.WriteDown.{accept_reply}
use Rattle.ufo_up.specs.Up.{request, read_t, read_message, read_each, read_up}
use Rattle.ufo_up_write.specs.WriteUp.{verdict, reply}
use Rattle.clock.specs.Milliseconds.{whole}
use Rattle.clock.specs.declared.sheet.Sheet.{Sheet}
use Rattle.clock.specs.declared.patience.Patience.TheVariants.{Never}
use Rattle.lent_log.specs.Log as log
use Rattle.lend.specs.Answer.{greatest, answer_to, answer_reply, end_packet_reply}
use Rattle.held.specs.Slots.{area_size, freed_from, held_message}
use Rattle.held.specs.Hanging.{every, in_place, sound}
use Rattle.held.specs.Holding.{hold_one, hold_all}
use Rattle.held.specs.Releasing.{run, held_from}
use Rattle.held.proofs.Areas.{stored-message}
use Rattle.held.proofs.Hangs.{none-sound}
use Rattle.missing.specs.Missing.{◌to◌}
use Rattle.missing.specs.Missing as lists
use Rattle.record.specs.Record.{hangs, fresh}
use Rattle.record.specs.Standing.{complete, missing, standing}
use Rattle.record.specs.declared.Record.{Record}
use Rattle.record.specs.declared.Session.TheVariants.{Ufo}
use Rattle.reports.specs.Reports.{report_of}
use Rattle.taking.specs.Taking.{Taking, reporting, taking}
use Rattle.taking.proofs.Kept.{taking-sound}
use Rattle.asking.specs.Asking.{request as wanted, request_of, wish, asking}
use Rattle.session.specs.Session.{enough, State, logged, begin, adds_many, declares, ends, answers, accepts, serves, takes, sent}
use Rattle.session.specs.Session.{to_packet, delivering, step, Run, stop, then, Reached}
use Rattle.session.specs.Promise.{holds, Due, made, Exchange}

-- what is unfolded to work it out
worked-out : Unit {0}
unfolding be bytes_of letter_or_digit blank text_then_spaces frames cut cut_full read read_a read_s read_e read_up read_each read_message
    read_t reply
    verdict log.small log.hangs log.cut_all log.adding_many log.declaring greatest answer_to answer_reply end_packet_reply accept_reply
    freed_from
    every in_place hold_one hold_all run held_from lists.ranges lists.missing hangs report_of reporting taking standing sent to_packet
worked-out = tt

-- a list of numbers is one of bytes, by a test
abbrev are_bytes : List ℕ → Bool
are_bytes [] = true
are_bytes (x ∷ xs) = x at_most 255 && are_bytes xs

bytes-so : (xs : List ℕ) → are_bytes xs ≡ true → Bytes xs
bytes-so [] e = λ i. omega arith
bytes-so (x ∷ xs) e =
    let l = leb-true x 255 (and_left (leb x 255) (are_bytes xs) e) in
    bytes-cons x xs (omega arith) (bytes-so xs (and_right (leb x 255) (are_bytes xs) e))

-- 8841, padded
abbrev session : Name
session = name_of (56 ∷ 56 ∷ 52 ∷ 49 ∷ replicate 6 32)

abbrev lent : List ℕ
lent = replicate 16 0

-- HI, an empty message, OK!
abbrev hi : List ℕ
hi = 72 ∷ 73 ∷ []

abbrev ok : List ℕ
ok = 79 ∷ 75 ∷ 33 ∷ []

abbrev blocks : List ℕ
blocks = 0 ∷ 2 ∷ 72 ∷ 73 ∷ 0 ∷ 0 ∷ 0 ∷ 3 ∷ 79 ∷ 75 ∷ 33 ∷ []

-- the datagrams: the accepted login; each message by itself, and the end; then the request, whose answer is the second message by itself
abbrev welcome : List ℕ
welcome = 65 ∷ 56 ∷ 56 ∷ 52 ∷ 49 ∷ 32 ∷ 32 ∷ 32 ∷ 32 ∷ 32 ∷ 32 ∷ 0 ∷ 0 ∷ 0 ∷ 1 ∷ []

abbrev one : List ℕ
one = 83 ∷ 0 ∷ 0 ∷ 0 ∷ 1 ∷ 0 ∷ 1 ∷ 0 ∷ 2 ∷ 72 ∷ 73 ∷ []

abbrev two : List ℕ
two = 83 ∷ 0 ∷ 0 ∷ 0 ∷ 2 ∷ 0 ∷ 1 ∷ 0 ∷ 0 ∷ []

abbrev three : List ℕ
three = 83 ∷ 0 ∷ 0 ∷ 0 ∷ 3 ∷ 0 ∷ 1 ∷ 0 ∷ 3 ∷ 79 ∷ 75 ∷ 33 ∷ []

abbrev over : List ℕ
over = 69 ∷ 0 ∷ 0 ∷ 0 ∷ 3 ∷ []

abbrev asking-two : List ℕ
asking-two = 0 ∷ 7 ∷ 84 ∷ 0 ∷ 0 ∷ 0 ∷ 2 ∷ 0 ∷ 1 ∷ []

-- the third message's block in its slot, and the slot full
abbrev stored : List ℕ → List ℕ
stored area = sets area 4416 (0 ∷ 3 ∷ 79 ∷ 75 ∷ 33 ∷ [])

-- the record
abbrev keeping : (next top : ℕ) → Bool → (asked held : ℕ) → Record
keeping next top ended asked held = record {
  session = Ufo session;
  next = record { 0 = next };
  top = record { 0 = top };
  ended = ended;
  asked = record { 0 = asked };
  held = held;
}

abbrev took : List (List ℕ) → Record → List ℕ → Taking
took delivered after area = record { delivered = delivered; after = after; area = area }

-- the states, once the log has its messages
abbrev state : Bool → Record → List ℕ → List (List ℕ) → List (List ℕ) → List (List ℕ) → State
state ended kept area deliveries down up = record {
  log = record { count = 3; used = 11; ended = ended };
  lent = 0 ∷ 2 ∷ 72 ∷ 73 ∷ 0 ∷ 0 ∷ 0 ∷ 3 ∷ 79 ∷ 75 ∷ 33 ∷ 0 ∷ 0 ∷ 0 ∷ 0 ∷ 0 ∷ [];
  kept = kept;
  area = area;
  deliveries = deliveries;
  down = down;
  up = up;
}

abbrev sent-all : List (List ℕ)
sent-all = welcome ∷ one ∷ two ∷ three ∷ []

abbrev with-end : List (List ℕ)
with-end = welcome ∷ one ∷ two ∷ three ∷ over ∷ []

-- the end is taken, one message is delivered, and one held
abbrev pub s : List ℕ → State
s area = state true (keeping 2 3 true 0 8) (stored area) (hi ∷ []) with-end []

-- a request goes out, its answer comes, and all is delivered
abbrev asked : List ℕ → State
asked area = state true (keeping 2 3 true 2 8) (stored area) (hi ∷ []) with-end (asking-two ∷ [])

abbrev answered : List ℕ → State
answered area = state true (keeping 2 3 true 2 8) (stored area) (hi ∷ []) (welcome ∷ one ∷ two ∷ three ∷ over ∷ two ∷ []) (asking-two ∷ [])

abbrev pub t : List ℕ → State
t area =
    state true (keeping 4 3 true 2 0) (stored area) (hi ∷ [] ∷ ok ∷ []) (welcome ∷ one ∷ two ∷ three ∷ over ∷ two ∷ []) (asking-two ∷ [])

-- it asks for one message from number 2 on: no answer was timed, nobody asked before, no time has passed
abbrev untimed : Sheet
untimed = record { mean = whole 0; spread = whole 0; timed = false }

wished : asking (keeping 2 3 true 0 8) untimed Never (whole 0) ≡ taken (wanted 2 1 (keeping 2 3 true 2 8))
unfolding worked-out request_of wish asking round le
wished = refl

written : reply (request 2 1) 1472 ≡ taken asking-two
unfolding worked-out
written = refl

module _ (area : List ℕ) where
  abbrev due : Due (s area) 2 1
  due = record { sheet = untimed; rule = Never; elapsed = whole 0; after = keeping 2 3 true 2 8; wish = wished }

  asked-so : made (s area) due 1472 ≡ asked area
  unfolding sent
  asked-so = rw (wished, written)

  packed : answer_reply (asked area).log (asked area).lent 2 1 1472 ≡ taken two
  unfolding worked-out
  packed = refl

  answered-so : step (asked area) (serves asking-two 1472) ≡ answered area
  unfolding worked-out
  answered-so = refl

module _ (area : List ℕ) (slots : area_size ≤ length area) where
  -- what the recorder makes of each datagram
  of-welcome : taking (fresh (Ufo session)) area welcome enough ≡ refused NotForRecord
  unfolding worked-out
  of-welcome = rw (none-sound area slots)

  of_three : taking (fresh (Ufo session)) area three enough ≡ taken (took [] (keeping 1 3 false 0 8) (stored area))
  unfolding worked-out
  of_three = rw (none-sound area slots, le-leb area_size (length area) slots)

  stored-sound : sound 8 (stored area) ≡ true
  stored-sound = taking-sound (fresh (Ufo session)) area three enough _ of_three

  of_one : taking (keeping 1 3 false 0 8) (stored area) one enough ≡ taken (took (hi ∷ []) (keeping 2 3 false 0 8) (stored area))
  unfolding worked-out
  of_one = rw stored-sound

  of-one-again : taking (keeping 2 3 false 0 8) (stored area) one enough ≡ taken (took [] (keeping 2 3 false 0 8) (stored area))
  unfolding worked-out
  of-one-again = rw stored-sound

  of-over : taking (keeping 2 3 false 0 8) (stored area) over enough ≡ taken (took [] (keeping 2 3 true 0 8) (stored area))
  unfolding worked-out
  of-over = rw stored-sound

  of_two : taking (keeping 2 3 true 2 8) (stored area) two enough ≡ taken (took ([] ∷ ok ∷ []) (keeping 4 3 true 2 0) (stored area))
  unfolding worked-out
  of_two = rw (stored-sound, stored-message area ok 3 (omega arith) slots)

  -- the states on the way: all is sent; the third has come; the first has; the log has ended
  begun : State
  begun = begin lent area (fresh (Ufo session))

  greeted : State
  greeted = step begun (accepts session 1 1472)

  abbrev all-sent : State
  all-sent = state false (fresh (Ufo session)) area [] sent-all []

  abbrev third-held : State
  third-held = state false (keeping 1 3 false 0 8) (stored area) [] sent-all []

  abbrev first-there : State
  first-there = state false (keeping 2 3 false 0 8) (stored area) (hi ∷ []) sent-all []

  abbrev ended : State
  ended = state true (keeping 2 3 false 0 8) (stored area) (hi ∷ []) with-end []

  -- and the steps
  not-for-it : step greeted (takes welcome enough) ≡ greeted
  unfolding begun greeted
  not-for-it = ap (delivering greeted) of-welcome

  sends-three : step (step (step (step greeted (adds_many blocks)) (answers 1 1 1472)) (answers 2 1 1472)) (answers 3 1 1472) ≡ all-sent
  unfolding worked-out begun greeted
  sends-three = refl

  ends_it : step (step first-there declares) (ends 1472) ≡ ended
  unfolding worked-out
  ends_it = refl

  -- so one comes from state to state
  on : {u v : State} → Run begun u → u ≡ v → Run begun v
  on r e = subst (λ (x : State). Run begun x) e r

  r₁ : Run begun greeted
  unfolding worked-out begun greeted
  r₁ = on (then (then stop (accepts session 1 1472) tt) (takes welcome enough) (here refl)) not-for-it

  r₂ : Run begun all-sent
  r₂ =
      let added = then r₁ (adds_many blocks) (bytes-so blocks refl) in
      on (then (then (then added (answers 1 1 1472) tt) (answers 2 1 1472) tt) (answers 3 1 1472) tt) sends-three

  r₃ : Run begun third-held
  r₃ = on (then r₂ (takes three enough) (there (there (there (here refl))))) (ap (delivering all-sent) of_three)

  r₄ : Run begun first-there
  r₄ =
      let once = on (then r₃ (takes one enough) (there (here refl))) (ap (delivering third-held) of_one) in
      on (then once (takes one enough) (there (here refl))) (ap (delivering first-there) of-one-again)

  r₅ : Run begun ended
  r₅ = on (then (then r₄ declares tt) (ends 1472) tt) ends_it

  pub reached : Reached (s area)
  unfolding worked-out begun
  reached = record {
    lent = lent;
    bytes = bytes-so lent refl;
    area = area;
    slots = slots;
    session = session;
    kept = fresh (Ufo session);
    opened = refl;
    run = on (then r₅ (takes over enough) (there (there (there (there (here refl)))))) (ap (delivering ended) of-over);
  }

  -- message 2 is missing, and message 3 is held
  pub lacking : (standing (s area).kept ≡ taken (missing ((2 to 2) ∷ []))) × (holds (s area) 3 ≡ true)
      × (held_message (s area).area 3 ≡ ok)
  unfolding worked-out
  lacking = (refl, refl, stored-message area ok 3 (omega arith) slots)

  pub exchanged : Exchange (s area) (t area)
  exchanged = record {
    first = 2;
    count = 1;
    due = due area;
    room_up = 1472;
    u = asked area;
    run = rw (asked-so area) stop;
    datagram = two;
    room_down = 1472;
    answer = packed area;
    w = answered area;
    later = subst (λ (x : State). Run (asked area) x) (answered-so area) (then stop (serves asking-two 1472) (here refl));
    arrives = there (there (here refl));
    room_out = enough;
    took = took ([] ∷ ok ∷ []) (keeping 4 3 true 2 0) (stored area);
    takes-it = of_two;
    left = sym (ap (delivering (answered area)) of_two);
  }

pub all_there : (area : List ℕ) → (standing (t area).kept ≡ taken complete) × (logged (t area) ≡ (t area).deliveries)
unfolding worked-out
all_there area = (refl, refl)
