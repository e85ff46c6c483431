-- Whoever calls until a piece is used up, piece after piece, is handed what the machine hands out for the bytes joined, however they were
-- cut, and ends in the same state: each call goes as far as the first thing that is handed out, and the next call goes on from there. And
-- calling comes to an end.
-- Assumes nothing.
use Prim.Native.Nat.{ℕ, zero, suc, ◌+◌, ◌-◌, ◌≤◌, ◌<◌}
use mathlib.Core.Path.{◌≡◌, refl, sym, ap, ◌∙◌}
use mathlib.Core.List.{List, [], ◌∷◌, ◌++◌}
use mathlib.Core.Bool.{true}
use native.Mathlib.Omega.{arith}
use lib.ListN.{length, take, drop, length-append, length-drop}
use lib.Seq.{take-append_seam, drop-append_seam, drop-drop}
use Rattle.wire.specs.Checks.{◌is◌, Verdict, refused, taken}
use Rattle.wire.specs.declared.refusal.Refusal.{Refusal}
use Rattle.wire.proofs.Tests.{by-test}
use borrow.Author.Tests.{eqb-true}
use Rattle.wire.specs.Reply.{left_of}
use Rattle.soup.specs.Reading.{packet_of}
use Rattle.soup_pieces.specs.Machine.{Machine, Yield, packet, refusal, First, used_up, given, first, fates, fed, yielded}
use Rattle.soup_pieces.specs.Eating.{machine_of, pieces_of, ready, told_number, returned, at_start}
use Rattle.soup_pieces.specs.Calling.{Lent, machine_in, Entry, Permitted, Seen, a_packet, a_refusal, number_in, seen}
use Rattle.soup_pieces.specs.Calling.{Calls, uses_up, hands, refuses}
use Rattle.soup_pieces.specs.Calling.{Underway, begun, handing, refusing, Feeds, done, feeds, joined}
use Rattle.soup_pieces.specs.declared.Taken.{Taken}
use Rattle.soup_pieces.specs.declared.Taken.TheVariants as takes
use Rattle.soup_pieces.proofs.Cutting.{fed-cut, yielded-cut}
use Rattle.soup_pieces.proofs.Ready.{length-kept, ready-says, so-ready}
use Rattle.soup_pieces.proofs.Whole.{Sound, sound-fed}
use Rattle.soup_pieces.proofs.Reaching.{As-far, Goes, goes, then-on}
use Rattle.soup_pieces.proofs.Takes.{goes_on}

-- ---- the state in what is lent

abbrev pub Ready : Lent → Type 0
Ready l = ready l.pieces l.buffer ≡ true

pub sound-in : (l : Lent) → Ready l → Sound (machine_in l)
sound-in l h =
    let g = ready-says l.pieces l.buffer h in
    record {
      few = omega (arith, g.few, length-kept l.pieces l.buffer g);
      whole = g.whole;
      none = λ d. rw (g.none d);
    }

-- where the kept bytes stand at the buffer's start, the state is handed back as it is
pub machine-back : (t : Machine) (rest : List ℕ) → machine_of (pieces_of t) (t.kept ++ rest) ≡ t
machine-back t rest = rw (take-append_seam t.kept rest)

-- and where nothing is kept, whatever stands there
pub machine-empty : (t : Machine) (buffer : List ℕ) → t.kept ≡ [] → machine_of (pieces_of t) buffer ≡ t
machine-empty t buffer e = by t.kept e where
  by : (k : List ℕ) → k ≡ [] → ◌≡◌ {A = Machine} (record { kept = take (length k) buffer; dropping = t.dropping; next = t.next })
      (record { kept = k; dropping = t.dropping; next = t.next })
  by k e = rw e

-- a buffer does not get shorter
still-long : (x buffer : List ℕ) → 4098 ≤ length buffer → 4098 ≤ length (x ++ drop (length x) buffer)
still-long x buffer h = simp (length-append, length-drop) (omega arith)

ready-still : (t : Machine) (left : List ℕ) → Sound t → 4098 ≤ length left → machine_of (pieces_of t) left ≡ t
    → ready (pieces_of t) left ≡ true
ready-still t left i h e =
    so-ready (pieces_of t) left (record {
      long = h;
      few = i.few;
      none = λ d. rw (i.none d);
      whole = let k : take (length t.kept) left ≡ t.kept = ap (λ (s : Machine). s.kept) e in rw k i.whole;
    })

-- what is told of a number is the number
pub number-again : (n : ℕ) → number_in (told_number n) ≡ n
number-again n = by-test (n is 0) (λ t. rw t (sym (eqb-true n 0 t))) (λ t. rw t)

seen-append : (a b : List Yield) → seen (a ++ b) ≡ seen a ++ seen b
seen-append [] b = refl
seen-append (packet d p number ∷ a) b = rw (seen-append a b)
seen-append (refusal d why ∷ a) b = rw (seen-append a b)

-- ---- one call

module _ (l : Lent) (piece : List ℕ) (place : ℕ) where
  abbrev s : Machine
  s = machine_in l

  abbrev w : List ℕ
  w = drop place piece

  -- something is handed out, and the next call goes on with the rest
  record Further (this : Seen) (next : ℕ) (then : Lent) : Type 0 where
    ready : Ready then
    inside : next ≤ length piece
    moved : place < next
    gave : seen (yielded (fates s w)) ≡ this ∷ seen (yielded (fates (machine_in then) (drop next piece)))
    same : fed s w ≡ fed (machine_in then) (drop next piece)

  -- what an answer comes to, with what is left in the buffer
  abbrev Means : Verdict Taken → List ℕ → Type 0
  Means (refused why) left = ⊥
  Means (taken (takes.UsedUp then)) left = (yielded (fates s w) ≡ []) × (machine_of then left ≡ fed s w) × (ready then left ≡ true)
  Means (taken (takes.Packet says number bytes next then)) left = Further (a_packet (take bytes left) says (number_in number)) next
      (record { pieces = then; buffer = left })
  Means (taken (takes.Unfit why bytes next then)) left =
      Further (a_refusal (take bytes left) why) next (record { pieces = then; buffer = left })

  module _ (h : Ready l) (p : place ≤ length piece) where
    long : 4098 ≤ length l.buffer
    long = (ready-says l.pieces l.buffer h).long

    -- what was laid at the buffer's start is found there
    stands : (d : List ℕ) → take (length d) (d ++ drop (length d) l.buffer) ≡ d
    stands d = take-append_seam d (drop (length d) l.buffer)

    -- this is handed out, which the caller sees as `this`, and stands at the buffer's start
    further : (x : Yield) (this : Seen) (t : Machine) (left rest : List ℕ) → seen (x ∷ []) ≡ this ∷ [] → As-far s w x t left
        → 4098 ≤ length rest → Further this (length piece - length left) (record { pieces = pieces_of t; buffer = rest })
    further x this t left rest e g m =
        let n : length w ≡ length g.eaten + length left = ap length g.cut ∙ length-append g.eaten left in
        let q : length piece - length left ≡ place + length g.eaten = omega (arith, length-drop place piece, g.some) in
        let behind : drop (length g.eaten) w ≡ left = rw g.cut (drop-append_seam g.eaten left) in
        let to : drop (length piece - length left) piece ≡ left = rw q (sym (drop-drop (length g.eaten) place piece) ∙ behind) in
        let back : machine_of (pieces_of t) rest ≡ t = machine-empty t rest g.empty in
        let i : Sound t = rw (← g.then) (sound-fed s g.eaten (sound-in l h)) in
        record {
          ready = ready-still t rest i m back;
          inside = omega arith;
          moved = omega (arith, g.some);
          gave = rw (to, back, (then-on g).0, seen-append (x ∷ []) (yielded (fates t left)), e);
          same = rw (to, back, (then-on g).1);
        }

    means : (f : First) → Goes s w f → Means (taken (returned piece f)) (left_of (taken (at_start f)) l.buffer)
    means (used_up t) g =
        let rest = t.kept ++ drop (length t.kept) l.buffer in
        let back : machine_of (pieces_of t) rest ≡ t = machine-back t (drop (length t.kept) l.buffer) in
        let i : Sound t = rw (← g.1) (sound-fed s w (sound-in l h)) in
        (g.0, back ∙ sym g.1, ready-still t rest i (still-long t.kept l.buffer long) back)
    means (given (packet d q number) t left) g =
        rw (stands d, number-again number) (further (packet d q number) _ t left _ refl g (still-long d l.buffer long))
    means (given (refusal d why) t left) g = rw (stands d) (further (refusal d why) _ t left _ refl g (still-long d l.buffer long))

    call-means : (r : Verdict Taken) (left : List ℕ) → Permitted l piece place r left → Means r left
    call-means r left a =
        let e = goes_on l.pieces l.buffer piece place h p in
        let f = first s w in
        let answer : r ≡ taken (returned piece f) = a.answer ∙ rw e in
        let bytes : left ≡ left_of (taken (at_start f)) l.buffer = a.bytes ∙ rw e in
        rw (answer, bytes) (means f (goes s w))

-- where a state hangs together no call inside the piece is refused
pub never-refused : (l : Lent) (piece : List ℕ) (place : ℕ) (why : Refusal) (left : List ℕ) → Ready l → place ≤ length piece
    → Permitted l piece place (refused why) left → ⊥
never-refused l piece place why left h p a = call-means l piece place h p (refused why) left a

-- ---- many calls, by an entry that allows no more than the contract

-- what the machine makes of some bytes, as a caller sees it
pub record Eaten-up (l : Lent) (bs : List ℕ) (saw : List Seen) (end : Lent) : Type 0 where
  pub gave : saw ≡ seen (yielded (fates (machine_in l) bs))
  pub machine : machine_in end ≡ fed (machine_in l) bs
  pub ready : Ready end

module _ (entry : Entry) (allows : (l : Lent) (piece : List ℕ) (place : ℕ) (r : Verdict Taken) (left : List ℕ) → entry l piece place r left
    → Permitted l piece place r left) where
  -- ---- what a caller gets

  pub calls-eat : (piece : List ℕ) (l : Lent) (place : ℕ) (saw : List Seen) (end : Lent) → Ready l → place ≤ length piece
      → Calls entry piece l place saw end → Eaten-up l (drop place piece) saw end
  calls-eat piece l place saw end h p (uses_up _ _ kept left a) =
      let m = call-means l piece place h p (taken (takes.UsedUp kept)) left (allows l piece place _ left a) in
      record { gave = rw m.0; machine = m.1; ready = m.2 }
  calls-eat piece l place saw end h p (hands _ _ says number bytes next kept left more _ a cs) =
      let m = call-means l piece place h p (taken (takes.Packet says number bytes next kept)) left (allows l piece place _ left a) in
      let c = calls-eat piece (record { pieces = kept; buffer = left }) next more end m.ready m.inside cs in
      record { gave = rw (m.gave, c.gave); machine = c.machine ∙ sym m.same; ready = c.ready }
  calls-eat piece l place saw end h p (refuses _ _ why bytes next kept left more _ a cs) =
      let m = call-means l piece place h p (taken (takes.Unfit why bytes next kept)) left (allows l piece place _ left a) in
      let c = calls-eat piece (record { pieces = kept; buffer = left }) next more end m.ready m.inside cs in
      record { gave = rw (m.gave, c.gave); machine = c.machine ∙ sym m.same; ready = c.ready }

  pub feeds-eat : (l : Lent) (pieces : List (List ℕ)) (saw : List Seen) (end : Lent) → Ready l → Feeds entry l pieces saw end
      → Eaten-up l (joined pieces) saw end
  unfolding fates fed yielded
  feeds-eat l pieces saw end h (done _) = record { gave = refl; machine = refl; ready = h }
  feeds-eat l pieces saw end h (feeds _ piece rest some more then _ cs fs) =
      let c = calls-eat piece l 0 some then h (omega arith) cs in
      let f = feeds-eat then rest more end c.ready fs in
      record {
        gave = rw (
          c.gave,
          f.gave,
          c.machine,
          yielded-cut (machine_in l) piece (joined rest),
          seen-append (yielded (fates (machine_in l) piece)) (yielded (fates (fed (machine_in l) piece) (joined rest))),
        );
        machine = f.machine ∙ rw (c.machine, fed-cut (machine_in l) piece (joined rest));
        ready = f.ready;
      }

  -- Cut elsewhere, the same bytes from the same state give the same packets and refusals, and end in the same state.
  pub cut-anywhere : (l m : Lent) (pieces others : List (List ℕ)) (saw got : List Seen) (end last : Lent)
      → Ready l
      → Ready m
      → machine_in l ≡ machine_in m
      → joined pieces ≡ joined others
      → Feeds entry l pieces saw end
      → Feeds entry m others got last
      → (saw ≡ got) × (machine_in end ≡ machine_in last)
  cut-anywhere l m pieces others saw got end last h k e j fs gs =
      let f = feeds-eat l pieces saw end h fs in
      let g = feeds-eat m others got last k gs in
      (f.gave ∙ rw (e, j) (sym g.gave), f.machine ∙ rw (e, j) (sym g.machine))

  -- ---- calling comes to an end: each answer but the last has moved on in the piece

  -- so many calls that none of them has used the piece up are no more than the bytes that were left of it
  pub calls-are-few : (piece : List ℕ) (l : Lent) (place calls : ℕ) (then : Lent) (at : ℕ) → Ready l → place ≤ length piece
      → Underway entry piece l place calls then at → (place + calls ≤ at) × (at ≤ length piece) × Ready then
  calls-are-few piece l place calls then at h p (begun _ _) = (omega arith, p, h)
  calls-are-few piece l place calls then at h p (handing _ _ says number bytes next kept left n _ _ a cs) =
      let m = call-means l piece place h p (taken (takes.Packet says number bytes next kept)) left (allows l piece place _ left a) in
      let c = calls-are-few piece (record { pieces = kept; buffer = left }) next n then at m.ready m.inside cs in
      (omega (arith, m.moved, c.0), c.1, c.2)
  calls-are-few piece l place calls then at h p (refusing _ _ why bytes next kept left n _ _ a cs) =
      let m = call-means l piece place h p (taken (takes.Unfit why bytes next kept)) left (allows l piece place _ left a) in
      let c = calls-are-few piece (record { pieces = kept; buffer = left }) next n then at m.ready m.inside cs in
      (omega (arith, m.moved, c.0), c.1, c.2)

  -- calling from here uses the piece up
  abbrev Ends : (piece : List ℕ) → Lent → (place : ℕ) → Type 0
  Ends piece l place = (saw : List Seen) × (end : Lent) × Calls entry piece l place saw end

  -- by an entry that also allows whatever the contract permits
  module _ (offers : (l : Lent) (piece : List ℕ) (place : ℕ) (r : Verdict Taken) (left : List ℕ) → Permitted l piece place r left
      → entry l piece place r left) where
    -- The contract always permits an answer, that of `first`. It uses the piece up, or the place in it is further on; so there are turns
    -- enough if there are more than bytes left.
    calls-end : (turns : ℕ) (piece : List ℕ) (l : Lent) (place : ℕ) → length piece - place < turns → Ready l → place ≤ length piece
        → Ends piece l place
    calls-end zero piece l place n h p = absurd (omega arith)
    calls-end (suc turns) piece l place n h p = by (λ m k. calls-end turns piece m k) f refl (goes (machine_in l) (drop place piece)) where
      f : First
      f = first (machine_in l) (drop place piece)

      left_by : First → List ℕ
      left_by x = left_of (taken (at_start x)) l.buffer

      -- what is lent to the next call
      lent : Machine → First → Lent
      lent t x = record { pieces = pieces_of t; buffer = left_by x }

      answer : (x : First) → f ≡ x → entry l piece place (taken (returned piece x)) (left_by x)
      answer x e =
          let g = goes_on l.pieces l.buffer piece place h p in
          offers l piece place _ _ (record { answer = rw (g, e); bytes = rw (g, e) })

      by : ((m : Lent) (k : ℕ) → length piece - k < turns → Ready m → k ≤ length piece → Ends piece m k)
          → (x : First) → f ≡ x → Goes (machine_in l) (drop place piece) x → Ends piece l place
      by on (used_up t) e g =
          let x = used_up t in
          ([], lent t x, uses_up l place (pieces_of t) (left_by x) (answer x e))
      by on (given (packet d q number) t left) e g =
          let x = given (packet d q number) t left in
          let next = length piece - length left in
          let m = means l piece place h p x g in
          let c = on (lent t x) next (omega (arith, m.moved, m.inside)) m.ready m.inside in (
            a_packet (take (length d) (left_by x)) (packet_of q) (number_in (told_number number)) ∷ c.0,
            c.1,
            hands l place (packet_of q) (told_number number) (length d) next (pieces_of t) (left_by x) c.0 c.1 (answer x e) c.2,
          )
      by on (given (refusal d why) t left) e g =
          let x = given (refusal d why) t left in
          let next = length piece - length left in
          let m = means l piece place h p x g in
          let c = on (lent t x) next (omega (arith, m.moved, m.inside)) m.ready m.inside in (
            a_refusal (take (length d) (left_by x)) why ∷ c.0,
            c.1,
            refuses l place why (length d) next (pieces_of t) (left_by x) c.0 c.1 (answer x e) c.2,
          )

    pub feeding-ends : (l : Lent) (pieces : List (List ℕ)) → Ready l → (saw : List Seen) × (end : Lent) × Feeds entry l pieces saw end
    feeding-ends l [] h = ([], l, done l)
    feeding-ends l (piece ∷ pieces) h =
        let c = calls-end (length piece + 1) piece l 0 (omega arith) h (omega arith) in
        let e = calls-eat piece l 0 c.0 c.1 h (omega arith) c.2 in
        let f = feeding-ends c.1 pieces e.ready in
        (c.0 ++ f.0, f.1, feeds l piece pieces c.0 f.0 c.1 f.1 c.2 f.2)
