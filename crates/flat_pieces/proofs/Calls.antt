-- Each call of a program in C that is not refused is a call of the room.
-- Assumes nothing.
use Prim.Native.Nat.{ℕ, suc}
use mathlib.Core.Path.{◌≡◌, refl, sym, ap, ◌∙◌}
use mathlib.Core.List.{List, [], ◌∷◌, ◌++◌}
use mathlib.Core.Bool.{true, false}
use native.Mathlib.Omega.{arith}
use lib.ListN.{take}
use Rattle.wire.specs.Checks.{Verdict, refused, taken, ◌told_by◌}
use Rattle.wire.specs.Refusals.{number_of}
use Rattle.wire.specs.declared.refusal.Refusal.{Refusal}
use Rattle.wire.proofs.Numbered.{has-number}
use borrow.Author.Tests.{eqb-false}
use Rattle.wire.proofs.Tests.{by-test}
use Rattle.soup_pieces.specs.Machine.{Yield, packet, refusal, First}
use Rattle.soup_pieces.specs.Eating.{eating, returned}
use Rattle.soup_pieces.specs.Calling.{number_in, Permitted, Seen, seen, Calls, Underway}
use Rattle.soup_pieces.specs.Calling as room
use Rattle.soup_pieces.specs.declared.Taken.{Taken}
use Rattle.soup_pieces.specs.declared.Taken.TheVariants as takes
use Rattle.flat.specs.Flag.{is_flag}
use Rattle.flat_soup.specs.Reading.{soup_read}
use Rattle.flat_pieces.specs.Taking.{pieces_of, FlatAnswered}
use Rattle.flat_pieces.specs.Calling.{FlatLent, lent_of, FlatPermitted, FlatSeen, a_packet, a_refusal, flat_seen, then}
use Rattle.flat_pieces.specs.declared.FlatPiece.{FlatPiece}
use Rattle.flat_pieces.proofs.Flattening.{flat_of, same-flat}
use Rattle.flat_pieces.proofs.FlatAndBack.{pieces-again}

-- an answer that is not refused is the room's, laid flat
pub record RoomsAnswer (l : FlatLent) (piece : List ℕ) (place : ℕ) (r : FlatPiece) (left : List ℕ) : Type 0 where
  pub answer : Verdict Taken
  pub permitted : Permitted (lent_of l) piece place answer left
  pub flat : r ≡ flat_of l.pieces piece left answer

pub rooms-answer : (l : FlatLent) (piece : List ℕ) (place : ℕ) (r : FlatPiece) (left : List ℕ) → FlatPermitted l piece place r left
    → r.refusal ≡ 0
    → RoomsAnswer l piece place r left
rooms-answer l piece place r left a e = by-test (is_flag l.pieces.dropping) known unknown where
  known : is_flag l.pieces.dropping ≡ true → RoomsAnswer l piece place r left
  known f =
      let v : Verdict First = eating (pieces_of l.pieces) l.buffer piece place in
      let b : FlatAnswered v l.pieces l.buffer piece r left = rw f at a in
      record {
        answer = v told_by returned piece;
        permitted = record { answer = refl; bytes = b.bytes };
        flat = b.answer ∙ sym (rw b.bytes (same-flat l.pieces l.buffer piece v));
      }

  unknown : is_flag l.pieces.dropping ≡ false → RoomsAnswer l piece place r left
  unknown f = let ten : r.refusal ≡ 10 = ap (λ (x : FlatPiece). x.refusal) (rw f at a).answer in absurd (omega arith)

-- ---- the calls for a piece

-- what a caller of the room is handed, laid flat
abbrev pub flat_all : List Seen → List FlatSeen
flat_all [] = []
flat_all (room.a_packet d says number ∷ ss) = a_packet d (soup_read d).packet number ∷ flat_all ss
flat_all (room.a_refusal d why ∷ ss) = a_refusal d (number_of why) ∷ flat_all ss

pub flat_append : (a b : List Seen) → flat_all (a ++ b) ≡ flat_all a ++ flat_all b
flat_append [] b = refl
flat_append (room.a_packet d says number ∷ a) b = rw (flat_append a b)
flat_append (room.a_refusal d why ∷ a) b = rw (flat_append a b)

pub flat-both : {some more : List FlatSeen} (a b : List Seen) → some ≡ flat_all a → more ≡ flat_all b → some ++ more ≡ flat_all (a ++ b)
flat-both a b p q = rw (p, q, flat_append a b)

pub flat-seen : (hs : List Yield) → flat_all (seen hs) ≡ flat_seen hs
flat-seen [] = refl
flat-seen (packet d p number ∷ hs) = rw (flat-seen hs)
flat-seen (refusal d why ∷ hs) = rw (flat-seen hs)

-- the room's calls that a program's are
pub record Through (piece : List ℕ) (l : FlatLent) (place : ℕ) (saw : List FlatSeen) (end : FlatLent) : Type 0 where
  pub got : List Seen
  pub calls : Calls Permitted piece (lent_of l) place got (lent_of end)
  pub same : saw ≡ flat_all got

-- no refusal has the number 0
never-nought : {C : Type 0} (why : Refusal) → number_of why ≡ 0 → C
never-nought why z = absurd (eqb-false (number_of why) 0 (has-number why) z)

apart : {C : Type 0} (m n : ℕ) → m ≡ n → (m ≡ n → ⊥) → C
apart m n e f = absurd (f e)

module _ (piece : List ℕ) (l : FlatLent) (place : ℕ) (r : FlatPiece) (left : List ℕ) where
  abbrev pub Flat : Verdict Taken → Type 0
  Flat t = r ≡ flat_of l.pieces piece left t

  abbrev pub Room : Verdict Taken → Type 0
  Room t = Permitted (lent_of l) piece place t left

  pub ends : r.refusal ≡ 0 → r.what ≡ 0 → (t : Verdict Taken) → Flat t → Room t → Through piece l place [] (then r left)
  ends e w (refused why) f a = never-nought why (rw f at e)
  ends e w (taken (takes.UsedUp after)) f a = record {
    got = [];
    calls = rw (f, pieces-again after) (room.uses_up (lent_of l) place after left a);
    same = refl;
  }
  ends e w (taken (takes.Packet says number bytes next after)) f a = apart 1 0 (rw f at w) (λ z. omega arith)
  ends e w (taken (takes.Unfit why bytes next after)) f a = apart 2 0 (rw f at w) (λ z. omega arith)

  -- a call that was not refused and has not used the piece up
  pub goes_on : r.refusal ≡ 0 → (r.what ≡ 0 → ⊥) → (calls : ℕ) (last : FlatLent) (at : ℕ)
      → Underway Permitted piece (lent_of (then r left)) r.place calls (lent_of last) at → (t : Verdict Taken) → Flat t → Room t
      → Underway Permitted piece (lent_of l) place (suc calls) (lent_of last) at
  goes_on e w calls last at on (refused why) f a = never-nought why (rw f at e)
  goes_on e w calls last at on (taken (takes.UsedUp after)) f a = absurd (w (rw f))
  goes_on e w calls last at on (taken (takes.Packet says number bytes next after)) f a =
      room.handing (lent_of l) place says number bytes next after left calls (lent_of last) at a (rw (f, pieces-again after) at on)
  goes_on e w calls last at on (taken (takes.Unfit why bytes next after)) f a =
      room.refusing (lent_of l) place why bytes next after left calls (lent_of last) at a (rw (f, pieces-again after) at on)

  module _ (more : List FlatSeen) (end : FlatLent) (on : Through piece (then r left) r.place more end) where
    pub hands_out : r.what ≡ 1 → (t : Verdict Taken) → Flat t → Room t
        → Through piece l place (a_packet (take r.bytes left) r.packet r.number ∷ more) end
    hands_out w (refused why) f a = apart 0 1 (rw f at w) (λ z. omega arith)
    hands_out w (taken (takes.UsedUp after)) f a = apart 0 1 (rw f at w) (λ z. omega arith)
    hands_out w (taken (takes.Packet says number bytes next after)) f a =
        let c : Calls Permitted piece (record { pieces = after; buffer = left }) next on.got (lent_of end) =
        rw (f, pieces-again after) at on.calls in
        record {
          got = room.a_packet (take bytes left) says (number_in number) ∷ on.got;
          calls = room.hands (lent_of l) place says number bytes next after left on.got (lent_of end) a c;
          same = rw (f, on.same);
        }
    hands_out w (taken (takes.Unfit why bytes next after)) f a = apart 2 1 (rw f at w) (λ z. omega arith)

    pub hands-back : r.what ≡ 2 → (t : Verdict Taken) → Flat t → Room t
        → Through piece l place (a_refusal (take r.bytes left) r.why ∷ more) end
    hands-back w (refused why) f a = apart 0 2 (rw f at w) (λ z. omega arith)
    hands-back w (taken (takes.UsedUp after)) f a = apart 0 2 (rw f at w) (λ z. omega arith)
    hands-back w (taken (takes.Packet says number bytes next after)) f a = apart 1 2 (rw f at w) (λ z. omega arith)
    hands-back w (taken (takes.Unfit why bytes next after)) f a =
        let c : Calls Permitted piece (record { pieces = after; buffer = left }) next on.got (lent_of end) =
        rw (f, pieces-again after) at on.calls in
        record {
          got = room.a_refusal (take bytes left) why ∷ on.got;
          calls = room.refuses (lent_of l) place why bytes next after left on.got (lent_of end) a c;
          same = rw (f, on.same);
        }
