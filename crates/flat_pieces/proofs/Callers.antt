-- What is proved of the room's callers holds of a program in C: however the bytes were cut, it is handed what the machine hands out for
-- them, and ends in the same state; and its calling comes to an end.
-- Assumes nothing.
use Prim.Native.Nat.{ℕ, ◌+◌, ◌≤◌}
use mathlib.Core.Path.{◌≡◌, refl, sym, ◌∙◌}
use mathlib.Core.Bool.{true}
use mathlib.Core.List.{List, [], ◌++◌}
use lib.ListN.{length, drop}
use Rattle.wire.specs.Checks.{Verdict, taken}
use Rattle.soup_pieces.specs.Machine.{packet, refusal, yielded, fates, fed, First, used_up, given, first}
use Rattle.soup_pieces.specs.Calling.{Lent, machine_in, Permitted, Seen, Calls, Underway, Feeds, joined}
use Rattle.soup_pieces.specs.Calling as room
use Rattle.soup_pieces.specs.declared.Taken.{Taken}
use Rattle.soup_pieces.specs.declared.Taken.TheVariants as takes
use Rattle.soup_pieces.proofs.Callers.{Ready, feeds-eat, calls-are-few, feeding-ends}
use Rattle.soup_pieces.proofs.Takes.{goes_on as call-goes-on}
use Rattle.flat.specs.Flag.{is_flag}
use Rattle.flat.proofs.Flags.{flag-again}
use Rattle.flat_pieces.specs.Taking.{pieces_of, flat_pieces, flat_taken}
use Rattle.flat_pieces.specs.Calling.{FlatLent, lent_of, FlatEntry, FlatPermitted, FlatSeen, flat_seen, then, FlatCalls, uses_up, hands}
use Rattle.flat_pieces.specs.Calling.{refuses, FlatUnderway, begun, called, FlatFeeds, done, feeds}
use Rattle.flat_pieces.specs.declared.FlatPiece.{FlatPiece}
use Rattle.flat_pieces.proofs.Flattening.{flat_of, flattens}
use Rattle.flat_pieces.proofs.FlatAndBack.{call-again}
use Rattle.flat_pieces.proofs.Calls.{rooms-answer, flat_all, flat_append, flat-both, flat-seen, Through, ends, hands_out, hands-back}
use Rattle.flat_pieces.proofs.Calls.{goes_on}

-- ---- from a state that hangs together no call inside the piece is refused, and the flag that it hands back is one

abbrev pub Unrefused : FlatPiece → Type 0
Unrefused r = (r.refusal ≡ 0) × (is_flag r.pieces.dropping ≡ true)

pub never-refused : (l : FlatLent) (piece : List ℕ) (place : ℕ) (r : FlatPiece) (left : List ℕ)
    → is_flag l.pieces.dropping ≡ true
    → Ready (lent_of l)
    → place ≤ length piece
    → FlatPermitted l piece place r left
    → Unrefused r
never-refused l piece place r left f h p a =
    let on = call-goes-on (pieces_of l.pieces) l.buffer piece place h p in
    let answer : r ≡ flat_taken l.pieces piece (taken (first (machine_in (lent_of l)) (drop place piece))) = a.answer ∙ rw (f, on) in
    rw answer (by (first (machine_in (lent_of l)) (drop place piece))) where
      by : (x : First) → Unrefused (flat_taken l.pieces piece (taken x))
      by (used_up s) = (refl, flag-again s.dropping)
      by (given (packet d q number) s rest) = (refl, flag-again s.dropping)
      by (given (refusal d why) s rest) = (refl, flag-again s.dropping)

-- ---- by an entry that allows no more than the contract

-- what the machine makes of the bytes, as the program sees it
pub record Flat-eaten-up (l : FlatLent) (bs : List ℕ) (saw : List FlatSeen) (end : FlatLent) : Type 0 where
  pub gave : saw ≡ flat_seen (yielded (fates (machine_in (lent_of l)) bs))
  pub machine : machine_in (lent_of end) ≡ fed (machine_in (lent_of l)) bs
  pub ready : Ready (lent_of end)

module _ (entry : FlatEntry) (allows : (l : FlatLent) (piece : List ℕ) (place : ℕ) (r : FlatPiece) (left : List ℕ)
    → entry l piece place r left → FlatPermitted l piece place r left) where
  calls-through : (piece : List ℕ) (l : FlatLent) (place : ℕ) (saw : List FlatSeen) (end : FlatLent) → FlatCalls entry piece l place saw end
      → Through piece l place saw end
  calls-through piece l place saw end (uses_up _ _ r left a e w) =
      let t = rooms-answer l piece place r left (allows l piece place r left a) e in
      ends piece l place r left e w t.answer t.flat t.permitted
  calls-through piece l place saw end (hands _ _ r left more _ a e w cs) =
      let t = rooms-answer l piece place r left (allows l piece place r left a) e in
      let on = calls-through piece (then r left) r.place more end cs in
      hands_out piece l place r left more end on w t.answer t.flat t.permitted
  calls-through piece l place saw end (refuses _ _ r left more _ a e w cs) =
      let t = rooms-answer l piece place r left (allows l piece place r left a) e in
      let on = calls-through piece (then r left) r.place more end cs in
      hands-back piece l place r left more end on w t.answer t.flat t.permitted

  feeds-through : (l : FlatLent) (pieces : List (List ℕ)) (saw : List FlatSeen) (end : FlatLent) → FlatFeeds entry l pieces saw end
      → (got : List Seen) × Feeds Permitted (lent_of l) pieces got (lent_of end) × (saw ≡ flat_all got)
  feeds-through l pieces saw end (done _) = ([], room.done (lent_of l), refl)
  feeds-through l pieces saw end (feeds _ piece rest some more mid _ cs fs) =
      let c = calls-through piece l 0 some mid cs in
      let f = feeds-through mid rest more end fs in (
        c.got ++ f.0,
        room.feeds (lent_of l) piece rest c.got f.0 (lent_of mid) (lent_of end) c.calls f.1,
        flat-both c.got f.0 c.same f.2,
      )

  pub fed-is-eaten : (l : FlatLent) (pieces : List (List ℕ)) (saw : List FlatSeen) (end : FlatLent) → Ready (lent_of l)
      → FlatFeeds entry l pieces saw end → Flat-eaten-up l (joined pieces) saw end
  fed-is-eaten l pieces saw end h fs =
      let f = feeds-through l pieces saw end fs in
      let g = feeds-eat Permitted (λ _ _ _ _ _ a. a) (lent_of l) pieces f.0 (lent_of end) h f.1 in
      record {
        gave = f.2 ∙ rw g.gave (flat-seen (yielded (fates (machine_in (lent_of l)) (joined pieces))));
        machine = g.machine;
        ready = g.ready;
      }

  -- Cut elsewhere, the same bytes from the same state give the same packets and refusals, and end in the same state.
  pub cut-anywhere : (l m : FlatLent) (pieces others : List (List ℕ)) (saw got : List FlatSeen) (end last : FlatLent)
      → Ready (lent_of l)
      → Ready (lent_of m)
      → machine_in (lent_of l) ≡ machine_in (lent_of m)
      → joined pieces ≡ joined others
      → FlatFeeds entry l pieces saw end
      → FlatFeeds entry m others got last
      → (saw ≡ got) × (machine_in (lent_of end) ≡ machine_in (lent_of last))
  cut-anywhere l m pieces others saw got end last h k e j fs gs =
      let f = fed-is-eaten l pieces saw end h fs in
      let g = fed-is-eaten m others got last k gs in
      (f.gave ∙ rw (e, j) (sym g.gave), f.machine ∙ rw (e, j) (sym g.machine))

  -- so many calls that none of them has used the piece up are no more than the bytes that were left of it
  underway : (piece : List ℕ) (l : FlatLent) (place calls : ℕ) (last : FlatLent) (at : ℕ) → FlatUnderway entry piece l place calls last at
      → Underway Permitted piece (lent_of l) place calls (lent_of last) at
  underway piece l place calls last at (begun _ _) = room.begun (lent_of l) place
  underway piece l place calls last at (called _ _ r left n _ _ a e w us) =
      let t = rooms-answer l piece place r left (allows l piece place r left a) e in
      goes_on piece l place r left e w n last at (underway piece (then r left) r.place n last at us) t.answer t.flat t.permitted

  pub program-calls-few : (piece : List ℕ) (l : FlatLent) (place calls : ℕ) (last : FlatLent) (at : ℕ)
      → Ready (lent_of l)
      → place ≤ length piece
      → FlatUnderway entry piece l place calls last at
      → (place + calls ≤ at) × (at ≤ length piece) × Ready (lent_of last)
  program-calls-few piece l place calls last at h p us =
      calls-are-few Permitted (λ _ _ _ _ _ a. a) piece (lent_of l) place calls (lent_of last) at h p
      (underway piece l place calls last at us)

-- ---- each call of the room is one of a program, so that calling comes to an end

abbrev pub flat_lent : Lent → FlatLent
flat_lent l = record { pieces = flat_pieces l.pieces; buffer = l.buffer }

-- by an entry that allows whatever the contract permits
module _ (entry : FlatEntry) (offers : (l : FlatLent) (piece : List ℕ) (place : ℕ) (r : FlatPiece) (left : List ℕ)
    → FlatPermitted l piece place r left → entry l piece place r left) where
  offered : (l : Lent) (piece : List ℕ) (place : ℕ) (t : Verdict Taken) (left : List ℕ)
      → Permitted l piece place t left
      → entry (flat_lent l) piece place (flat_of (flat_pieces l.pieces) piece left t) left
  offered l piece place t left a =
      offers (flat_lent l) piece place _ left (flattens {r = t} (rw (call-again l.pieces l.buffer piece place) a) refl)

  calls-flat : (piece : List ℕ) (l : Lent) (place : ℕ) (got : List Seen) (end : Lent)
      → Calls Permitted piece l place got end
      → FlatCalls entry piece (flat_lent l) place (flat_all got) (flat_lent end)
  calls-flat piece l place got end (room.uses_up _ _ kept left a) =
      uses_up (flat_lent l) place _ left (offered l piece place (taken (takes.UsedUp kept)) left a) refl refl
  calls-flat piece l place got end (room.hands _ _ says number bytes next kept left more _ a cs) =
      let on = calls-flat piece (record { pieces = kept; buffer = left }) next more end cs in
      let answer = offered l piece place (taken (takes.Packet says number bytes next kept)) left a in
      hands (flat_lent l) place _ left (flat_all more) (flat_lent end) answer refl refl on
  calls-flat piece l place got end (room.refuses _ _ why bytes next kept left more _ a cs) =
      let on = calls-flat piece (record { pieces = kept; buffer = left }) next more end cs in
      let answer = offered l piece place (taken (takes.Unfit why bytes next kept)) left a in
      refuses (flat_lent l) place _ left (flat_all more) (flat_lent end) answer refl refl on

  feeds-flat : (l : Lent) (pieces : List (List ℕ)) (got : List Seen) (end : Lent) → Feeds Permitted l pieces got end
      → FlatFeeds entry (flat_lent l) pieces (flat_all got) (flat_lent end)
  feeds-flat l pieces got end (room.done _) = done (flat_lent l)
  feeds-flat l pieces got end (room.feeds _ piece rest some more mid _ cs fs) =
      let c = calls-flat piece l 0 some mid cs in
      let f = feeds-flat mid rest more end fs in
      rw (flat_append some more) (feeds (flat_lent l) piece rest (flat_all some) (flat_all more) (flat_lent mid) (flat_lent end) c f)

  pub program-ends : (l : Lent) (pieces : List (List ℕ)) → Ready l
      → (saw : List FlatSeen) × (end : FlatLent) × FlatFeeds entry (flat_lent l) pieces saw end
  program-ends l pieces h =
      let f = feeding-ends Permitted (λ _ _ _ _ _ a. a) (λ _ _ _ _ _ a. a) l pieces h in
      (flat_all f.0, flat_lent f.1, feeds-flat l pieces f.0 f.1 f.2)
