-- Holding messages that came early: a full slot keeps what it has, what is newly held is the packet's message of that number, and nothing
-- is held past N+31; the area stays sound and the bitmap in place.
-- Assumes nothing.
use Prim.Native.Nat.{ℕ, suc, ◌+◌, ◌-◌, ◌*◌, ◌≤◌, ◌<◌}
use mathlib.Core.Path.{◌≡◌, refl, ap, sym, ◌∙◌}
use mathlib.Core.List.{List, [], ◌∷◌}
use mathlib.Core.Logic.{◌⊎◌, inl, inr}
use mathlib.Core.Bool.{Bool, true, false, not, ◌&&◌, ◌||◌, or-true, and-false, true≢false}
use native.Mathlib.Omega.{arith}
use borrow.Author.Tests.{lt-leb, leb-true, eq-eqb, eqb-true, eqb-false, not-true}
use lib.Dec.{leb, eqb}
use lib.ListN.{length, get_or}
use lib.Seq.{length-sets}
use Rattle.wire.specs.Checks.{◌is◌}
use Rattle.wire.proofs.Tests.{by-test, both, either}
use Rattle.blocks.specs.Blocks.{frame, stated}
use Rattle.blocks.proofs.Frames.{length-frame}
use Rattle.held.specs.Slots.{area_size, longest, slot_of, is_full, full, slot_at, held_message}
use Rattle.held.specs.Hanging.{in_place, sound}
use Rattle.held.specs.Holding.{Holding, holdable, laid, hold_one, hold_all}
use Rattle.held.proofs.Bitmap.{full-filled}
use Rattle.held.proofs.Areas.{other-stated, other-first, stored-stated, stored-message}
use Rattle.held.proofs.Hangs.{in_place_lem, in-place-so, Fits, sound-fits, fits-sound, fits-at}

-- there is a slot for message m
pub record Room (next : ℕ) (h : Holding) (m : ℕ) (message : List ℕ) : Type 0 where
  pub past : next + 1 ≤ m
  pub near : m ≤ next + 31
  pub free : full h.held m ≡ false
  pub short : length message ≤ longest
  pub enough : area_size ≤ length h.area

-- a message is laid in its slot, or all stays as it was
pub data Holds (next : ℕ) (h : Holding) (m : ℕ) (message : List ℕ) : Holding → Type 0 where
  lays : Room next h m message → Holds next h m message (laid h m message)
  keeps : holdable next h m message ≡ false → Holds next h m message h

module _ (next : ℕ) (h : Holding) (m : ℕ) (message : List ℕ) where
  pub has_room : holdable next h m message ≡ true → Room next h m message
  has_room e =
      let a = leb (next + 1) m in
      let b = leb m (next + 31) in
      let c = not (full h.held m) in
      let d = leb (length message) longest in
      let p = both (a && b && c && d) (leb area_size (length h.area)) e in
      let q = both (a && b && c) d p.0 in
      let r = both (a && b) c q.0 in
      let s = both a b r.0 in
      record {
        past = leb-true _ _ s.0;
        near = leb-true _ _ s.1;
        free = not-true _ r.1;
        short = leb-true _ _ q.1;
        enough = leb-true _ _ p.1;
      }

  pub holds : Holds next h m message (hold_one next h m message)
  unfolding hold_one
  holds =
      by-test (holdable next h m message)
      (λ e. rw e (lays (has_room e)))
      (λ e. rw e (keeps e))

  -- a number past N+31 is thrown away, and so is one whose slot is full, and a message that no slot has room for
  pub past-thrown : next + 31 < m → hold_one next h m message ≡ h
  unfolding hold_one
  past-thrown l = rw (lt-leb m (next + 31) l, and-false (leb (next + 1) m))

  pub full-kept : full h.held m ≡ true → hold_one next h m message ≡ h
  unfolding hold_one
  full-kept f = rw (f, and-false (leb (next + 1) m && leb m (next + 31)))

  pub long-thrown : longest < length message → hold_one next h m message ≡ h
  unfolding hold_one
  long-thrown l = rw (lt-leb (length message) longest l, and-false (leb (next + 1) m && leb m (next + 31) && not (full h.held m)))

-- what holding more keeps: the area's length, the full slots and their messages, and that the area fits
pub record Keeps (h k : Holding) : Type 0 where
  pub long : length k.area ≡ length h.area
  pub full : (n : ℕ) → full h.held n ≡ true → full k.held n ≡ true
  pub same : Fits h.held h.area → (n : ℕ) → is_full h.held (slot_of n) ≡ true → held_message k.area n ≡ held_message h.area n
  pub fits : Fits h.held h.area → Fits k.held k.area

keeps-all : (h : Holding) → Keeps h h
keeps-all h = record { long = refl; full = λ n f. f; same = λ p n f. refl; fits = λ p. p }

keeps_on : (h k l : Holding) → Keeps h k → Keeps k l → Keeps h l
keeps_on h k l a b = record {
  long = b.long ∙ a.long;
  full = λ n f. b.full n (a.full n f);
  same = λ p n f. b.same (a.fits p) n (a.full n f) ∙ a.same p n f;
  fits = λ p. b.fits (a.fits p);
}

-- one message laid in a free slot
module _ (next : ℕ) (h : Holding) (m : ℕ) (message : List ℕ) (r : Room next h m message) where
  abbrev k : Holding
  k = laid h m message

  laid-full : (i : ℕ) → is_full k.held i ≡ (is_full h.held i || i is slot_of m)
  laid-full i = full-filled h.held (slot_of m) i

  small : length (frame message) ≤ 1472
  small = let s = r.short in let l = length-frame message in omega arith

  -- a slot that was full is another
  apart : (i : ℕ) → is_full h.held i ≡ true → (slot_of m ≡ i) → ⊥
  apart i f e = true≢false (sym f ∙ ap (is_full h.held) (sym e) ∙ r.free)

  still_full : (i : ℕ) → is_full h.held i ≡ true → is_full k.held i ≡ true
  still_full i f = rw (laid-full i, f)

  still-fits : Fits h.held h.area → (i : ℕ) → i < 32 → is_full k.held i ≡ true → stated (slot_at k.area i) ≤ longest
  still-fits p i l f =
      by-test (eqb i (slot_of m))
      (λ e.
      let s = eqb-true i (slot_of m) e in
      rw (s, stored-stated h.area message (slot_of m) (omega arith) r.short r.enough) r.short)
      (λ e.
      let g = eqb-false i (slot_of m) e in
      let w : is_full h.held i ≡ true = was (is_full h.held i) (eqb i (slot_of m)) e (sym (laid-full i) ∙ f) in
      rw (other-stated h.area (frame message) (slot_of m) i (λ q. g (sym q)) small) (p.each i l w)) where
        was : (a b : Bool) → b ≡ false → a || b ≡ true → a ≡ true
        was true b q f = refl
        was false b q f = sym q ∙ f

  lays-keeps : Keeps h k
  lays-keeps = record {
    long = length-sets h.area (1472 * slot_of m) (frame message);
    full = λ n f. still_full (slot_of n) f;
    same = λ p n f. other-first h.area (frame message) (slot_of m) (slot_of n) (apart (slot_of n) f) small
        (fits-at h.held h.area p n f);
    fits = λ p. record { enough = rw (length-sets h.area (1472 * slot_of m) (frame message)) r.enough; each = still-fits p };
  }

  lays-in-place : (top : ℕ) → in_place h.held next top ≡ true → m ≤ top → in_place k.held next top ≡ true
  lays-in-place top e l = in-place-so k.held next top
      (λ d b f. by d b (either (full h.held (next + d)) (eqb (slot_of (next + d)) (slot_of m)) (sym (laid-full (slot_of (next + d))) ∙ f)))
    where
      by : (d : ℕ) → d < 32 → (full h.held (next + d) ≡ true) ⊎ (eqb (slot_of (next + d)) (slot_of m) ≡ true) → (1 ≤ d) × (next + d ≤ top)
      by d b (inl f) = in_place_lem h.held next top e d b f
      by d b (inr s) =
          let q = eqb-true (slot_of (next + d)) (slot_of m) s in
          let x : next + d ≡ m = one_number next d m b r.past r.near q in
          let a = r.past in
          (omega arith, omega arith) where
            one_number : (next d m : ℕ) → d < 32 → next + 1 ≤ m → m ≤ next + 31 → slot_of (next + d) ≡ slot_of m → next + d ≡ m
            one_number next d m b p n q = omega arith

  lays-new : (n : ℕ) → next + 1 ≤ n → n ≤ next + 31 → full k.held n ≡ true
      → (full h.held n ≡ true) ⊎ ((n ≡ m) × (held_message k.area n ≡ message))
  lays-new n a b f = by (either (full h.held n) (eqb (slot_of n) (slot_of m)) (sym (laid-full (slot_of n)) ∙ f)) where
    one_number : (next n m : ℕ) → next + 1 ≤ n → n ≤ next + 31 → next + 1 ≤ m → m ≤ next + 31 → slot_of n ≡ slot_of m → n ≡ m
    one_number next n m p q s t e = omega arith

    by : (full h.held n ≡ true) ⊎ (eqb (slot_of n) (slot_of m) ≡ true)
        → (full h.held n ≡ true) ⊎ ((n ≡ m) × (held_message (laid h m message).area n ≡ message))
    by (inl f) = inl f
    by (inr s) =
        let e = one_number next n m a b r.past r.near (eqb-true (slot_of n) (slot_of m) s) in
        inr (e, rw e (stored-message h.area message m r.short r.enough))

module _ (next : ℕ) where
  module _ (h : Holding) (m : ℕ) (message : List ℕ) where
    one-keeps : Keeps h (hold_one next h m message)
    one-keeps = by (hold_one next h m message) (holds next h m message) where
      by : (k : Holding) → Holds next h m message k → Keeps h k
      by _ (lays r) = lays-keeps next h m message r
      by _ (keeps _) = keeps-all h

    one-in-place : (top : ℕ) → in_place h.held next top ≡ true → m ≤ top → in_place (hold_one next h m message).held next top ≡ true
    one-in-place top e l = by (hold_one next h m message) (holds next h m message) where
      by : (k : Holding) → Holds next h m message k → in_place k.held next top ≡ true
      by _ (lays r) = lays-in-place next h m message r top e l
      by _ (keeps _) = e

    one-new : (n : ℕ) → next + 1 ≤ n → n ≤ next + 31 → full (hold_one next h m message).held n ≡ true
        → (full h.held n ≡ true) ⊎ ((n ≡ m) × (held_message (hold_one next h m message).area n ≡ message))
    one-new n a b = by (hold_one next h m message) (holds next h m message) where
      by : (k : Holding) → Holds next h m message k → full k.held n ≡ true
          → (full h.held n ≡ true) ⊎ ((n ≡ m) × (held_message k.area n ≡ message))
      by _ (lays r) f = lays-new next h m message r n a b f
      by _ (keeps _) f = inl f

  -- a full slot keeps what it has, the area its length, and it stays sound
  pub all-keeps : (h : Holding) (m : ℕ) (ms : List (List ℕ)) → Keeps h (hold_all next h m ms)
  unfolding hold_all
  all-keeps h m [] = keeps-all h
  all-keeps h m (x ∷ ms) =
      let k = hold_one next h m x in
      keeps_on h k (hold_all next k (suc m) ms) (one-keeps h m x) (all-keeps k (suc m) ms)

  pub all_sound : (h : Holding) (m : ℕ) (ms : List (List ℕ)) → sound h.held h.area ≡ true
      → sound (hold_all next h m ms).held (hold_all next h m ms).area ≡ true
  all_sound h m ms e =
      let k = hold_all next h m ms in
      fits-sound k.held k.area ((all-keeps h m ms).fits (sound-fits h.held h.area e))

  -- the bitmap stays in place, where the last of the messages is not above T
  pub all-in-place : (h : Holding) (m : ℕ) (ms : List (List ℕ)) (top : ℕ) → in_place h.held next top ≡ true → m + length ms ≤ top + 1
      → in_place (hold_all next h m ms).held next top ≡ true
  unfolding hold_all
  all-in-place h m [] top e l = e
  all-in-place h m (x ∷ ms) top e l =
      all-in-place (hold_one next h m x) (suc m) ms top (one-in-place h m x top e (omega arith)) (omega arith)

  -- what is newly held as number n is the packet's message of that number: by the first message, whose slot keeps what it has from then on,
  -- or by one behind it
  pub all_new : (h : Holding) (m : ℕ) (ms : List (List ℕ)) → Fits h.held h.area → (n : ℕ) → next + 1 ≤ n → n ≤ next + 31
      → full (hold_all next h m ms).held n ≡ true
      → (full h.held n ≡ true) ⊎ ((m ≤ n) × (n < m + length ms) × (held_message (hold_all next h m ms).area n ≡ get_or ms (n - m) []))
  unfolding hold_all
  all_new h m [] p n a b f = inl f
  all_new h m (x ∷ ms) p n a b f = by (all_new k (suc m) ms ((one-keeps h m x).fits p) n a b f) where
    k : Holding
    k = hold_one next h m x

    l : Holding
    l = hold_all next k (suc m) ms

    at_first : n ≡ m → held_message k.area n ≡ x → full k.held n ≡ true
        → (m ≤ n) × (n < m + suc (length ms)) × (held_message l.area n ≡ get_or (x ∷ ms) (n - m) [])
    at_first e q g =
        let z : n - m ≡ 0 = omega arith in
        let same = (all-keeps k (suc m) ms).same ((one-keeps h m x).fits p) n g in
        (omega arith, omega arith, same ∙ q ∙ ap (λ (i : ℕ). get_or (x ∷ ms) i []) (sym z))

    here : full k.held n ≡ true → (full h.held n ≡ true) ⊎ ((n ≡ m) × (held_message k.area n ≡ x))
        → (full h.held n ≡ true) ⊎ ((m ≤ n) × (n < m + suc (length ms)) × (held_message l.area n ≡ get_or (x ∷ ms) (n - m) []))
    here g (inl f) = inl f
    here g (inr q) = inr (at_first q.0 q.1 g)

    by : (full k.held n ≡ true) ⊎ ((suc m ≤ n) × (n < suc m + length ms) × (held_message l.area n ≡ get_or ms (n - suc m) []))
        → (full h.held n ≡ true) ⊎ ((m ≤ n) × (n < m + suc (length ms)) × (held_message l.area n ≡ get_or (x ∷ ms) (n - m) []))
    by (inl g) = here g (one-new h m x n a b g)
    by (inr q) =
        let c = q.0 in
        let d = q.1 in
        let z : n - m ≡ suc (n - suc m) = omega arith in
        inr (omega arith, omega arith, q.2 ∙ ap (λ (i : ℕ). get_or (x ∷ ms) i []) (sym z))

  -- nothing is held past N+31
  pub all_past : (h : Holding) (m : ℕ) (ms : List (List ℕ)) → next + 31 < m → hold_all next h m ms ≡ h
  unfolding hold_all
  all_past h m [] l = refl
  all_past h m (x ∷ ms) l = rw (past-thrown next h m x l) (all_past h (suc m) ms (omega arith))

  -- there was no slot for a message, or there is none once it is held
  none_stays : (h k : Holding) (m : ℕ) (message : List ℕ) → Keeps h k → holdable next h m message ≡ false
      → holdable next k m message ≡ false
  none_stays h k m message p e =
      by-test (full k.held m)
      (λ f. rw (f, and-false (leb (next + 1) m && leb m (next + 31))))
      (λ f.
      let was : full h.held m ≡ false = by-test (full h.held m) (λ g. absurd (true≢false (sym (p.full m g) ∙ f))) (λ g. g) in
      rw (p.long, f) (rw was at e))

  one-once : (h : Holding) (m : ℕ) (message : List ℕ) → holdable next (hold_one next h m message) m message ≡ false
  one-once h m message = by (hold_one next h m message) (holds next h m message) where
    by : (k : Holding) → Holds next h m message k → holdable next k m message ≡ false
    by _ (lays r) =
        let f : full (laid h m message).held m ≡ true =
        full-filled h.held (slot_of m) (slot_of m)
        ∙ ap (λ (b : Bool). full h.held m || b) (eq-eqb (slot_of m) (slot_of m) refl)
        ∙ or-true (full h.held m) in
        rw (f, and-false (leb (next + 1) m && leb m (next + 31)))
    by _ (keeps e) = e

  left_so : (h : Holding) (m : ℕ) (message : List ℕ) → holdable next h m message ≡ false → hold_one next h m message ≡ h
  unfolding hold_one
  left_so h m message e = rw e

  -- holding the same messages again changes nothing
  pub held-again : (h : Holding) (m : ℕ) (ms : List (List ℕ)) → hold_all next (hold_all next h m ms) m ms ≡ hold_all next h m ms
  unfolding hold_all
  held-again h m [] = refl
  held-again h m (x ∷ ms) =
      let k = hold_one next h m x in
      let l = hold_all next k (suc m) ms in
      rw (left_so l m x (none_stays k l m x (all-keeps k (suc m) ms) (one-once h m x))) (held-again k (suc m) ms)
