-- What delivering hands over, from the place that skipping reached: the packet's own blocks, and behind them what was let go.
-- Assumes nothing.
use Prim.Native.Nat.{ℕ, ◌+◌, ◌-◌, ◌≤◌, ◌<◌}
use mathlib.Core.List.{List, [], ◌∷◌, ◌++◌, append_assoc}
use mathlib.Core.Path.{◌≡◌, refl, ap, sym, ◌∙◌}
use native.Mathlib.Omega.{arith}
use borrow.Author.Tests.{leb-true}
use lib.ListN.{length, take, drop, length-drop, length-append}
use lib.Seq.{sets, length-sets, take_all, drop_at, length-take-le}
use Rattle.wire.specs.Checks.{◌at_most◌, Verdict, refused, taken, Check, ◌else◌, ◌into◌}
use Rattle.wire.proofs.Checks.{all-passed, not-both, taken-same}
use Rattle.wire.specs.Reply.{within}
use Rattle.wire.specs.Reply as Reply
use Rattle.wire.specs.declared.refusal.Refusal.{Refusal}
use Rattle.wire.specs.declared.refusal.Refusal.TheVariants.{Room, Broken}
use Rattle.wire.proofs.Settling.{stored, stored_at, refuses, lacks-room, has_room}
use Rattle.blocks.specs.Blocks.{frames, place_after}
use Rattle.held.specs.Hanging.{sound}
use Rattle.held.specs.Releasing.{released, releasing, released_of, Settled}
use Rattle.held.specs.declared.releasing.Released.{Released}
use Rattle.taking.specs.Delivering.{handed_own, Given, handed, Handed}

-- one run stored behind the room of another, and then that other
stored-both : (a b out : List ℕ) → length a + length b ≤ length out
    → sets (sets out (length a) b) 0 a ≡ (a ++ b) ++ drop (length (a ++ b)) out
stored-both a b out h =
    let l : List ℕ = sets out (length a) b in
    let n : length l ≡ length out = length-sets out (length a) b in
    let t : length (take (length a) out) ≡ length a = length-take-le (length a) out (omega arith) in
    let rest = drop (length a + length b) out in
    let d : drop (length a) l ≡ b ++ rest =
    ap (drop (length a)) (stored_at out b (length a) h) ∙ drop_at (take (length a) out) (b ++ rest) (length a) t in
    stored a l (omega arith)
    ∙ ap (λ (x : List ℕ). a ++ x) d
    ∙ sym (append_assoc a b rest)
    ∙ ap (λ (k : ℕ). (a ++ b) ++ drop k out) (sym (length-append a b))

-- what was let go fits behind the place, and the output is as long as before
pub let-fits : (held : ℕ) (area : List ℕ) (m at : ℕ) (out : List ℕ) (g : Released) (left : List ℕ)
    → Settled (releasing held area m at (length out)) at out (taken g) left → (at + g.bytes ≤ length out) × (length left ≡ length out)
let-fits held area m at out g left h = by (releasing held area m at (length out)) refl h where
  by : (v : Verdict (List (List ℕ))) → releasing held area m at (length out) ≡ v → Settled v at out (taken g) left
      → (at + g.bytes ≤ length out) × (length left ≡ length out)
  by (refused x) w h = not-both (taken g) x g h.answer refl
  by (taken ms) w h =
      let cs : List Check = (sound held area else Broken) ∷ (at + length (frames (released held area m)) at_most length out else Room) ∷
      [] in
      let c = all-passed cs (taken (released held area m)) ms w in
      let same : released held area m ≡ ms = taken-same (released held area m) ms c.1 in
      let z : g.bytes ≡ length (frames ms) = ap (λ (x : Released). x.bytes) (taken-same g (released_of ms) h.answer) in
      let fits = leb-true (at + length (frames (released held area m))) (length out) c.0.1.0 in
      (rw (z, ← same) fits, ap length h.bytes ∙ length-sets out at (frames ms))

module _ (k : ℕ) (s : List ℕ) (p held : ℕ) (area : List ℕ) (m : ℕ) (out : List ℕ) where
  abbrev said : Verdict Given
  said = handed k s p held area m (length out)

  pub hands_none : (why : Refusal) → place_after k s p ≡ refused why → Handed said out (refused why) out
  hands_none why e = rw e (record { answer = refl; bytes = refl })

  module _ (q : ℕ) (e : place_after k s p ≡ taken q) where
    abbrev let_go : Verdict (List (List ℕ))
    let_go = releasing held area m (length (drop q s)) (length out)

    from-there : said ≡ let_go into λ ms. taken (record { own = drop q s; released = ms })
    from-there = rw e

    pub hands-back : (why : Refusal) (left : List ℕ)
        → Settled (releasing held area m (length s - q) (length out)) (length s - q) out (refused why) left
        → Handed said out (refused why) left
    hands-back why left h = rw from-there (by let_go (rw (← length-drop q s) at h)) where
      by : (v : Verdict (List (List ℕ))) → Settled v (length (drop q s)) out (refused why) left
          → Handed (v into λ ms. taken (record { own = drop q s; released = ms })) out (refused why) left
      by (refused x) h = record { answer = h.answer; bytes = h.bytes }
      by (taken ms) h = not-both (refused why) why (released_of ms) refl h.answer

    pub hands-over : (g : Released) (left last : List ℕ)
        → Settled (releasing held area m (length s - q) (length out)) (length s - q) out (taken g) left
        → last ≡ sets left 0 (take (length s - q) (drop q s))
        → Handed said out (taken (record { messages = g.messages; bytes = length s - q + g.bytes })) last
    hands-over g left last h f = rw from-there (by let_go refl (rw (← length-drop q s) at h)) where
      by : (v : Verdict (List (List ℕ))) → let_go ≡ v → Settled v (length (drop q s)) out (taken g) left
          → Handed (v into λ ms. taken (record { own = drop q s; released = ms })) out
          (taken (record { messages = g.messages; bytes = length s - q + g.bytes })) last
      by (refused x) w h = not-both (taken g) x g h.answer refl
      by (taken ms) w h =
          let room = (let-fits held area m (length (drop q s)) out g left (rw w h)).0 in
          let l = length-drop q s in
          let o : take (length s - q) (drop q s) ≡ drop q s = take_all (length s - q) (drop q s) (omega arith) in
          let same : g ≡ released_of ms = taken-same g (released_of ms) h.answer in
          let n : g.messages ≡ length ms = ap (λ (x : Released). x.messages) same in
          let z : g.bytes ≡ length (frames ms) = ap (λ (x : Released). x.bytes) same in
          let t : length s - q + g.bytes ≡ length (drop q s ++ frames ms) = rw length-append (omega arith) in
          record { answer = rw (n, t); bytes = f ∙ rw (o, h.bytes) (stored-both (drop q s) (frames ms) out (omega arith)) }

-- and where nothing is held
module _ (k : ℕ) (s : List ℕ) (p : ℕ) (out : List ℕ) where
  pub own-none : (why : Refusal) → place_after k s p ≡ refused why
      → Reply.Settled (handed_own k s p (length out)) out (refused why) out
  own-none why e = refuses (handed_own k s p (length out)) out why (rw e)

  module _ (q : ℕ) (e : place_after k s p ≡ taken q) where
    from-there-own : handed_own k s p (length out) ≡ within (length out) (drop q s)
    from-there-own = rw e

    pub own_back : length out < length s - q → Reply.Settled (handed_own k s p (length out)) out (refused Room) out
    own_back h = lacks-room _ (drop q s) out from-there-own (rw length-drop h)

    pub own-over : (left : List ℕ) → length s - q ≤ length out → left ≡ sets out 0 (take (length s - q) (drop q s))
        → Reply.Settled (handed_own k s p (length out)) out (taken (length s - q)) left
    own-over left h f =
        let l : length (drop q s) ≡ length s - q = length-drop q s in
        let all : take (length s - q) (drop q s) ≡ drop q s = take_all (length s - q) (drop q s) (omega arith) in
        has_room _ (drop q s) out from-there-own left (length s - q) (sym l) (omega arith) (rw all at f)
