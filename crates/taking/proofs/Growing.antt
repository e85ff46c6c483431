-- A record only grows: no datagram takes anything back, and nothing that is held is forgotten.
-- Assumes nothing.
use Prim.Native.Nat.{ℕ, ◌+◌, ◌≤◌, ◌<◌}
use mathlib.Core.List.{List}
use mathlib.Core.Path.{◌≡◌, refl, ap, sym, ◌∙◌}
use mathlib.Core.Bool.{Bool, true, false, ◌||◌, true≢false}
use native.Mathlib.Nat.{add-zero}
use native.Mathlib.Omega.{arith}
use borrow.Author.Tests.{leb-true, leb-false}
use lib.Dec.{leb}
use lib.ListN.{length}
use Rattle.wire.specs.Checks.{taken}
use Rattle.wire.proofs.Tests.{by-test}
use Rattle.held.specs.Slots.{slot_of, full, freed_from, held_message}
use Rattle.held.specs.Hanging.{sound}
use Rattle.held.specs.Holding.{Holding}
use Rattle.held.proofs.Bitmap.{freed-stays}
use Rattle.held.proofs.Hangs.{sound-fits}
use Rattle.held.proofs.Holds.{all-keeps}
use Rattle.held.proofs.Releases.{released-free}
use Rattle.missing.specs.Missing.{is_held}
use Rattle.record.specs.Record.{hangs}
use Rattle.record.specs.declared.Record.{Record}
use Rattle.record.proofs.Hanging.{hanging}
use Rattle.reports.specs.Reports.{Report, messages, is_end}
use Rattle.taking.specs.Taking.{own, delivered, freed_by, holding, after, Taking, taking}
use Rattle.taking.proofs.EarlyOrLate.{Lies, reaches, ahead, passes, lies, early, early-held, none-held, delivers-many, delivers-none}
use Rattle.taking.proofs.EarlyOrLate.{holds-early}
use Rattle.taking.proofs.Took.{took}
use Rattle.taking.proofs.Numbered.{Held, is-held, held-so}

pub record Grown (old new : Record) : Type 0 where
  pub next : old.next.0 ≤ new.next.0
  pub top : old.top.0 ≤ new.top.0
  pub ended : old.ended ≡ true → new.ended ≡ true
  pub session : new.session ≡ old.session
  pub asked : new.asked ≡ old.asked

stays : (a b : Bool) → a ≡ true → a || b ≡ true
stays a b e = rw e

grown : (r : Record) (area : List ℕ) (report : Report) → Grown r (after r area report)
grown r area report =
    record { next = omega arith; top = omega arith; ended = stays r.ended (is_end report); session = refl; asked = refl }

-- N and T never fall, an end is never taken back, and the session and the number last asked from stay.
pub never-falls : (r : Record) (area d : List ℕ) (room : ℕ) (t : Taking) → taking r area d room ≡ taken t → Grown r t.after
never-falls r area d room t e = let w = took r area d room t e in rw w.reported.gives (grown r area w.report)

-- a number that was held has been delivered, or is still held, with the same message
pub data Remembered (next held : ℕ) (area : List ℕ) (m : ℕ) (message : List ℕ) : Type 0 where
  went-out : m < next → Remembered next held area m message
  still-held : is_held held next m ≡ true → held_message area m ≡ message → Remembered next held area m message

-- n messages went out from N on, and N's slot is free: what was held past them still is
freed-remembers : (held next n : ℕ) (area : List ℕ) → full (freed_from n held next) (next + n) ≡ false → (m : ℕ) → Held held next m
    → Remembered (next + n) (freed_from n held next) area m (held_message area m)
freed-remembers held next n area z m h =
    by-test (leb (next + n) m)
    (λ e.
    let l = leb-true (next + n) m e in
    let f : full (freed_from n held next) m ≡ true = freed-stays n held next m (λ j b q. apart next n m j h.near l b q) ∙ h.full in
    let d : (m ≡ next + n) → ⊥ = λ q. true≢false (sym f ∙ ap (full (freed_from n held next)) q ∙ z) in
    let a = h.near in
    still-held (held-so (freed_from n held next) (next + n) m (record { past = omega arith; near = omega arith; full = f })) refl)
    (λ e. went-out (leb-false (next + n) m e)) where
      apart : (next n m j : ℕ) → m ≤ next + 31 → next + n ≤ m → j < n → slot_of m ≡ slot_of (next + j) → ⊥
      apart next n m j a l b q = omega arith

module _ (r : Record) (area : List ℕ) (h : hangs r ≡ true) (s : sound r.held area ≡ true) (m : ℕ) (was : Held r.held r.next.0 m)
  where
    freed-after : (report : Report) → Remembered (after r area report).next.0 (freed_by r area report).held area m
        (held_message area m)
    freed-after report =
        let n = length (delivered r area report) in
        let k = length (own r.next.0 report) in
        let z : full (freed_from n r.held r.next.0) (r.next.0 + n) ≡ false =
        rw (delivers-many r area report) (released-free r.held r.next.0 r.top.0 k (hanging r h).placed) in
        freed-remembers r.held r.next.0 n area z m was

    remembers : (report : Report) → Lies r.next.0 report
        → (let now = after r area report in Remembered now.next.0 now.held (holding r area report).area m (held_message area m))
    remembers report (passes _ e k) = rw (k (freed_by r area report)) (freed-after report)
    remembers report (reaches first ms a b) =
        rw (none-held r.next.0 first ms a (freed_by r area (messages first ms))) (freed-after (messages first ms))
    remembers report (ahead first ms a) =
        let e = early r.next.0 first ms a in
        let k : Holding = record { held = r.held; area = area } in
        let keeps = all-keeps r.next.0 k first ms in
        let z : length (delivered r area (messages first ms)) ≡ 0 = ap length (delivers-none r area (messages first ms) h e) in
        rw (holds-early r area (messages first ms) h e, z, add-zero r.next.0, early-held r.next.0 first ms a k)
        (still-held (held-so _ r.next.0 m (record { past = was.past; near = was.near; full = keeps.full m was.full }))
        (keeps.same (sound-fits r.held area s) m was.full))

-- Every number that was held has been delivered afterwards, or is still held, with the same message.
pub never-forgets : (r : Record) (area d : List ℕ) (room : ℕ) (t : Taking) → taking r area d room ≡ taken t → (m : ℕ)
    → is_held r.held r.next.0 m ≡ true → Remembered t.after.next.0 t.after.held t.area m (held_message area m)
never-forgets r area d room t e m h =
    let w = took r area d room t e in
    let was = is-held r.held r.next.0 m h in
    rw w.reported.gives (remembers r area w.hangs w.sound m was w.report (lies r.next.0 w.report))
