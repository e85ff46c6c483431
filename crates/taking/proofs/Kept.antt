-- A record hangs together once it is opened, and goes on hanging together after any datagram; so does its area. After any request: asking.
-- Assumes nothing.
use Prim.Native.Nat.{ℕ, ◌+◌, ◌-◌, ◌≤◌, max}
use mathlib.Core.List.{List, [], ◌∷◌}
use mathlib.Core.Path.{◌≡◌, refl, ap}
use mathlib.Core.Bool.{true, not}
use native.Mathlib.Nat.{max-le}
use native.Mathlib.Omega.{arith}
use lib.ListN.{length, length-drop}
use Rattle.wire.specs.Checks.{taken, ◌else◌}
use Rattle.wire.specs.Fields.{Bytes}
use Rattle.names.specs.Names.{name_bytes}
use Rattle.text.specs.Text.{blank, text_then_spaces}
use Rattle.wire.specs.declared.kinds.Name.{Name}
use Rattle.wire.specs.declared.kinds.SessionId.{SessionId}
use Rattle.wire.specs.declared.refusal.Refusal.TheVariants.{Form, Absent}
use Rattle.wire.proofs.Checks.{all-passed}
use Rattle.held.specs.Slots.{freed_from}
use Rattle.held.specs.Hanging.{in_place, sound}
use Rattle.held.specs.Holding.{Holding}
use Rattle.held.proofs.Hangs.{in-place-higher, none-in-place, freed-sound}
use Rattle.held.proofs.Holds.{all-in-place, all_sound}
use Rattle.held.proofs.Releases.{released-in-place, released-near}
use Rattle.record.specs.Record.{fresh, opening, lawful, highest, hangs}
use Rattle.reports.specs.Reports.{Report, messages, top_of}
use Rattle.taking.specs.Taking.{own, delivered, freed_by, holding, after, Taking, taking}
use Rattle.record.specs.declared.Session.{Session}
use Rattle.record.specs.declared.Session.TheVariants.{Ufo, Memx}
use Rattle.record.specs.declared.Record.{Record}
use Rattle.record.proofs.Hanging.{Hanging, hanging, hangs-so}
use Rattle.reports.proofs.Reports as reports
use Rattle.taking.proofs.EarlyOrLate.{Lies, reaches, ahead, passes, lies, among, early, early-held, none-held, delivers-many}
use Rattle.taking.proofs.EarlyOrLate.{delivers-none, holds-early}
use Rattle.taking.proofs.Took.{took}

-- A fresh record of a lawful session hangs together.
pub fresh-hangs : (s : Session) → lawful s ≡ true → hangs (fresh s) ≡ true
fresh-hangs s l =
    hangs-so (fresh s) (record {
      begun = omega arith;
      near = omega arith;
      old = omega arith;
      bound = omega arith;
      named = l;
      placed = none-in-place 1 0;
    })

-- Whatever is opened hangs together.
pub opened-hangs : (name : Name) (r : Record) → opening name ≡ taken r → hangs r ≡ true
opened-hangs name r e =
    let checks = (text_then_spaces (name_bytes name) else Form) ∷ (not (blank (name_bytes name)) else Absent) ∷ [] in
    let p = all-passed checks (taken (fresh (Ufo name))) r e in
    let same : fresh (Ufo name) ≡ r = cc p.1 in
    rw (← same) (fresh-hangs (Ufo name) (rw (p.0.0, p.0.1.0)))

pub opened-memx-hangs : (id : SessionId) → hangs (fresh (Memx id)) ≡ true
opened-memx-hangs id = fresh-hangs (Memx id) refl

module _ (r : Record) (area : List ℕ) (h : hangs r ≡ true) where
  -- the packet's own messages do not lie above its top
  own-near : (report : Report) → Lies r.next.0 report
      → r.next.0 + length (own r.next.0 report) ≤ max r.top.0 (top_of report) + 1
  own-near report (passes _ e _) =
      let n : length (own r.next.0 report) ≡ 0 = ap length e in
      let k = (hanging r h).near in
      omega arith
  own-near report (ahead first ms a) =
      let n : length (own r.next.0 (messages first ms)) ≡ 0 = ap length (early r.next.0 first ms a) in
      let k = (hanging r h).near in
      omega arith
  own-near report (reaches first ms a b) =
      let n : length (own r.next.0 (messages first ms)) ≡ length ms - (r.next.0 - first) =
      rw (among r.next.0 first ms a b) (length-drop (r.next.0 - first) ms) in
      omega arith

  module _ (report : Report) where
    higher : in_place r.held r.next.0 (max r.top.0 (top_of report)) ≡ true
    higher =
        in-place-higher r.held r.next.0 r.top.0 (max r.top.0 (top_of report)) (omega arith) (hanging r h).placed

    pub near-after : (after r area report).next.0 ≤ (after r area report).top.0 + 1
    near-after =
        let k = length (own r.next.0 report) in
        rw (delivers-many r area report)
        (released-near r.held r.next.0 (max r.top.0 (top_of report)) k higher (own-near report (lies r.next.0 report)))

    freed-after : let n = length (delivered r area report) in
        in_place (freed_from n r.held r.next.0) (r.next.0 + n) (max r.top.0 (top_of report)) ≡ true
    freed-after =
        rw (delivers-many r area report)
        (released-in-place r.held r.next.0 (max r.top.0 (top_of report)) (length (own r.next.0 report)) higher)

  pub placed-after : (report : Report) → Lies r.next.0 report
      → (let now = after r area report in in_place now.held now.next.0 now.top.0 ≡ true)
  placed-after report (passes _ e k) = rw (k (freed_by r area report)) (freed-after report)
  placed-after report (reaches first ms a b) =
      rw (none-held r.next.0 first ms a (freed_by r area (messages first ms))) (freed-after (messages first ms))
  placed-after report (ahead first ms a) =
      let e = early r.next.0 first ms a in
      let z : length (delivered r area (messages first ms)) ≡ 0 = ap length (delivers-none r area (messages first ms) h e) in
      let n : r.next.0 + 0 ≡ r.next.0 = omega arith in
      let k : Holding = record { held = r.held; area = area } in
      rw (holds-early r area (messages first ms) h e, z, n, early-held r.next.0 first ms a k)
      (all-in-place r.next.0 k first ms (max r.top.0 (first + length ms - 1)) (higher (messages first ms)) (omega arith))

  sound-after : (report : Report) → Lies r.next.0 report → sound r.held area ≡ true
      → sound (holding r area report).held (holding r area report).area ≡ true
  sound-after report (passes _ e k) s =
      rw (k (freed_by r area report)) (freed-sound r.held area (length (delivered r area report)) r.next.0 s)
  sound-after report (reaches first ms a b) s =
      rw (none-held r.next.0 first ms a (freed_by r area (messages first ms)))
      (freed-sound r.held area (length (delivered r area (messages first ms))) r.next.0 s)
  sound-after report (ahead first ms a) s =
      let k : Holding = record { held = r.held; area = area } in
      rw (holds-early r area (messages first ms) h (early r.next.0 first ms a), early-held r.next.0 first ms a k)
      (all_sound r.next.0 k first ms s)

  pub kept-hanging : (report : Report) → top_of report ≤ highest r.session → Hanging (after r area report)
  kept-hanging report l =
      let p = hanging r h in
      record {
        begun = let b = p.begun in omega arith;
        near = near-after report;
        old = let o = p.old in omega arith;
        bound = max-le p.bound l;
        named = p.named;
        placed = placed-after report (lies r.next.0 report);
      }

  pub kept-sound : (report : Report) → sound r.held area ≡ true → sound (after r area report).held (holding r area report).area ≡ true
  kept-sound report s = sound-after report (lies r.next.0 report) s

-- A record that hangs together hangs together after any datagram that is taken,
pub taking-hangs : (r : Record) (area d : List ℕ) (room : ℕ) (t : Taking) → Bytes d → taking r area d room ≡ taken t
    → hangs t.after ≡ true
taking-hangs r area d room t b e =
    let w = took r area d room t e in
    rw w.reported.gives (hangs-so (after r area w.report)
    (kept-hanging r area w.hangs w.report (reports.sound d b r.session w.report w.reports).bound))

-- and its area with it, as it is left.
pub taking-sound : (r : Record) (area d : List ℕ) (room : ℕ) (t : Taking) → taking r area d room ≡ taken t
    → sound t.after.held t.area ≡ true
taking-sound r area d room t e =
    let w = took r area d room t e in
    rw w.reported.gives (kept-sound r area w.hangs w.report w.sound)
