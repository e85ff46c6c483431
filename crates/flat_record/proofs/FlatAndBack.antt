-- A record laid flat and taken up again is the same, so that the record in an answer, handed to the next call, is the one that the room's
-- definition speaks of.
-- Assumes nothing.
use Prim.Native.Nat.{ℕ}
use mathlib.Core.Path.{◌≡◌, refl}
use mathlib.Core.Bool.{true, not, ◌||◌}
use mathlib.Core.List.{List, [], ◌∷◌}
use lib.Ieee.{Float}
use Rattle.wire.specs.Checks.{◌is◌, taken, ◌else◌}
use Rattle.wire.specs.declared.refusal.Refusal.TheVariants.{Form, Absent, Broken}
use Rattle.wire.proofs.Checks.{all-passed, taken-same}
use Rattle.wire.proofs.Tests.{and_left}
use Rattle.names.specs.Names.{name_of, name_bytes}
use Rattle.text.specs.Text.{text_then_spaces, blank}
use Rattle.record.specs.Record.{fresh, opening}
use Rattle.record.specs.declared.Record.{Record}
use Rattle.record.specs.declared.Session.TheVariants.{Ufo, Memx}
use Rattle.taking.specs.Taking.{Taking, taking, taken_of}
use Rattle.taking.proofs.Growing.{never-falls}
use Rattle.asking.specs.Asking.{request, asking, asked_of}
use Rattle.asking.proofs.Asks.{requests}
use Rattle.clock.specs.declared.sheet.Sheet.{Sheet}
use Rattle.clock.specs.declared.patience.Patience.{Patience}
use Rattle.flat.specs.Flag.{is_flag}
use Rattle.flat.proofs.Flags.{flag-again, says-again}
use Rattle.flat_record.specs.Keeping.{session_of, record_of, readable, known_record, flat_record, flat_taken}
use Rattle.flat_record.specs.Opening.{open_ufo, open_memx}
use Rattle.flat_record.specs.Asking.{flat_asked}
use Rattle.flat_record.specs.declared.keeping.FlatRecord.{FlatRecord}

-- a record of the session that the given one has, with a style that the header has
pub record-again : (given : FlatRecord) (r : Record)
    → (given.style is 1 || given.style is 2) ≡ true
    → session_of given ≡ r.session
    → known_record (flat_record given r) ≡ taken r
record-again given r h e = rw (h, flag-again r.ended, says-again r.ended, e)

-- what stands in the record that was given
known : (given : FlatRecord) (r : Record) → known_record given ≡ taken r
    → ((given.style is 1 || given.style is 2) ≡ true) × (record_of given ≡ r)
known given r e =
    let p = all-passed ((readable given else Broken) ∷ []) (taken (record_of given)) r e in
    (and_left (given.style is 1 || given.style is 2) (is_flag given.ended) p.0.0, taken-same (record_of given) r p.1)

-- once it is opened
pub opened-ufo-again : (name : List ℕ) (r : Record) → opening (name_of name) ≡ taken r → known_record (open_ufo name).opened ≡ taken r
opened-ufo-again name r e =
    let checks = (text_then_spaces (name_bytes (name_of name)) else Form) ∷ (not (blank (name_bytes (name_of name))) else Absent) ∷ [] in
    let p = all-passed checks (taken (fresh (Ufo (name_of name)))) r e in
    rw (e, ← taken-same (fresh (Ufo (name_of name))) r p.1)

pub opened-memx-again : (session : ℕ) → known_record (open_memx session).opened ≡ taken (fresh (Memx (record { 0 = session })))
opened-memx-again session = refl

-- once a datagram is taken
pub taken-again : (given : FlatRecord) (r : Record) (area d : List ℕ) (room : ℕ) (t : Taking)
    → known_record given ≡ taken r
    → taking r area d room ≡ taken t
    → known_record (flat_taken given (taken (taken_of t))).after ≡ taken t.after
taken-again given r area d room t e f =
    let k = known given r e in
    record-again given t.after k.0 (rw ((never-falls r area d room t f).session, ← k.1))

-- once a request is made
pub asked-again : (given : FlatRecord) (r : Record) (s : Sheet) (p : Patience) (elapsed : Float) (after : Record) (first count : ℕ)
    → known_record given ≡ taken r
    → asking r s p elapsed ≡ taken (request first count after)
    → known_record (flat_asked given (taken (asked_of (request first count after)))).after ≡ taken after
asked-again given r s p elapsed after first count e f =
    let k = known given r e in
    record-again given after k.0 (rw ((requests r s p elapsed first count after f).changes, ← k.1))
