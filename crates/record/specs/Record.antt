-- The session record: how it is opened, and when it hangs together.
-- Assumes nothing.
use Rattle.std.specs.Prelude.{ℕ, ◌+◌, ◌-◌, ◌^◌, [], ◌∷◌, Bool, true, false, not, ◌&&◌}
use Rattle.wire.specs.Checks.{◌at_most◌, Verdict, taken, ◌else◌, checked}
use Rattle.names.specs.Names.{name_bytes}
use Rattle.text.specs.Text.{blank, text_then_spaces}
use Rattle.wire.specs.declared.kinds.Name.{Name}
use Rattle.wire.specs.declared.refusal.Refusal.TheVariants.{Form, Absent}
use Rattle.held.specs.Hanging.{in_place}
use Rattle.record.specs.declared.Session.{Session}
use Rattle.record.specs.declared.Session.TheVariants.{Ufo, Memx}
use Rattle.record.specs.declared.Record.{Record}

-- nothing delivered, nothing heard, nothing asked, nothing held
abbrev pub fresh : Session → Record
fresh session = record {
  session = session;
  next = record { 0 = 1 };
  top = record { 0 = 0 };
  ended = false;
  asked = record { 0 = 0 };
  held = 0;
}

-- a UFO session is a text field as in `A`: reports' Opening.opens-as-in-A
abbrev pub opening : Name → Verdict Record
opening name =
    checked ((text_then_spaces (name_bytes name) else Form) ∷ (not (blank (name_bytes name)) else Absent) ∷ [])
    (taken (fresh (Ufo name)))

-- any number is a MEMX session
abbrev pub lawful : Session → Bool
lawful (Ufo name) = text_then_spaces (name_bytes name) && not (blank (name_bytes name))
lawful (Memx id) = true

-- the highest number that a message of the style can have
abbrev pub highest : Session → ℕ
highest (Ufo name) = 2 ^ 32 - 2
highest (Memx id) = 2 ^ 64 - 2

-- all but what is held
abbrev pub well_kept : Record → Bool
well_kept r =
    1 at_most r.next.0
    && r.next.0 at_most r.top.0 + 1
    && r.asked.0 at_most r.next.0
    && r.top.0 at_most highest r.session
    && lawful r.session

-- and what is held stands for numbers behind N; Hanging.hanging and hangs-so say it as facts
unfoldable pub hangs : Record → Bool
hangs r = well_kept r && in_place r.held r.next.0 r.top.0
