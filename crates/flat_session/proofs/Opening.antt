-- What hp_open_ufo answers is what opening a record comes to, and a program that begins with the record holds a state.
-- Assumes nothing.
use Prim.Native.Nat.{ℕ, ◌≤◌}
use mathlib.Core.Path.{◌≡◌, refl}
use mathlib.Core.List.{List}
use lib.ListN.{length}
use Rattle.wire.specs.Fields.{Bytes}
use Rattle.wire.specs.Checks.{Verdict, refused, taken}
use Rattle.names.specs.Names.{name_of}
use Rattle.held.specs.Slots.{area_size}
use Rattle.record.specs.Record.{opening}
use Rattle.record.specs.declared.Record.{Record}
use Rattle.session.specs.Session.{State, begin as starts, stop, Reached}
use Rattle.flat_record.proofs.FlatAndBack.{opened-ufo-again}
use Rattle.flat_session.specs.Header.{hp-open-ufo}
use Rattle.flat_session.specs.Face.{Held, Holds, begin, LeavesOpened, Opens}
use Rattle.flat_session.proofs.NeverNought.{never-nought}

pub opens : (name : List ℕ) → hp-open-ufo name (λ x. Opens x (opening (name_of name)))
opens name κs a x e g p = by (opening (name_of name)) refl where
  by : (v : Verdict Record) → opening (name_of name) ≡ v → Opens x v
  by (refused n) q = rw (p, g, q)
  by (taken kept) q = (rw (p, g, q), rw (p, g) (opened-ufo-again name kept q))

pub opened-left : (name lent area : List ℕ) → Bytes lent → area_size ≤ length area → (left : Held → Type 0)
    → ((h : Held) (s : State) → Reached s → Holds h s → left h) → LeavesOpened name lent area left
opened-left name lent area b l left k κs a x e g p z = by (opening (name_of name)) refl (opens name κs a x e g p) where
  by : (v : Verdict Record) → opening (name_of name) ≡ v → Opens x v → left (begin lent area x.opened)
  by (refused why) q o = never-nought why (rw o at z)
  by (taken kept) q o =
      k _ (starts lent area kept) (record {
        lent = lent;
        bytes = b;
        area = area;
        slots = l;
        session = name_of name;
        kept = kept;
        opened = q;
        run = stop;
      })
      (record {
        log = refl;
        lent = refl;
        kept = o.1;
        area = refl;
        deliveries = refl;
        down = refl;
        up = refl;
      })
