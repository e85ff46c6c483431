-- The face says complete exactly where the record that it was given stands as complete.
-- Assumes nothing.
use mathlib.Core.Path.{◌≡◌, refl}
use mathlib.Core.Logic.{◌↔◌}
use Rattle.wire.specs.Checks.{Verdict, refused, taken, ◌into◌, ◌told_by◌}
use Rattle.wire.proofs.Checks.{went}
use Rattle.wire.proofs.Tests.{impossible}
use Rattle.record.specs.Standing.{State, complete, ongoing, missing, standing, standing_of}
use Rattle.record.specs.declared.Record.{Record}
use Rattle.flat_record.specs.Keeping.{known_record, flat_standing, standing_answer}
use Rattle.flat_record.specs.declared.keeping.FlatRecord.{FlatRecord}

says_so : (v : Verdict State) → (flat_standing (v told_by standing_of)).complete ≡ 1 → v ≡ taken complete
says_so (refused n) e = impossible e
says_so (taken complete) e = refl
says_so (taken ongoing) e = impossible e
says_so (taken (missing ranges)) e = impossible e

pub complete-exactly-if : (given : FlatRecord) → ((standing_answer given).complete ≡ 1)
    ↔ ((r : Record) × (known_record given ≡ taken r) × (standing r ≡ taken complete))
complete-exactly-if given = (to, back) where
  to : (standing_answer given).complete ≡ 1 → (r : Record) × (known_record given ≡ taken r) × (standing r ≡ taken complete)
  to e = let w = went (known_record given) standing complete (says_so (known_record given into standing) e) in (w.by, w.was, w.gave)

  back : (r : Record) × (known_record given ≡ taken r) × (standing r ≡ taken complete) → (standing_answer given).complete ≡ 1
  back (r, known, stands) = rw (known, stands)
