-- The record where it lies, once a step was tried on it: the one afterwards if the step was taken, else the one that lay there; Storing
-- reads that off the answer alone.
-- Assumes nothing.
use Rattle.std.specs.Prelude.{ℕ, ◌≡◌, List}
use Rattle.wire.specs.Checks.{Verdict, refused, taken, ◌told_by◌}
use Rattle.taking.specs.Taking.{Taking, Answered}
use Rattle.asking.specs.Asking.{Wish, nothing, wait, request, asked_of}
use Rattle.record.specs.declared.Record.{Record}
use Rattle.taking.specs.declared.Taken.{Taken}
use Rattle.asking.specs.declared.Asked.{Asked}

abbrev pub once_taken : Record → Verdict Taking → Record
once_taken kept (refused n) = kept
once_taken kept (taken t) = t.after

-- only a request changes the record
abbrev pub once_asked : Record → Verdict Wish → Record
once_asked kept (refused n) = kept
once_asked kept (taken nothing) = kept
once_asked kept (taken wait) = kept
once_asked kept (taken (request first count after)) = after

-- the answer r, the area and the bytes left and the record that lies there are those of the verdict
pub record TakenLent (verdict : Verdict Taking) (kept : Record) (area out : List ℕ) (r : Verdict Taken) (area_left left : List ℕ)
    (lies : Record) : Type 0 where
  pub answered : Answered verdict area out r area_left left
  pub stored : lies ≡ once_taken kept verdict

pub record AskedLent (verdict : Verdict Wish) (kept : Record) (r : Verdict Asked) (lies : Record) : Type 0 where
  pub answer : r ≡ verdict told_by asked_of
  pub stored : lies ≡ once_asked kept verdict
