-- How a record stands.
-- Assumes nothing.
use Rattle.std.specs.Prelude.{ℕ, ◌+◌, List, [], ◌∷◌, Bool, ◌&&◌, Option, length, slice_get, if◌then◌else◌}
use Rattle.wire.specs.Checks.{◌is◌, ◌at_most◌, Verdict, taken, ◌else◌, checked}
use Rattle.wire.specs.declared.refusal.Refusal.TheVariants.{Broken}
use Rattle.missing.specs.Missing.{◌at◌}
use Rattle.missing.specs.Missing as ranges
use Rattle.missing.specs.declared.Range.{Range}
use Rattle.record.specs.Record.{hangs}
use Rattle.record.specs.declared.Record.{Record}
use Rattle.record.specs.declared.standing.Standing.{Standing}
use Rattle.record.specs.declared.standing.Standing.TheVariants as stands

-- complete; nothing missing, but no end heard; or these ranges are missing
pub data State : Type 0 where
  complete : State
  ongoing : State
  missing : List Range → State

-- something from N to T is missing: N at least
abbrev pub lacks : Record → Bool
lacks r = r.next.0 at_most r.top.0

-- missing is what of N to T is not held: Complete.missing-means
abbrev pub missing_of : Record → List Range
missing_of r = ranges.missing r.held r.next.0 r.top.0

-- complete means ended and N = T+1
abbrev pub is_complete : Record → Bool
is_complete r = r.ended && r.next.0 is r.top.0 + 1

abbrev pub state : Record → State
state r =
    if lacks r then missing (missing_of r) else
    if is_complete r then complete else
    ongoing

-- Complete.standing-means: what each answer says of N, T and the end
unfoldable pub standing : Record → Verdict State
standing r = checked ((hangs r else Broken) ∷ []) (taken (state r))

abbrev pub standing_of : State → Standing
standing_of complete = stands.Complete
standing_of ongoing = stands.Ongoing
standing_of (missing rs) = stands.Missing (length rs) (rs at 0)

-- the missing range at a place, counted from 0, if there is one
unfoldable pub range_at : Record → ℕ → Verdict (Option Range)
range_at r place = checked ((hangs r else Broken) ∷ []) (taken (slice_get (missing_of r) place))
