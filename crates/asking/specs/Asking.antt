-- What to ask now.
-- Assumes nothing.
use Rattle.std.specs.Prelude.{ℕ, ◌+◌, ◌-◌, min, [], ◌∷◌, Bool, not, ◌||◌, Float, if◌then◌else◌}
use Rattle.wire.specs.Checks.{◌is◌, Verdict, taken, ◌else◌, checked, ◌into◌}
use Rattle.wire.specs.declared.refusal.Refusal.TheVariants.{Broken}
use Rattle.clock.specs.Patience.{wait_over}
use Rattle.clock.specs.declared.sheet.Sheet.{Sheet}
use Rattle.clock.specs.declared.patience.Patience.{Patience}
use Rattle.missing.specs.Missing.{◌at◌}
use Rattle.record.specs.Record.{hangs}
use Rattle.record.specs.Standing.{lacks, missing_of}
use Rattle.record.specs.declared.Record.{Record}
use Rattle.asking.specs.declared.Asked.{Asked}
use Rattle.asking.specs.declared.Asked.TheVariants as asks

pub data Wish : Type 0 where
  nothing : Wish
  wait : Wish
  request : (first count : ℕ) (after : Record) → Wish

-- A becomes N
abbrev pub asked_now : Record → Record
asked_now r =
    record { session = r.session; next = r.next; top = r.top; ended = r.ended; asked = r.next; held = r.held }

-- a request names exactly the first missing range, its count capped at 65,535: Asks.requests
unfoldable pub request_of : Record → Wish
request_of r =
    let range = missing_of r at 0 in
    request range.first.0 (min (range.last.0 - range.first.0 + 1) 65535) (asked_now r)

-- late: the rule has a wait, and elapsed is at least that wait; Asks.asks_nothing, asks-now and asks-later are the three ways
unfoldable pub wish : Record → Bool → Wish
wish r late =
    if not (lacks r) then nothing else
    if not (r.asked.0 is r.next.0) || late then request_of r else
    wait

unfoldable pub asking : Record → Sheet → Patience → Float → Verdict Wish
asking r s p elapsed =
    checked ((hangs r else Broken) ∷ []) (wait_over s p elapsed into λ late. taken (wish r late))

-- as the code tells it
abbrev pub asked_of : Wish → Asked
asked_of nothing = asks.Nothing
asked_of wait = asks.Wait
asked_of (request first count after) = asks.Request (record { 0 = first }) count after
