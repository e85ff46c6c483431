-- What every writer answers, and what it leaves in the lent output.
-- Assumes nothing.
use Rattle.std.specs.Prelude.{ℕ, ◌≡◌, List, Result}
use Rattle.wire.specs.Checks.{Verdict, refused, taken}
use Rattle.wire.specs.Refusals.{number_of}
use Rattle.wire.specs.Reply.{Reply, answer_of, left_of}
use Rattle.flat.specs.declared.wrote.Wrote.{Wrote}

-- the refusal's number, whatever tells it, or 0 and how many bytes were written
abbrev pub wrote_by : {W : Type 0} → (W → ℕ) → Result ℕ W → Wrote
wrote_by told (refused why) = record { refusal = told why; bytes = 0 }
wrote_by told (taken n) = record { refusal = 0; bytes = n }

-- by one of the desk's reasons
abbrev pub wrote_of : Verdict ℕ → Wrote
wrote_of written = wrote_by number_of written

-- the answer r and the bytes left are those of the reply
pub record FlatSettled (reply : Reply) (out : List ℕ) (r : Wrote) (left : List ℕ) : Type 0 where
  pub answer : r ≡ wrote_of (answer_of reply)
  pub bytes : left ≡ left_of reply out
