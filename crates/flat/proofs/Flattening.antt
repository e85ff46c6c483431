-- What a room's writer settles, told of the flat answer.
-- Assumes nothing.
use Prim.Native.Nat.{ℕ}
use mathlib.Core.Path.{◌≡◌, ap, ◌∙◌}
use mathlib.Core.List.{List}
use Rattle.wire.specs.Checks.{Verdict}
use Rattle.wire.specs.Reply.{Reply, Settled}
use Rattle.flat.specs.Wrote.{wrote_of, FlatSettled}
use Rattle.flat.specs.declared.wrote.Wrote.{Wrote}

pub flattens : {reply : Reply} {out left : List ℕ} {w : Verdict ℕ} {r : Wrote} → Settled reply out w left → r ≡ wrote_of w
    → FlatSettled reply out r left
flattens s e = record { answer = e ∙ ap wrote_of s.answer; bytes = s.bytes }
