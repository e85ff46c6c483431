-- A packet that is read has no more messages than bytes, so that two bytes hold their count.
-- Assumes nothing.
use Prim.Native.Nat.{ℕ, ◌≤◌}
use mathlib.Core.List.{List, [], ◌∷◌, map}
use mathlib.Core.Path.{◌≡◌}
use native.Mathlib.Omega.{arith}
use lib.ListN.{length}
use Rattle.wire.specs.Fields.{Bytes}
use Rattle.wire.specs.Checks.{taken, ◌told_by◌}
use Rattle.wire.proofs.Checks.{told}
use Rattle.blocks.proofs.Frames.{length-frames}
use Rattle.ufo_up.specs.Up.{Message, write_message, write_up, read_up}
use Rattle.ufo_up.proofs.Exact.{read-is-written}

many : (ms : List Message) → length ms ≤ length (write_up ms)
many [] = omega arith
many (m ∷ ms) = omega (arith, many ms, length-frames (write_message m) (map write_message ms))

pub few : (d : List ℕ) → Bytes d → (n : ℕ) → read_up d told_by length ≡ taken n → n ≤ 1472
few d b n e =
    let t = told (read_up d) length n e in
    omega (arith, t.gave, many t.by, (read-is-written d b t.by t.was).0.short)
