-- Two flat answers that one reply settles are equal. The words for it are handed on to the face, which stands on the flat rooms alone.
-- Assumes nothing.
use Prim.Native.Nat.{ℕ}
use mathlib.Core.Path.{◌≡◌}
use mathlib.Core.List.{List}
pub use Rattle.wire.proofs.Outcomes.{Answered, Determined, same_answer}
use Rattle.wire.proofs.Outcomes.{same-both}
use Rattle.wire.specs.Reply.{Reply}
use Rattle.flat.specs.Wrote.{FlatSettled}
use Rattle.flat.specs.declared.wrote.Wrote.{Wrote}

pub same-flat-reply : {reply : Reply} {out l m : List ℕ} {x y : Wrote}
    → FlatSettled reply out x l → FlatSettled reply out y m → (x ≡ y) × (l ≡ m)
same-flat-reply p q = same-both p.answer q.answer p.bytes q.bytes
