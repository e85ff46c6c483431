-- A packet and a body that don't go together.
-- Assumes nothing.
use Rattle.std.specs.Prelude.{ℕ, ◌+◌, List, Result, length, if◌then◌else◌}
use Rattle.wire.specs.Checks.{◌is◌, ◌at_most◌, refused}
use Rattle.wire.specs.Reply.{Reply}
use Rattle.wire.specs.declared.refusal.Refusal.{Refusal}
use Rattle.wire.specs.declared.refusal.Refusal.TheVariants.{Overlong, Framing}

-- a packet of `size` bytes that can't be, whatever tells a refusal: it is over the limit, or refused for another reason
abbrev pub unfit_by : {W : Type 0} → (overlong : W) → (limit size : ℕ) → W → Result (List ℕ) W
unfit_by overlong limit size why = if size at_most limit then refused why else refused overlong

-- by one of the desk's reasons
abbrev pub unfit : (limit size : ℕ) → Refusal → Reply
unfit limit size why = unfit_by Overlong limit size why

-- a type that has no body, of `size` bytes without one: a body makes the packet too long; `Refusing` shows that a reader refuses it so
abbrev pub alone : (limit size : ℕ) → List ℕ → Reply → Reply
alone limit size body reply = if length body is 0 then reply else unfit limit (size + length body) Framing
