-- Told by a bare number, a refusal may have any, and keeps it; over the limit it has 2.
-- Assumes nothing.
use Rattle.std.specs.Prelude.{if◌then◌else◌}
use Prim.Native.Nat.{ℕ, ◌+◌}
use mathlib.Core.Path.{◌≡◌, refl, ◌∙◌}
use mathlib.Core.Bool.{Bool, true, false}
use mir.Syntax.{Dict}
use denote.Builtin.{u8}
use denote.Param.Laws.{Laws, IsCopy}
use lib.Dec.{leb}
use lib.ListN.{length}
use Rattle.std.specs.declared.clone.Clone as Clone
use Rattle.wire.specs.Checks.{◌at_most◌, refused, ◌told_by◌}
use Rattle.wire.specs.contracts.told.U8Tells.TheImpl.{ghosts}
use Rattle.wire.proofs.Outcomes.{Gives}
use Rattle.flat_packet.specs.Packets.{nothing}
use Rattle.flat_packet.proofs.no_packet.Kinds as no-packet
use Rattle.flat_packet.proofs.no_packet.Reads as no-packet-reads
use Rattle.flat_packet.proofs.fitting.unfit.Kinds as unfit
use Rattle.flat_packet.proofs.fitting.unfit.Reads as unfit-reads

-- no bytes were written
none : (b : Bool) (m n : ℕ) → ((if b then refused m else refused n) told_by length {A = ℕ}) ≡ (if b then refused m else refused n)
none true m n = refl
none false m n = refl

module _ (laws : Laws u8) (copy : IsCopy u8) (clone : Clone.Ghosts u8.Denot) (d e : Dict) where
  pub no-packet-by-number : Gives 1 (no-packet.ps u8 laws copy) (no-packet.r u8 laws copy)
      (λ κs a. record { refusal = a.0; packet = nothing })
      (no-packet-reads.Post u8 laws copy ghosts d clone e)
  no-packet-by-number κs a x s is = is

  pub unfit-by-number : Gives 2 (unfit.ps u8 laws copy) (unfit.r u8 laws copy)
      (λ κs a. if (a.1.0 + length a.1.1.0.now) at_most a.0 then refused a.1.1.1.0 else refused 2)
      (unfit-reads.Post u8 laws copy ghosts d clone e)
  unfit-by-number κs a x s is = is ∙ none (leb (a.1.0 + length a.1.1.0.now) a.0) a.1.1.1.0 2
