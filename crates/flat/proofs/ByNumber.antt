-- Told by a bare number, a refusal may have any, and keeps it.
-- Assumes nothing.
use Prim.Native.Nat.{ℕ}
use mathlib.Core.Path.{◌≡◌, refl, ◌∙◌}
use mir.Syntax.{Dict}
use denote.Builtin.{u8}
use denote.Param.Laws.{Laws, IsCopy}
use Rattle.std.specs.Prelude.{Result}
use Rattle.std.specs.declared.clone.Clone as Clone
use Rattle.wire.specs.Checks.{refused, taken}
use Rattle.wire.specs.contracts.told.U8Tells.TheImpl.{ghosts}
use Rattle.wire.proofs.Outcomes.{Gives}
use Rattle.flat.specs.Wrote.{wrote_by}
use Rattle.flat.specs.declared.wrote.Wrote.{Wrote}
use Rattle.flat.proofs.wrote.wrote_of.Kinds as Wrote-of
use Rattle.flat.proofs.wrote.wrote_of.Reads as wrote-of-reads

abbrev numbered : Result ℕ ℕ → Wrote
numbered (refused n) = record { refusal = n; bytes = 0 }
numbered (taken n) = record { refusal = 0; bytes = n }

same : (written : Result ℕ ℕ) → wrote_by (λ n. n) written ≡ numbered written
same (refused n) = refl
same (taken n) = refl

module _ (laws : Laws u8) (copy : IsCopy u8) (clone : Clone.Ghosts u8.Denot) (d e : Dict) where
  pub wrote-by-number : Gives 1 (Wrote-of.ps u8 laws copy) (Wrote-of.r u8 laws copy) (λ κs a. numbered a.0)
      (wrote-of-reads.Post u8 laws copy ghosts d clone e)
  wrote-by-number κs a x s is = is ∙ same a.0
