-- The outcomes of the room's functions are determined.
-- Assumes nothing.
use mathlib.Core.Path.{refl}
use seplogic.Ra.Ura.{Ura}
use base.Logic.{SProp}
use base.Stored.{coded_unit, coded×}
use prog.Memory.{Memory}
use prog.Routine.{Routine}
use types.Logic.{Logic}
use contract.Monad.{Fun}
use denote.Signature.{named_lft}
use Rattle.std.specs.Coded.{coded_result}
use Rattle.wire.proofs.Outcomes.{Answered, Determines, same_answer, same-both, by-facts}
use Rattle.wire.specs.contracts.refusal.Refusal as refusal
use Rattle.blocks.specs.contracts.Block as block
use Rattle.walker.specs.contracts.Walker as walker
use Rattle.walker.proofs.block_at.Kinds as block_at
use Rattle.walker.proofs.block_at.Reads as block-at-reads
use Rattle.walker.specs.contracts.new as new
use Rattle.walker.specs.contracts.step as step
use Rattle.walker.specs.contracts.pull as pull

block-at-is : Answered 1 block_at.ps block_at.r block-at-reads.Post
block-at-is κs a x y s t = same_answer

-- with a walker
module _ {M : Type 1} {𝓤 : Ura M} (𝓛 : Logic 𝓤) (mem : Memory → SProp 𝓤) (run : Routine → Fun 𝓤) where
  new_is : Determines 𝓤 new.ended (new.clauses 𝓛 mem run)
  new_is κs a g x y s t p q =
      by-facts 𝓤 p q (walker.the_row (named_lft 1 0 tt κs)).coded (coded× coded_unit (coded× coded_unit coded_unit))
      (λ h k. same-both (λ i. record { datagram = h.0 i; place = h.1 i }) (λ i. record { datagram = k.0 i; place = k.1 i }) refl refl)

  step_is : Determines 𝓤 step.ended (step.clauses 𝓛 mem run)
  step_is κs a g x y s t p q = by-facts 𝓤 p q (coded_result (block.the_row).coded (refusal.the_row).coded) (coded× coded_unit coded_unit)
      (λ h k. same-both h k refl refl)

  pull-is : Determines 𝓤 pull.ended (pull.clauses 𝓛 mem run)
  pull-is κs a g x y s t p q =
      by-facts 𝓤 p q (coded_result (block.the_row).coded (refusal.the_row).coded)
      (coded× (walker.the_row (named_lft 2 1 tt κs)).coded coded_unit)
      (λ h k. same-both h.0 k.0 (λ i. (h.1 i, tt)) (λ i. (k.1 i, tt)))
