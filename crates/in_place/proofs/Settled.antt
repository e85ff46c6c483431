-- The outcomes of the room's entries are determined: the answer, every lent byte, and the record where it lies.
-- Assumes nothing.
use seplogic.Ra.Ura.{Ura}
use base.Logic.{SProp}
use base.Stored.{coded_unit, coded_ℕ, coded_list, coded×}
use prog.Memory.{Memory}
use prog.Routine.{Routine}
use types.Logic.{Logic}
use contract.Monad.{Fun}
use Rattle.std.specs.Coded.{coded_result}
use Rattle.wire.proofs.Outcomes.{Determines, same-both, by-facts}
use Rattle.wire.specs.contracts.refusal.Refusal as refusal
use Rattle.record.specs.contracts.Record as kept
use Rattle.taking.specs.contracts.Taken as taken
use Rattle.asking.specs.contracts.Asked as asked
use Rattle.in_place.specs.contracts.take_lent as take-lent
use Rattle.in_place.specs.contracts.ask_lent as ask-lent

module _ {M : Type 1} {𝓤 : Ura M} (𝓛 : Logic 𝓤) (mem : Memory → SProp 𝓤) (run : Routine → Fun 𝓤) where
  take-lent-is : Determines 𝓤 take-lent.ended (take-lent.clauses 𝓛 mem run)
  take-lent-is κs a g x y s t p q =
      by-facts 𝓤 p q (coded_result (taken.the_row).coded (refusal.the_row).coded)
      (coded× (kept.the_row).coded (coded× (coded_list coded_ℕ) (coded× coded_unit (coded× (coded_list coded_ℕ) coded_unit))))
      (λ h k. same-both h.answered.answer k.answered.answer
      (λ i. (h.stored i, (h.answered.slots i, (tt, (h.answered.bytes i, tt)))))
      (λ i. (k.stored i, (k.answered.slots i, (tt, (k.answered.bytes i, tt))))))

  ask-lent-is : Determines 𝓤 ask-lent.ended (ask-lent.clauses 𝓛 mem run)
  ask-lent-is κs a g x y s t p q =
      by-facts 𝓤 p q (coded_result (asked.the_row).coded (refusal.the_row).coded)
      (coded× (kept.the_row).coded (coded× coded_unit (coded× coded_unit (coded× coded_unit coded_unit))))
      (λ h k. same-both h.answer k.answer (λ i. (h.stored i, (tt, (tt, (tt, tt))))) (λ i. (k.stored i, (tt, (tt, (tt, tt))))))
