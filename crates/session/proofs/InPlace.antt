-- The entries over a record where it lies leave their caller with the step, as those over a record by value do.
-- Assumes nothing.
use mathlib.Core.Path.{◌≡◌, refl, ◌∙◌}
use seplogic.Ra.Ura.{Ura}
use base.Logic.{SProp}
use base.Stored.{coded_ℕ, coded_list, coded×}
use prog.Memory.{Memory}
use prog.Routine.{Routine}
use types.Logic.{Logic}
use contract.Monad.{Fun}
use Rattle.wire.specs.Checks.{Verdict, refused, taken, ◌told_by◌}
use Rattle.wire.proofs.Outcomes.{by-facts}
use Rattle.record.specs.contracts.Record as kept
use Rattle.record.specs.declared.Record.{Record}
use Rattle.std.specs.Coded.{coded_result}
use Rattle.wire.specs.contracts.refusal.Refusal as refusal-rows
use Rattle.taking.specs.contracts.Taken as taking-rows
use Rattle.taking.specs.Taking.{Taking, taking, taken_of}
use Rattle.asking.specs.contracts.Asked as asking-rows
use Rattle.asking.specs.Asking.{Wish, nothing, wait, request as wanted, asking, asked_of}
use Rattle.in_place.specs.Lent as lent
use Rattle.session.specs.Session.{State}
use Rattle.session.specs.Caller.{once_taken, once_asked}
use Rattle.session.specs.InPlace.{ByContractInPlace}
use Rattle.session.proofs.Invariant.{Inv}
use Rattle.session.proofs.Contracts.{delivery-left, request-left}

-- the record that is stored is the one in the answer
taken-stored : (r : Record) (v : Verdict Taking) → lent.once_taken r v ≡ once_taken r (v told_by taken_of)
taken-stored r (refused n) = refl
taken-stored r (taken t) = refl

asked-stored : (r : Record) (v : Verdict Wish) → lent.once_asked r v ≡ once_asked r (v told_by asked_of)
asked-stored r (refused n) = refl
asked-stored r (taken nothing) = refl
asked-stored r (taken wait) = refl
asked-stored r (taken (wanted first count after)) = refl

module _ {M : Type 1} {𝓤 : Ura M} (𝓛 : Logic 𝓤) (mem : Memory → SProp 𝓤) (run : Routine → Fun 𝓤) where
  pub by-contract : (s : State) → Inv s → ByContractInPlace 𝓛 mem run s
  by-contract s i = record {
    take_lent = λ datagram room m κs a g x w p h f.
        let c = coded× (kept.the_row).coded (coded× (coded_list coded_ℕ) (coded_list coded_ℕ)) in
        let q = by-facts 𝓤 p p (coded_result (taking-rows.the_row).coded (refusal-rows.the_row).coded) c
        (λ t _. (t.answered.answer, λ j. (t.stored j, (t.answered.slots j, t.answered.bytes j)))) f f in
        let k = rw (h.0, h.1, h.2, h.3) at q in
        delivery-left s i datagram (i.line datagram m) room _ x _ _ _
        (record { answer = k.0; bytes = λ j. (k.1 j).1.1; slots = λ j. (k.1 j).1.0 })
        ((λ j. (k.1 j).0) ∙ taken-stored s.kept (taking s.kept s.area datagram room));
    ask_lent = λ sheet rule elapsed room κs a g x w p h f.
        let q = by-facts 𝓤 p p (coded_result (asking-rows.the_row).coded (refusal-rows.the_row).coded) (kept.the_row).coded
        (λ t _. (t.answer, t.stored)) f f in
        let k = rw (h.0, h.1, h.2, h.3) at q in
        let v = asking s.kept sheet rule elapsed in
        rw k.0 (request-left s room v _ (k.1 ∙ asked-stored s.kept v));
  }
