-- The same of the entries over a record where it lies. Over a reference to a struct a contract has no generated reading: its clauses
-- themselves are taken, as they are generated from the source, at any model of the program logic.
-- Assumes nothing.
use Rattle.std.specs.Prelude.{ℕ, ◌≡◌, List, Float, length}
use seplogic.Ra.Ura.{Ura}
use base.Logic.{SProp}
use prog.Memory.{Memory}
use prog.Routine.{Routine}
use types.Logic.{Logic}
use contract.Lifetimes.{Lfts}
use contract.Monad.{Fun}
use denote.Triple.Clauses.{AtExit, Clauses, Ended, Lasts, at_exit}
use denote.Triple.Entry.{Args, Res}
use Rattle.clock.specs.declared.sheet.Sheet.{Sheet}
use Rattle.clock.specs.declared.patience.Patience.{Patience}
use Rattle.in_place.specs.contracts.take_lent as take-lent
use Rattle.in_place.specs.contracts.ask_lent as ask-lent
use Rattle.session.specs.Session.{State, takes, asks, Allowed, saying, step}
use Rattle.session.specs.Caller.{with_taken, LeavesAsked}

-- Given such arguments a, whatever answer x the clauses ensure, with whatever last values of all that was lent, be it in any state
-- of the model, is what is to be left.
abbrev pub LeavesLent : {M : Type 1} (𝓤 : Ura M) (T : Ended)
    → Clauses 𝓤 T
    → ((κs : Lfts T.signature.lifetimes) → Args T.signature κs → Type 0)
    → ((κs : Lfts T.signature.lifetimes) → Res T.signature κs → AtExit T κs → Type 0)
    → Type 1
LeavesLent {M} 𝓤 T says given left =
    (κs : Lfts T.signature.lifetimes) (a : Args T.signature κs) (g : (says κs a).ghost) (x : Res T.signature κs) (w : Lasts T κs a)
    (p : M)
    → given κs a
    → ((says κs a).ensures g x (at_exit T κs a w)).holds p
    → left κs x (at_exit T κs a w)

module _ {M : Type 1} {𝓤 : Ura M} (𝓛 : Logic 𝓤) (mem : Memory → SProp 𝓤) (run : Routine → Fun 𝓤) where
  -- The record that lies there in the end is the step's. How it stands is told by `standing_of` and `missing_range`, which take a record by
  -- value: that is `ByContract`'s `standing`, of a record that lies somewhere as of any other.
  pub record ByContractInPlace (s : State) : Type 1 where
    pub take_lent : (datagram : List ℕ) (room : ℕ) → Allowed s (takes datagram room)
        → LeavesLent 𝓤 take-lent.ended (take-lent.clauses 𝓛 mem run)
        (λ _ (kept, (area, (packet, (out, _)))).
        (kept.now ≡ s.kept) × (area.now ≡ s.area) × (packet.now ≡ datagram) × (length out.now ≡ room))
        (λ _ x (kept, (area, (_, (out, _)))). with_taken s x area.now out.now kept.now ≡ step s (takes datagram room))
    pub ask_lent : (sheet : Sheet) (rule : Patience) (elapsed : Float) (room : ℕ)
        → LeavesLent 𝓤 ask-lent.ended (ask-lent.clauses 𝓛 mem run)
        (λ _ (kept, (sheet', (rule', (elapsed', _)))). (kept.now ≡ s.kept) × (sheet' ≡ sheet) × (rule' ≡ rule) × (elapsed' ≡ elapsed))
        (λ _ x (kept, _). LeavesAsked room x (λ said. saying s kept.now said ≡ step s (asks sheet rule elapsed room)))
