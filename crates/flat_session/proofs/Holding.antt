-- What a program holds says the same as the state that it holds, field by field.
-- Assumes nothing.
use Prim.Native.Nat.{ℕ}
use mathlib.Core.Path.{◌≡◌, ap, ◌∙◌}
use mathlib.Core.List.{[], ◌∷◌}
use mathlib.Core.Bool.{true}
use borrow.Author.Tests.{eqb-true}
use Rattle.wire.specs.Checks.{taken, ◌else◌}
use Rattle.wire.specs.declared.refusal.Refusal.TheVariants.{Broken}
use Rattle.wire.proofs.Checks.{all-passed, taken-same}
use Rattle.lent_log.specs.Log.{messages_in}
use Rattle.lent_log.specs.declared.Log.{Log}
use Rattle.record.specs.declared.Record.{Record}
use Rattle.session.specs.Session.{State, logged}
use Rattle.session.specs.Promise as session
use Rattle.flat.specs.Flag.{is_flag}
use Rattle.flat_log.specs.Lending.{log_of}
use Rattle.flat_record.specs.Keeping.{record_of, readable}
use Rattle.flat_session.specs.Face.{Held, Holds}
use Rattle.flat_session.specs.Promise.{messages, holds, Faithful, Delivered}

module _ (h : Held) (s : State) (i : Holds h s) where
  log_is : log_of h.log ≡ s.log
  log_is = taken-same _ _ (all-passed ((is_flag h.log.ended else Broken) ∷ []) (taken (log_of h.log)) s.log i.log).1

  record_is : record_of h.kept ≡ s.kept
  record_is = taken-same _ _ (all-passed ((readable h.kept else Broken) ∷ []) (taken (record_of h.kept)) s.kept i.kept).1

  pub next-is : h.kept.next ≡ s.kept.next.0
  next-is = ap (λ (r : Record). r.next.0) record_is

  pub ended_so : s.log.ended ≡ true → h.log.ended ≡ 1
  ended_so e = eqb-true h.log.ended 1 (ap (λ (l : Log). l.ended) log_is ∙ e)

  pub messages-are : messages h ≡ logged s
  messages-are = ap (λ (l : Log). messages_in l h.lent) log_is ∙ ap (messages_in s.log) i.lent

  pub holds_same : (n : ℕ) → holds h n ≡ session.holds s n
  holds_same n = rw (next-is, ap (λ (r : Record). r.held) record_is)

  pub faithful-so : session.Faithful s → Faithful h
  faithful-so f = record {
    begun = rw (i.deliveries, next-is, messages-are) f.begun;
    inside = rw (next-is, messages-are) f.inside;
    bytes = rw (i.deliveries, i.lent) f.bytes;
    held = λ n e. rw (messages-are, i.area) (f.held n (rw (holds_same n) at e));
  }

  pub delivered-so : (n : ℕ) → session.Delivered s n → Delivered h n
  delivered-so n d = record {
    some = d.some;
    within = rw i.deliveries d.within;
    same = rw (i.deliveries, messages-are) d.same;
  }
