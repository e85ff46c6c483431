-- Each way through taking a datagram, told of the definition: broken, refused, passed, or messages.
-- Assumes nothing.
use Prim.Native.Nat.{ℕ}
use mathlib.Core.List.{List, []}
use mathlib.Core.Path.{◌≡◌, refl}
use mathlib.Core.Logic.{◌⊎◌, inl, inr}
use mathlib.Core.Bool.{true, false, ◌&&◌}
use lib.ListN.{length}
use Rattle.wire.specs.Checks.{Verdict, refused, taken, ◌into◌, ◌told_by◌}
use Rattle.wire.specs.Fields.{Bytes}
use Rattle.wire.specs.declared.refusal.Refusal.{Refusal}
use Rattle.wire.specs.declared.refusal.Refusal.TheVariants.{Broken}
use Rattle.wire.proofs.Tests.{by-test, both}
use Rattle.held.specs.Hanging.{in_place, sound}
use Rattle.held.specs.Holding.{Holding}
use Rattle.record.specs.Record.{well_kept, hangs}
use Rattle.reports.specs.Reports.{Report, messages, report_of, blocks_at, top_of, is_end, Fills, blocks_from}
use Rattle.taking.specs.Taking.{own, holding_early, Taking, reporting, taking, taken_of, Answered}
use Rattle.taking.specs.Ways.{passing}
use Rattle.record.specs.declared.Record.{Record}
use Rattle.taking.specs.declared.Taken.{Taken}
use Rattle.taking.proofs.EarlyOrLate.{reports-none, leaves}
use Rattle.reports.proofs.Reports.{sound as reported-soundly, SaysMessages}

refuses : (v : Verdict Taking) (area out : List ℕ) (why : Refusal) → v ≡ refused why → Answered v area out (refused why) area out
refuses v area out why e = rw e (record { answer = refl; bytes = refl; slots = refl })

module _ (r : Record) (area d out : List ℕ) where
  abbrev said : Verdict Taking
  said = taking r area d (length out)

  -- what is not held hangs together or not, and then what is held
  pub answers-broken : (well_kept r ≡ false) ⊎ ((well_kept r ≡ true) × (in_place r.held r.next.0 r.top.0 && sound r.held area ≡ false))
      → Answered said area out (refused Broken) area out
  unfolding taking hangs
  answers-broken (inl h) = refuses said area out Broken (rw h)
  answers-broken (inr (w, e)) =
      refuses said area out Broken
      (by-test (in_place r.held r.next.0 r.top.0) (λ p. rw (w, p, rw p at e)) (λ p. rw (w, p)))

  pub both-hang : well_kept r ≡ true → in_place r.held r.next.0 r.top.0 && sound r.held area ≡ true
      → (hangs r ≡ true) × (sound r.held area ≡ true)
  unfolding hangs
  both-hang w e =
      let b = both (in_place r.held r.next.0 r.top.0) (sound r.held area) e in
      (rw (w, b.0), b.1)

  module _ (h : hangs r ≡ true) (s : sound r.held area ≡ true) where
    goes_on : (v : Verdict Report) → report_of r.session d ≡ v → said ≡ v into reporting r area (length out)
    unfolding taking
    goes_on v e = rw (h, s, e)

    pub answers-refusal : (why : Refusal) → report_of r.session d ≡ refused why → Answered said area out (refused why) area out
    answers-refusal why e = refuses said area out why (goes_on (refused why) e)

    -- a report that delivers nothing and of which nothing is held
    pub answers-none : (report : Report) → report_of r.session d ≡ taken report → own r.next.0 report ≡ []
        → ((k : Holding) → holding_early r.next.0 k report ≡ k) → (a : Verdict Taken)
        → a ≡ (passing r [] (top_of report) (is_end report) told_by taken_of)
        → Answered said area out a area out
    answers-none report e none held a f =
        rw (goes_on (taken report) e, reports-none r area report h none (length out) held)
        (leaves r area (top_of report) (is_end report) out a f)

    -- messages: their blocks stand in the datagram
    module _ (b : Bytes d) (first count p : ℕ) where
      abbrev Said : Type 0
      Said = SaysMessages (blocks_at r.session d) first count p (report_of r.session d)

      pub fills-so : Said → Fills d p first count
      fills-so m = by m.ms m.counts m.places m.report where
        by : (ms : List (List ℕ)) → count ≡ length ms → p ≡ blocks_at r.session d → report_of r.session d ≡ taken (messages first ms)
            → Fills d p first count
        by ms c q e = rw (c, q) (reported-soundly d b r.session (messages first ms) e).stand.0

      pub answers-messages : Said → (a : Verdict Taken) (area_left left : List ℕ)
          → Answered (reporting r area (length out) (messages first (blocks_from d p count))) area out a area_left left
          → Answered said area out a area_left left
      answers-messages m a area_left left f = by m.ms m.counts m.places m.report where
        by : (ms : List (List ℕ)) → count ≡ length ms → p ≡ blocks_at r.session d → report_of r.session d ≡ taken (messages first ms)
            → Answered said area out a area_left left
        by ms c q e =
            let s = (reported-soundly d b r.session (messages first ms) e).stand.1 in
            rw (goes_on (taken (messages first ms)) e) (rw (c, q, s) at f)
