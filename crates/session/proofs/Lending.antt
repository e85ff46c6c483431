-- The log vouches for whatever the lending end sends; and the answer to a request for what the log has brings the first of it.
-- Assumes nothing.
use Rattle.std.specs.Prelude.{if◌then◌else◌}
use Prim.Native.Nat.{ℕ, ◌+◌, ◌-◌, ◌≤◌}
use mathlib.Core.Path.{◌≡◌, refl}
use mathlib.Core.List.{List, []}
use mathlib.Core.Bool.{Bool, true, false, false≢true}
use native.Mathlib.Omega.{arith}
use borrow.Author.Tests.{leb-true, leb-false}
use lib.ListN.{length, take, drop}
use lib.Dec.{leb}
use Rattle.wire.specs.Checks.{taken}
use Rattle.ufo.specs.Down as ufo
use Rattle.lent_log.specs.Log.{small}
use Rattle.lend.specs.Answer.{greatest, from, goes, packed, heartbeat_of, end_of, answer_to}
use Rattle.lend.proofs.Answering.{Most, most, one-goes}
use Rattle.reports.specs.Reports.{Report, messages, end, of_ufo}
use Rattle.session.proofs.Genuine.{first_of, carried, Genuine}

-- a packet that gives a genuine report
pub record Vouched (ms : List (List ℕ)) (over : Bool) (p : ufo.Packet) (report : Report) : Type 0 where
  pub reports : of_ufo p ≡ taken report
  pub genuine : Genuine ms over report

module _ (ms : List (List ℕ)) (over : Bool) where
  pub beat-vouched : Vouched ms over (heartbeat_of ms) (messages (length ms + 1) [])
  beat-vouched = record {
    reports = refl;
    genuine = record { start = omega arith; inside = omega arith; part = refl; final = λ x. absurd (false≢true x) };
  }

  pub end-vouched : over ≡ true → Vouched ms over (end_of ms) (end (length ms))
  end-vouched e = record {
    reports = refl;
    genuine = record { start = omega arith; inside = omega arith; part = refl; final = λ _. (e, refl) };
  }

  stretch-vouched : (f c k : ℕ) → 1 ≤ f → Most ms f c k → Vouched ms over (from f k ms) (messages f (take k (drop (f - 1) ms)))
  stretch-vouched f c k a m =
      let e = m.many in
      record {
        reports = refl;
        genuine = record { start = a; inside = omega (arith, m.there); part = rw e; final = λ x. absurd (false≢true x) };
      }

  -- the answer to a request from number f on; where the log has that message, the answer begins there and brings it
  pub record Answer (f : ℕ) (p : ufo.Packet) : Type 0 where
    pub report : Report
    pub vouched : Vouched ms over p report
    pub begins : f ≤ length ms → first_of report ≡ f
    pub brings : f ≤ length ms → 1 ≤ length (carried report)

  pub answer : (f c : ℕ) → 1 ≤ f → 1 ≤ c → small ms ≡ true → Answer f (answer_to over ms f c)
  unfolding answer_to
  answer f c f₁ c₁ z = by (leb f (length ms)) refl over refl where
    by : (a : Bool) → leb f (length ms) ≡ a → (b : Bool) → over ≡ b
        → Answer f (if a then packed ms f c else if b then end_of ms else heartbeat_of ms)
    by true e b o =
        let low : f ≤ length ms = leb-true f (length ms) e in
        let m = most ms f f₁ low c in
        record {
          report = messages f (take (greatest (goes ms f) c) (drop (f - 1) ms));
          vouched = stretch-vouched f c (greatest (goes ms f) c) f₁ m;
          begins = λ _. refl;
          brings = λ _. rw m.many (m.above 1 c₁ (one-goes ms f f₁ low z));
        }
    by false e true o =
        let high = leb-false f (length ms) e in
        record { report = end (length ms); vouched = end-vouched o; begins = λ l. omega arith; brings = λ l. omega arith }
    by false e false o =
        let high = leb-false f (length ms) e in
        record { report = messages (length ms + 1) []; vouched = beat-vouched; begins = λ l. omega arith; brings = λ l. omega arith }
