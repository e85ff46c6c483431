-- Each reply of the lending end is the datagram of a lawful packet that the log vouches for, and each request gets one.
-- Assumes nothing.
use Prim.Native.Nat.{ℕ, ◌≤◌}
use mathlib.Core.Path.{◌≡◌}
use mathlib.Core.List.{List}
use mathlib.Core.Bool.{Bool}
use native.Mathlib.Omega.{arith}
use borrow.Author.Tests.{le-leb, ne_eqb}
use Rattle.wire.specs.Checks.{taken}
use Rattle.wire.proofs.Checks.{all-passed}
use Rattle.ufo.specs.Down as ufo
use Rattle.wire.proofs.Tests.{nonzero as positive}
use Rattle.lent_log.specs.Log.{messages_in}
use Rattle.lend.specs.Answer.{answer_to, answerable, answer_reply, heartbeat_reply, end_packet_reply}
use Rattle.lent_log.specs.declared.Log.{Log}
use Rattle.lent_log.proofs.Hanging.{hanging}
use Rattle.lend.proofs.Given.{Gives, answered, beaten, ended}
use Rattle.reports.specs.Reports.{Report}
use Rattle.session.proofs.Lending.{Vouched, beat-vouched, end-vouched, Answer, answer}
use Rattle.session.proofs.Logs.{Hung}

-- the datagram of a lawful packet whose report the log vouches for
pub record Wrote (ms : List (List ℕ)) (over : Bool) (d : List ℕ) : Type 0 where
  pub packet : ufo.Packet
  pub gives : Gives d packet
  pub report : Report
  pub vouched : Vouched ms over packet report

module _ (l : Log) (s : List ℕ) (h : Hung l s) (room : ℕ) (d : List ℕ) where
  pub beat-wrote : heartbeat_reply l s room ≡ taken d → Wrote (messages_in l s) l.ended d
  beat-wrote e = record { packet = _; gives = beaten l s room d e; report = _; vouched = beat-vouched (messages_in l s) l.ended }

  pub end-wrote : end_packet_reply l s room ≡ taken d → Wrote (messages_in l s) l.ended d
  end-wrote e =
      let p = ended l s room d e in
      record { packet = _; gives = p.1; report = _; vouched = end-vouched (messages_in l s) l.ended p.0 }

  -- the answer's own packet
  module _ (f c : ℕ) (e : answer_reply l s f c room ≡ taken d) where
    pub answers : Answer (messages_in l s) l.ended f (answer_to l.ended (messages_in l s) f c)
    unfolding answer_reply
    answers =
        let q = answer_to l.ended (messages_in l s) f c in
        let p = all-passed (answerable l s f c room) (taken (ufo.write q)) d e in
        answer (messages_in l s) l.ended f c (positive f p.0.1.0) (positive c p.0.1.1.0) (hanging l s h.whole).sizes

    pub answer-gives : Gives d (answer_to l.ended (messages_in l s) f c)
    answer-gives = answered l s room d f c h.bytes e

    pub answer-wrote : Wrote (messages_in l s) l.ended d
    answer-wrote = record { packet = _; gives = answer-gives; report = answers.report; vouched = answers.vouched }

-- a request whose numbers are not 0 is answered
pub answered-so : (l : Log) (s : List ℕ) (h : Hung l s) (f c room : ℕ) → 1 ≤ f → 1 ≤ c → 1472 ≤ room
    → answer_reply l s f c room ≡ taken (ufo.write (answer_to l.ended (messages_in l s) f c))
unfolding answer_reply
answered-so l s h f c room f₁ c₁ r = rw (h.whole, ne_eqb f 0 (omega arith), ne_eqb c 0 (omega arith), le-leb 1472 room r)

-- the three ways to send
pub ruleset lends = (beat-wrote, end-wrote, answer-wrote)
