-- What the log lays into lent output is a lawful packet, and the reader takes it for what it is.
-- Assumes nothing.
use Prim.Native.Nat.{ℕ}
use mathlib.Core.List.{List, [], ◌∷◌}
use mathlib.Core.Path.{◌≡◌, sym}
use mathlib.Core.Bool.{true}
use Rattle.wire.specs.Fields.{Bytes}
use Rattle.wire.specs.Checks.{taken, ◌else◌}
use Rattle.wire.specs.Reply.{within}
use Rattle.wire.specs.declared.refusal.Refusal.TheVariants.{Broken, Contradiction}
use Rattle.wire.proofs.Checks.{all-passed, taken-same}
use Rattle.wire.proofs.Settling.{within-taken}
use Rattle.wire.proofs.Tests.{nonzero}
use Rattle.ufo.specs.Down.{Packet, write, Fit, read}
use Rattle.ufo.proofs.Exact.{written-is-read}
use Rattle.lent_log.specs.Log.{messages_in, hangs}
use Rattle.lend.specs.Answer.{heartbeat_of, end_of, answer_to, answerable, answer_reply, heartbeat_reply, end_packet_reply}
use Rattle.lent_log.specs.declared.Log.{Log}
use Rattle.lend.proofs.Answering.{few-in, bytes-in, beat-fits, end_fits, answer-fits}

-- bytes that are a lawful packet, which the reader takes
pub record Gives (d : List ℕ) (p : Packet) : Type 0 where
  pub bytes : d ≡ write p
  pub fit : Fit p
  pub reads : read d ≡ taken p

gives : (d : List ℕ) (p : Packet) → write p ≡ d → Fit p → Gives d p
gives d p e f = record { bytes = sym e; fit = f; reads = rw (← e) (written-is-read p f) }

module _ (l : Log) (s : List ℕ) (room : ℕ) (d : List ℕ) where
  abbrev held : List (List ℕ)
  held = messages_in l s

  pub answered : (f c : ℕ) → Bytes s → answer_reply l s f c room ≡ taken d → Gives d (answer_to l.ended held f c)
  unfolding answer_reply
  answered f c b e =
      let p = answer_to l.ended held f c in
      let q = all-passed (answerable l s f c room) (taken (write p)) d e in
      gives d p (taken-same (write p) d q.1)
      (answer-fits held (few-in l s q.0.0) l.ended f c (bytes-in l s b q.0.0) (nonzero f q.0.1.0))

  pub beaten : heartbeat_reply l s room ≡ taken d → Gives d (heartbeat_of held)
  unfolding heartbeat_reply
  beaten e =
      let q = all-passed ((hangs l s else Broken) ∷ []) (within room (write (heartbeat_of held))) d e in
      gives d (heartbeat_of held) (within-taken room (write (heartbeat_of held)) d q.1) (beat-fits held (few-in l s q.0.0))

  pub ended : end_packet_reply l s room ≡ taken d → (l.ended ≡ true) × Gives d (end_of held)
  unfolding end_packet_reply
  ended e =
      let q = all-passed ((hangs l s else Broken) ∷ (l.ended else Contradiction) ∷ []) (within room (write (end_of held))) d e in
      (q.0.1.0, gives d (end_of held) (within-taken room (write (end_of held)) d q.1) (end_fits held (few-in l s q.0.0)))
