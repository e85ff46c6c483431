-- What the log replies once the checks are passed: the writer's reply to the packet's fields.
-- Assumes nothing.
use Prim.Native.Nat.{ℕ, ◌+◌, ◌≤◌, ◌<◌}
use mathlib.Core.List.{List, []}
use mathlib.Core.Path.{◌≡◌, ap, sym, ◌∙◌}
use mathlib.Core.Logic.{◌⊎◌, inl, inr}
use mathlib.Core.Bool.{true, false}
use native.Mathlib.Omega.{arith}
use borrow.Author.Tests.{le-leb, lt-leb, eq-eqb, ne_eqb}
use lib.ListN.{length}
use Rattle.wire.specs.Checks.{refused, taken}
use Rattle.wire.specs.declared.refusal.Refusal.TheVariants.{Absent}
use Rattle.wire.specs.Reply.{within}
use Rattle.wire.specs.Datagram.{limit}
use Rattle.wire.proofs.Settling.{enough-room}
use Rattle.wire.proofs.Width.{length-bytes_of}
use Rattle.blocks.specs.Blocks.{frames}
use Rattle.ufo.specs.Down.{write}
use Rattle.ufo_write.specs.WriteDown.{messages_reply}
use Rattle.ufo_write.specs.WriteDown as ufo
use Rattle.ufo.proofs.DownLaid.{length-laid}
use Rattle.ufo_write.proofs.DownLawful.{lawful-reply}
use Rattle.lent_log.specs.Log.{messages_in, hangs}
use Rattle.lend.specs.Answer.{packed, heartbeat_of, end_of, answer_to, answer_reply, heartbeat_reply, end_packet_reply}
use Rattle.lent_log.specs.declared.Log.{Log}
use Rattle.lend.proofs.Answering.{count-is, few-in, beat-fits, end_fits}

module _ (l : Log) (s : List ℕ) (h : hangs l s ≡ true) where
  abbrev ms : List (List ℕ)
  ms = messages_in l s

  -- the writers, given the log's count
  writes-beat : (room : ℕ) → messages_reply (l.count + 1) 0 [] room ≡ within room (write (heartbeat_of ms))
  unfolding frames
  writes-beat room =
      ap (λ (n : ℕ). messages_reply (n + 1) 0 [] room) (sym (count-is l s h))
      ∙ lawful-reply (heartbeat_of ms) room (beat-fits ms (few-in l s h))

  writes_end : (room : ℕ) → ufo.end_reply l.count room ≡ within room (write (end_of ms))
  writes_end room =
      ap (λ (n : ℕ). ufo.end_reply n room) (sym (count-is l s h)) ∙ lawful-reply (end_of ms) room (end_fits ms (few-in l s h))

  pub replies-beat : (room : ℕ) → messages_reply (l.count + 1) 0 [] room ≡ heartbeat_reply l s room
  unfolding heartbeat_reply
  replies-beat room = writes-beat room ∙ rw h

  pub replies-end : (room : ℕ) → l.ended ≡ true → ufo.end_reply l.count room ≡ end_packet_reply l s room
  unfolding end_packet_reply
  replies-end room e = writes_end room ∙ rw (h, e)

  -- a request for no number, or for no messages
  pub answers-none : (f c room : ℕ) → (f ≡ 0) ⊎ ((f ≡ 0 → ⊥) × (c ≡ 0)) → answer_reply l s f c room ≡ refused Absent
  unfolding answer_reply
  answers-none f c room (inl e) = rw (h, eq-eqb f 0 e)
  answers-none f c room (inr e) = rw (h, ne_eqb f 0 e.0, eq-eqb c 0 e.1)

  module _ (f c room : ℕ) (i : 0 < f) (j : 0 < c) (w : limit ≤ room) where
    pub replies : answer_reply l s f c room ≡ taken (write (answer_to l.ended ms f c))
    unfolding answer_reply
    replies = rw (h, ne_eqb f 0 (λ e. omega arith), ne_eqb c 0 (λ e. omega arith), le-leb limit room w)

    pub answers-packed : f ≤ l.count → taken (write (packed ms f c)) ≡ answer_reply l s f c room
    unfolding answer_to
    answers-packed k =
        let n : f ≤ length ms = rw (count-is l s h) k in
        sym (replies ∙ rw (le-leb f (length ms) n))

    module _ (k : l.count < f) where
      past : length ms < f
      past = rw (count-is l s h) k

      pub answers-end : l.ended ≡ true → ufo.end_reply l.count room ≡ answer_reply l s f c room
      unfolding answer_to
      answers-end e =
          let n = length-bytes_of 4 (length ms) in
          writes_end room ∙ enough-room (write (end_of ms)) room (omega arith) ∙ sym (replies ∙ rw (lt-leb f (length ms) past, e))

      pub answers-beat : l.ended ≡ false → messages_reply (l.count + 1) 0 [] room ≡ answer_reply l s f c room
      unfolding answer_to frames
      answers-beat e =
          let n = length-laid (length ms + 1) 0 [] in
          writes-beat room ∙ enough-room (write (heartbeat_of ms)) room (omega arith) ∙ sym (replies ∙ rw (lt-leb f (length ms) past, e))
