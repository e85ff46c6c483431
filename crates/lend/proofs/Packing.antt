-- The place that skipping leads to, and the run of blocks from there on, are those of the packet with the most messages.
-- Assumes nothing.
use Prim.Native.Nat.{ℕ, ◌+◌, ◌-◌, ◌≤◌, ◌<◌}
use mathlib.Core.List.{List}
use mathlib.Core.Path.{◌≡◌, refl, ap, sym, ◌∙◌}
use mathlib.Core.Bool.{true}
use native.Mathlib.Nat.{zero-add, sub_self, add-sub_cancel_left}
use native.Mathlib.Omega.{arith}
use lib.ListN.{length, take, drop, length-append, length-drop}
use lib.Seq.{take_at}
use Rattle.wire.specs.Fields.{Bytes}
use Rattle.wire.specs.Checks.{refused, taken}
use Rattle.wire.specs.declared.refusal.Refusal.{Refusal}
use Rattle.wire.specs.Datagram.{limit}
use Rattle.blocks.specs.Blocks.{frames, place_after}
use Rattle.wire.proofs.Checks.{not-both, taken-same}
use Rattle.wire.proofs.Width.{bytes_take}
use Rattle.blocks.proofs.Places.{frames-split}
use Rattle.blocks.proofs.Skipping.{past, Skipped, skipped, skipped-bytes}
use Rattle.ufo.specs.Down.{messages, write}
use Rattle.ufo_write.specs.WriteDown.{messages_reply}
use Rattle.ufo_write.proofs.DownLawful.{lawful-fit}
use Rattle.lent_log.specs.Log.{messages_in, hangs}
use Rattle.lend.specs.Answer.{greatest, goes, packed, run}
use Rattle.lent_log.specs.declared.Log.{Log}
use Rattle.lend.specs.declared.Run.{Run}
use Rattle.lent_log.proofs.Hanging.{hanging}
use Rattle.lend.proofs.Measuring.{holds, ran}
use Rattle.lend.proofs.Answering.{count-is, few-in, bytes-in, most-holds, most, from-fits}

module _ (l : Log) (s : List ℕ) (f c : ℕ) (h : hangs l s ≡ true) (i : 0 < f) (k : f ≤ l.count) where
  abbrev held : List ℕ
  held = take l.used s

  abbrev ms : List (List ℕ)
  ms = messages_in l s

  abbrev others : List (List ℕ)
  others = drop (f - 1) ms

  abbrev begins : ℕ
  begins = past 0 (f - 1) ms

  abbrev number : ℕ
  number = greatest (goes ms f) c

  there : f ≤ length ms
  there = rw (count-is l s h) k

  skip : Skipped held 0 (f - 1) l.count ms
  skip = skipped (f - 1) l.count held 0 ms (omega arith) (hanging l s h).cuts (omega arith)

  pub never-refused : {C : Type 0} (why : Refusal) → place_after (f - 1) held 0 ≡ refused why → C
  never-refused why e = not-both (place_after (f - 1) held 0) why begins e skip.place

  the-run : run held begins begins 0 c ≡ record { count = number; end = begins + length (frames (take number others)) }
  the-run =
      let e = ran held begins c (l.count - (f - 1)) begins 0 others (omega arith) (omega arith) skip.others in
      e ∙ rw (sub_self begins, zero-add (greatest (holds others 1465) c), ← most-holds ms f i there c)

  -- what the code finds
  pub record Sent (room p : ℕ) (r : Run) : Type 0 where
    pub start : p ≤ r.end
    pub stop : r.end ≤ length held
    pub reply : messages_reply f r.count (take (r.end - p) (drop p held)) room ≡ taken (write (packed ms f c))

  abbrev those : List (List ℕ)
  those = take number others

  abbrev size : ℕ
  size = length (frames those)

  sent-there : (room : ℕ) → Bytes s → limit ≤ room → Sent room begins (record { count = number; end = begins + size })
  sent-there room b w =
      let hung = hanging l s h in
      let m = most ms f i there c in
      let bytes : drop begins held ≡ frames others =
      skipped-bytes (f - 1) l.count held 0 ms (bytes_take l.used s b) (omega arith) hung.cuts (omega arith) in
      let first : take size (frames others) ≡ frames those =
      rw (frames-split number others) (take_at (frames those) (frames (drop number others)) size refl) in
      let after : length held - begins ≡ size + length (frames (drop number others)) =
      sym (length-drop begins held)
      ∙ ap length (bytes ∙ frames-split number others)
      ∙ length-append (frames those) (frames (drop number others)) in
      let fit = from-fits ms (few-in l s h) f c (bytes-in l s b h) i there in
      record {
        start = omega arith;
        stop = omega (arith, skip.inside, after);
        reply = rw (add-sub_cancel_left begins size, bytes, first)
            (ap (λ (n : ℕ). messages_reply f n (frames those) room) (sym m.many)
            ∙ lawful-fit (messages f those) room fit (omega (arith, m.size)));
      }

  pub sent : (room p : ℕ) (r : Run) → Bytes s → limit ≤ room
      → place_after (f - 1) held 0 ≡ taken p → r ≡ run held p p 0 c → Sent room p r
  sent room p r b w e g =
      let at : p ≡ begins = taken-same p begins (sym e ∙ skip.place) in
      let runs : r ≡ record { count = number; end = begins + size } = g ∙ ap (λ (x : ℕ). run held x x 0 c) at ∙ the-run in
      rw (at, runs) (sent-there room b w)
