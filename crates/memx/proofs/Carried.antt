-- What a packet that is taken as messages says of its bytes: from blocks_at on they are the messages' blocks.
-- Assumes nothing.
use Prim.Native.Nat.{ℕ, ◌+◌, ◌≤◌}
use mathlib.Core.Path.{◌≡◌, sym}
use mathlib.Core.List.{List}
use native.Mathlib.Omega.{arith}
use borrow.Author.Tests.{leb-true}
use lib.ListN.{length, drop}
use Rattle.wire.specs.Fields.{Bytes}
use Rattle.wire.specs.Checks.{◌is◌, taken, Passed}
use Rattle.wire.proofs.Tests.{by-test, impossible}
use Rattle.wire.proofs.Width.{bytes_drop}
use Rattle.blocks.specs.Blocks.{frames, whole, cut, messages_of}
use Rattle.blocks.proofs.Cutting.{frames-cut}
use Rattle.memx.specs.Packet.{heartbeat, shutdown, messages, header_size}
use Rattle.memx.specs.Read.{kind_in, session_in, number_in, extra_in, count_in, blocks_at, blocks_in, messages_checks, news, read}
use Rattle.blocks.proofs.Counting.{whole_is, length_cut}
use Rattle.memx.proofs.Header.{length-extra}
use Rattle.memx.proofs.Taken.{ByType, as-news, as-messages, took}

-- messages are no news
no-news : {C : Type 0} (kind a b session first : ℕ) (c extra : List ℕ) (ms : List (List ℕ))
    → messages session first extra ms ≡ news kind a b c → C
no-news kind a b session first c extra ms e =
    by-test (kind is 0)
    (λ q. let f : messages session first extra ms ≡ heartbeat a b c = rw q at e in impossible cc)
    (λ q. let f : messages session first extra ms ≡ shutdown a b c = rw q at e in impossible cc)

module _ (d : List ℕ) (session first : ℕ) (extra : List ℕ) (ms : List (List ℕ)) (e : read d ≡ taken (messages session first extra ms)) where
  parts : Passed (messages_checks d) × (extra ≡ extra_in d) × (blocks_in d ≡ whole ms)
  parts = by (took d (messages session first extra ms) e).by-type where
    by : ByType d (messages session first extra ms) → Passed (messages_checks d) × (extra ≡ extra_in d) × (blocks_in d ≡ whole ms)
    by (as-news k c q) = no-news (kind_in d) (session_in d) (number_in d) session first (extra_in d) extra ms (sym q)
    by (as-messages k c q) =
        let same : ms ≡ messages_of (blocks_in d) = cc q in
        (c, cc q, rw same (whole_is (blocks_in d) c.1.0))

  count : length ms ≡ count_in d
  count = length_cut (count_in d) (drop (blocks_at d) d) ms parts.2

  pub carried-long : blocks_at d ≤ length d
  carried-long = leb-true _ _ parts.0.0

  -- the blocks begin where the header and their count end
  pub carried-place : blocks_at d ≡ header_size + 2 + length extra
  carried-place =
      let h = (took d (messages session first extra ms) e).header in
      let l = carried-long in
      rw (parts.1, length-extra d h (omega arith)) (omega arith)

  pub carried-cut : cut (length ms) (drop (blocks_at d) d) ≡ whole ms
  carried-cut = rw count parts.2

  pub carried-frames : Bytes d → drop (blocks_at d) d ≡ frames ms
  carried-frames b = sym (frames-cut (length ms) (drop (blocks_at d) d) ms (bytes_drop (blocks_at d) d b) carried-cut).0
