-- Messages that were taken stand in the datagram's blocks, from byte 7 on.
-- Assumes nothing.
use Prim.Native.Nat.{ℕ, ◌+◌, ◌-◌, ◌^◌, ◌≤◌, ◌<◌}
use mathlib.Core.Path.{◌≡◌, ap, sym, ◌∙◌}
use mathlib.Core.List.{List}
use borrow.Author.Tests.{leb-true}
use lib.ListN.{length, drop}
use Rattle.wire.specs.Fields.{Bytes}
use Rattle.wire.specs.Checks.{taken}
use Rattle.wire.specs.Datagram.{limit}
use Rattle.wire.proofs.Tests.{impossible, nonzero}
use Rattle.wire.proofs.Width.{bytes_drop}
use Rattle.blocks.specs.Blocks.{frames, whole, cut, messages_of}
use Rattle.blocks.proofs.Cutting.{frames-cut}
use Rattle.ufo.specs.Down.{messages, first_s, count_s, blocks_s, read}
use Rattle.blocks.proofs.Counting.{whole_is, count_cut}
use Rattle.ufo.proofs.DownTaken.{Came, by-A, by-J, by-S, by-E, came}

pub record Carries (d : List ℕ) (first : ℕ) (ms : List (List ℕ)) : Type 0 where
  pub size : length d ≤ limit
  pub header : 7 ≤ length d
  pub number : first_s d ≡ first
  pub blocks : cut (length ms) (drop 7 d) ≡ whole ms
  pub some : 0 < first
  pub bound : first + length ms ≤ 2 ^ 32 - 1

module _ (d : List ℕ) (first : ℕ) (ms : List (List ℕ)) where
  pub carries : read d ≡ taken (messages first ms) → Carries d first ms
  carries e = let c = came d (messages first ms) e in by (leb-true (length d) limit c.0.1.0) c.1 where
    by : length d ≤ limit → Came d (messages first ms) → Carries d first ms
    by h (by-A k c q) = impossible cc
    by h (by-J k c q) = impossible cc
    by h (by-E k c q) = impossible cc
    by h (by-S k c q) =
        let f : first_s d ≡ first = cc in
        let m : messages_of (blocks_s d) ≡ ms = cc in
        let n : count_s d ≡ length ms = sym (count_cut (count_s d) (drop 7 d) c.1.0) ∙ ap length m in
        record {
          size = h;
          header = leb-true 7 (length d) c.0;
          number = f;
          blocks = rw (← n, ← m) (whole_is (blocks_s d) c.1.0);
          some = rw (← f) (nonzero (first_s d) c.1.1.0);
          bound = rw (← f, ← n) (leb-true (first_s d + count_s d) (2 ^ 32 - 1) c.1.1.1.0);
        }

  pub carried : Bytes d → read d ≡ taken (messages first ms) → drop 7 d ≡ frames ms
  carried b e = sym (frames-cut (length ms) (drop 7 d) ms (bytes_drop 7 d b) (carries e).blocks).0
