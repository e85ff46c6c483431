-- The reader takes exactly the lawful packets, with the same bytes and the same fields.
-- Assumes nothing.
use Prim.Native.Nat.{ℕ, ◌+◌, ◌-◌, ◌^◌, ◌≤◌}
use mathlib.Core.Path.{◌≡◌, ap, ◌∙◌}
use mathlib.Core.List.{List, [], ◌∷◌}
use mathlib.Core.Bool.{not}
use native.Mathlib.Omega.{arith}
use borrow.Author.Tests.{le-leb, leb-true, eqb-true, not-true}
use lib.ListN.{length, drop, drop_of_length-le}
use lib.Seq.{drop-cons}
use Rattle.wire.specs.Fields.{Bytes}
use Rattle.wire.specs.Checks.{taken, Passed}
use Rattle.text.specs.Text.{blank}
use Rattle.wire.specs.Datagram.{limit}
use Rattle.wire.proofs.Tests.{nonzero, not-zero, one-of-test, one-of-fact}
use Rattle.wire.proofs.Checks.{passed-all}
use Rattle.wire.proofs.Width.{be-lt, bytes_drop, length_part, part-again, first-again, written-again, written_last}
use Rattle.blocks.specs.Blocks.{frames, messages_of}
use Rattle.blocks.proofs.Frames.{short-frames}
use Rattle.blocks.proofs.Cutting.{cut-frames, frames-cut}
use Rattle.ufo.specs.Down.{Packet, accept, reject, messages, end, write, Fit, kind, session_a, next_a, checks_a, reason_j, checks_j}
use Rattle.ufo.specs.Down.{first_s, count_s, blocks_s, checks_s, total_e, checks_e, read}
use Rattle.blocks.proofs.Counting.{whole_is, count-frames}
use Rattle.ufo.proofs.DownLaid.{of_accept, length-laid, laid-accept, laid-reject, laid-messages, laid_end}
use Rattle.ufo.proofs.DownTaken.{Came, by-A, by-J, by-S, by-E, came}

pub written-is-read : (p : Packet) → Fit p → read (write p) ≡ taken p
written-is-read (accept session next) f =
    laid-accept session next f.ten (omega (arith, f.bound))
    ∙ passed-all (of_accept session next) (taken (accept session next))
    (f.letters, (ap not f.named, (not-zero next f.some, (le-leb next (2 ^ 32 - 1) f.bound, tt))))
written-is-read (reject reason) f = laid-reject reason ∙ rw (one-of-test reason 65 83 f)
written-is-read (messages first ms) f =
    let s = frames ms in
    let l : 7 + length s ≤ limit = rw (length-laid first (length ms) s) at f.size in
    let k = count-frames ms in
    let c = cut-frames ms (short-frames ms (omega arith)) in
    laid-messages first (length ms) s (omega arith) (omega arith)
    ∙ rw (le-leb (7 + length s) limit l, c, not-zero first f.some, le-leb (first + length ms) (2 ^ 32 - 1) f.bound)
written-is-read (end total) f = laid_end total (omega arith) ∙ rw (le-leb total (2 ^ 32 - 2) f)

module _ (d : List ℕ) (b : Bytes d) where
  back-A : kind d ≡ 65 → Passed (checks_a d) → Fit (accept (session_a d) (next_a d)) × (write (accept (session_a d) (next_a d)) ≡ d)
  back-A k c =
      let l : length d ≡ 15 = eqb-true (length d) 15 c.0 in (
        record {
          ten = length_part 1 10 d (omega arith);
          letters = c.1.0;
          named = not-true (blank (session_a d)) c.1.1.0;
          some = nonzero (next_a d) c.1.1.1.0;
          bound = omega (arith, be-lt 4 (drop 11 d) (bytes_drop 11 d b));
        },
        rw (written_last 4 11 d b l, part-again 1 10 d) (first-again 65 d (omega arith) k),
      )

  back-J : kind d ≡ 74 → Passed (checks_j d) → Fit (reject (reason_j d)) × (write (reject (reason_j d)) ≡ d)
  back-J k c =
      let l : length d ≡ 2 = eqb-true (length d) 2 c.0 in
      let s : drop 1 d ≡ reason_j d ∷ drop 2 d = drop-cons d 1 0 (omega arith) in
      let n : drop 2 d ≡ [] = drop_of_length-le d {i = 2} (omega arith) in
      (one-of-fact (reason_j d) 65 83 c.1.0, rw (← n, ← s) (first-again 74 d (omega arith) k))

  back-S : length d ≤ limit → kind d ≡ 83 → Passed (checks_s d) → let p = messages (first_s d) (messages_of (blocks_s d)) in Fit p
      × (write p ≡ d)
  back-S h k c =
      let ms = messages_of (blocks_s d) in
      let l : 7 ≤ length d = leb-true 7 (length d) c.0 in
      let f = frames-cut (count_s d) (drop 7 d) ms (bytes_drop 7 d b) (whole_is (blocks_s d) c.1.0) in
      let w : write (messages (first_s d) ms) ≡ d = rw (f.0, f.1, written-again 2 5 d b (omega arith), written-again 4 1 d b (omega arith))
      (first-again 83 d (omega arith) k) in (
        record {
          some = nonzero (first_s d) c.1.1.0;
          bound = rw f.1 (leb-true (first_s d + count_s d) (2 ^ 32 - 1) c.1.1.1.0);
          bytes = f.2;
          size = omega (arith, ap length w);
        },
        w,
      )

  back-E : kind d ≡ 69 → Passed (checks_e d) → Fit (end (total_e d)) × (write (end (total_e d)) ≡ d)
  back-E k c =
      let l : length d ≡ 5 = eqb-true (length d) 5 c.0 in
      (leb-true (total_e d) (2 ^ 32 - 2) c.1.0, rw (written_last 4 1 d b l) (first-again 69 d (omega arith) k))

  pub read-is-written : (p : Packet) → read d ≡ taken p → Fit p × (write p ≡ d)
  read-is-written p e = let c = came d p e in by (leb-true (length d) limit c.0.1.0) c.1 where
    by : length d ≤ limit → Came d p → Fit p × (write p ≡ d)
    by h (by-A k c q) = rw (← q) (back-A k c)
    by h (by-J k c q) = rw (← q) (back-J k c)
    by h (by-S k c q) = rw (← q) (back-S h k c)
    by h (by-E k c q) = rw (← q) (back-E k c)
