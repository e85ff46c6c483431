-- Exactly the lawful packets are taken: reading what was written gives the packet, and writing what was read the bytes.
-- Assumes nothing.
use Rattle.std.specs.Prelude.{if◌then◌else◌}
use Prim.Native.Nat.{ℕ, zero, suc, ◌+◌, ◌-◌, ◌≤◌}
use mathlib.Core.Path.{◌≡◌, refl, ◌∙◌}
use mathlib.Core.List.{List, []}
use mathlib.Core.Bool.{Bool, true, false}
use native.Mathlib.Omega.{arith}
use borrow.Author.Tests.{le-leb, ne_eqb, leb-true, eqb-true}
use lib.ListN.{length, drop, drop_of_length-le}
use Rattle.wire.specs.Fields.{Bytes}
use Rattle.wire.specs.Checks.{◌is◌, taken, Passed}
use Rattle.wire.proofs.Tests.{nonzero}
use Rattle.wire.proofs.Width.{be-lt, bytes_drop, bytes_take, written-again}
use Rattle.blocks.specs.Blocks.{frames, messages_of}
use Rattle.blocks.proofs.Frames.{short-frames}
use Rattle.blocks.proofs.Cutting.{cut-frames, frames-cut}
use Rattle.memx.specs.Packet.{Packet, heartbeat, shutdown, messages, limit, header_size, headed, laid, write, FitExtra, FitNews}
use Rattle.memx.specs.Packet.{FitMessages, Fit}
use Rattle.memx.specs.Read.{kind_in, header_in, session_in, number_in, extra_in, count_in, blocks_at, blocks_in, news_checks}
use Rattle.memx.specs.Read.{messages_checks}
use Rattle.memx.specs.Read.{news, read}
use Rattle.blocks.proofs.Counting.{whole_is, count-frames}
use Rattle.memx.proofs.Header.{length-laid, length-extra, header-again}
use Rattle.memx.proofs.Taken.{ByType, as-news, as-messages, Took, took}
use Rattle.memx.proofs.Verdicts.{news-verdict, laid-verdict}

-- what holds of type 0 and of type 1
pub of_two : (P : ℕ → Type 0) → P 0 → P 1 → (kind : ℕ) → kind ≤ 1 → P kind
of_two P p q zero h = p
of_two P p q (suc zero) h = q
of_two P p q (suc (suc n)) h = absurd (omega arith)

-- heartbeat and shutdown at once
news-read : (kind session highest : ℕ) (extra : List ℕ) → kind ≤ 1 → FitNews session highest extra
    → read (headed kind session highest extra []) ≡ taken (news kind session highest extra)
news-read kind session highest extra k fit =
    let few = fit.extra.few in
    rw (
      news-verdict kind session highest extra [] fit.session (omega arith) (ne_eqb kind 2 (λ e. omega arith)),
      le-leb (header_size + length extra + 0) limit (omega arith),
      le-leb kind 2 (omega arith),
      le-leb (header_size + length extra) 255 (omega arith),
      le-leb highest _ fit.bound,
    )

news-written : (kind session highest : ℕ) (extra : List ℕ) → kind ≤ 1
    → write (news kind session highest extra) ≡ headed kind session highest extra []
unfolding write
news-written kind session highest extra k =
    of_two (λ n. write (news n session highest extra) ≡ headed n session highest extra []) refl refl kind k

fit-news : (kind session highest : ℕ) (extra : List ℕ) → FitNews session highest extra → Fit (news kind session highest extra)
fit-news kind session highest extra fit = by (kind is 0) where
  by : (b : Bool) → Fit (if b then heartbeat session highest extra else shutdown session highest extra)
  by true = fit
  by false = fit

messages-read : (session first : ℕ) (extra : List ℕ) (ms : List (List ℕ)) → FitMessages session first extra ms
    → read (laid session first (length ms) extra (frames ms)) ≡ taken (messages session first extra ms)
unfolding write
messages-read session first extra ms fit =
    let size : header_size + length extra + 2 + length (frames ms) ≤ limit = rw length-laid at fit.size in
    let few = count-frames ms in
    let extras = fit.extra.few in
    rw (
      laid-verdict session first (length ms) extra (frames ms) fit.session (omega arith) (omega arith),
      le-leb (header_size + length extra + (2 + length (frames ms))) limit (omega arith),
      le-leb (header_size + length extra) 255 (omega arith),
      cut-frames ms (short-frames ms (omega arith)),
      ne_eqb first 0 (λ e. omega arith),
      ne_eqb (length ms) 0 (λ e. omega arith),
      le-leb (first + length ms) _ fit.bound,
    )

pub written-is-read : (p : Packet) → Fit p → read (write p) ≡ taken p
unfolding write
written-is-read (heartbeat session highest extra) fit = news-read 0 session highest extra (omega arith) fit
written-is-read (shutdown session highest extra) fit = news-read 1 session highest extra (omega arith) fit
written-is-read (messages session first extra ms) fit = messages-read session first extra ms fit

module _ (d : List ℕ) (b : Bytes d) where
  -- the extra bytes of a header that the datagram holds
  extra-fits : header_size ≤ header_in d → header_in d ≤ 255 → header_in d ≤ length d → FitExtra (extra_in d)
  extra-fits h m l =
      record {
        few = rw (length-extra d h l) (omega arith);
        bytes = bytes_take (header_in d - header_size) (drop header_size d) (bytes_drop header_size d b);
      }

  news-again : kind_in d ≤ 1 → header_size ≤ header_in d → header_in d ≤ 255 → Passed (news_checks d)
      → let p = news (kind_in d) (session_in d) (number_in d) (extra_in d) in Fit p × (write p ≡ d)
  news-again k h m c =
      let size : length d ≡ header_in d = eqb-true _ _ c.0 in
      let none : drop (header_in d) d ≡ [] = drop_of_length-le d {i = header_in d} (omega arith) in
      let fit : FitNews (session_in d) (number_in d) (extra_in d) =
      record {
        session = be-lt 8 (drop 2 d) (bytes_drop 2 d b);
        bound = leb-true _ _ c.1.0;
        extra = extra-fits h m (omega arith);
      } in
      let again = header-again d b h (omega arith) in (
        fit-news (kind_in d) (session_in d) (number_in d) (extra_in d) fit,
        news-written (kind_in d) (session_in d) (number_in d) (extra_in d) k ∙ rw none at again,
      )

  messages-again : kind_in d ≡ 2 → header_size ≤ header_in d → header_in d ≤ 255 → length d ≤ limit → Passed (messages_checks d)
      → let p = messages (session_in d) (number_in d) (extra_in d) (messages_of (blocks_in d)) in Fit p × (write p ≡ d)
  unfolding write
  messages-again k h m l c =
      let ms = messages_of (blocks_in d) in
      let size : blocks_at d ≤ length d = leb-true _ _ c.0 in
      let cuts = frames-cut (count_in d) (drop (blocks_at d) d) ms (bytes_drop (blocks_at d) d b) (whole_is (blocks_in d) c.1.0) in
      let again = header-again d b h (omega arith) in
      let same : laid (session_in d) (number_in d) (length ms) (extra_in d) (frames ms) ≡ d =
      rw (cuts.0, cuts.1, written-again 2 (header_in d) d b (omega arith)) (rw k at again) in
      let fit : FitMessages (session_in d) (number_in d) (extra_in d) ms =
      record {
        session = be-lt 8 (drop 2 d) (bytes_drop 2 d b);
        numbered = nonzero (number_in d) c.1.1.0;
        some = rw cuts.1 (nonzero (count_in d) c.1.1.1.0);
        bound = rw cuts.1 (leb-true _ _ c.1.1.1.1.0);
        extra = extra-fits h m (omega arith);
        bytes = cuts.2;
        size = rw same l;
      } in
      (fit, same)

  pub read-is-written : (p : Packet) → read d ≡ taken p → Fit p × (write p ≡ d)
  read-is-written p e = let t = took d p e in by t t.by-type where
    by : Took d p → ByType d p → Fit p × (write p ≡ d)
    by t (as-news k c q) = rw (← q) (news-again k t.header t.byte c)
    by t (as-messages k c q) = rw (← q) (messages-again k t.header t.byte t.size c)
