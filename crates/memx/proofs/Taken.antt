-- What is taken passed the checks that all types share, and those of its type.
-- Assumes nothing.
use Prim.Native.Nat.{ℕ, ◌≤◌}
use mathlib.Core.Path.{◌≡◌}
use mathlib.Core.List.{List}
use native.Mathlib.Omega.{arith}
use borrow.Author.Tests.{leb-true, eqb-true, eqb-false}
use lib.ListN.{length}
use Rattle.wire.specs.Checks.{◌is◌, taken, Passed}
use Rattle.wire.proofs.Checks.{all-passed, chosen, taken-same}
use Rattle.blocks.specs.Blocks.{messages_of}
use Rattle.memx.specs.Packet.{Packet, messages, limit, header_size}
use Rattle.memx.specs.Read.{kind_in, header_in, session_in, number_in, extra_in, blocks_in, header_checks, news_checks, messages_checks}
use Rattle.memx.specs.Read.{news}
use Rattle.memx.specs.Read.{read_news, read_messages, read}

module _ (d : List ℕ) (p : Packet) where
  pub data ByType : Type 0 where
    as-news : kind_in d ≤ 1 → Passed (news_checks d) → news (kind_in d) (session_in d) (number_in d) (extra_in d) ≡ p → ByType
    as-messages : kind_in d ≡ 2 → Passed (messages_checks d)
        → messages (session_in d) (number_in d) (extra_in d) (messages_of (blocks_in d)) ≡ p → ByType

  pub record Took : Type 0 where
    pub size : length d ≤ limit
    pub header : header_size ≤ header_in d
    pub byte : header_in d ≤ 255
    pub by-type : ByType

  pub took : read d ≡ taken p → Took
  unfolding read read_news read_messages
  took e =
      let k = kind_in d in
      let r = all-passed (header_checks d) _ p e in
      let known : k ≤ 2 = leb-true k 2 r.0.1.1.0 in
      let m = taken (messages (session_in d) (number_in d) (extra_in d) (messages_of (blocks_in d))) in
      let n = taken (news k (session_in d) (number_in d) (extra_in d)) in
      record {
        size = leb-true (length d) limit r.0.1.0;
        header = leb-true header_size (header_in d) r.0.1.1.1.1.0;
        byte = leb-true (header_in d) 255 r.0.1.1.1.1.1.0;
        by-type =
            chosen (k is 2) (read_messages d) (read_news k d) (taken p)
            (λ q f. let c = all-passed (messages_checks d) m p f in as-messages (eqb-true k 2 q) c.0 (taken-same _ p c.1))
            (λ q f.
            let c = all-passed (news_checks d) n p f in
            let other = eqb-false k 2 q in
            as-news (omega arith) c.0 (taken-same _ p c.1))
            r.1;
      }
