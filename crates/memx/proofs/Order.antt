-- MEMX-UDP's checks stand in an order of its own: the header's length (5) is checked after it is there (4) and before any other length (4).
-- Assumes nothing.
use Prim.Native.Nat.{ℕ}
use mathlib.Core.Path.{◌≡◌, refl}
use mathlib.Core.Bool.{false}
use mathlib.Core.List.{List, [], ◌∷◌, ◌++◌}
use Rattle.wire.specs.Checks.{◌is◌, taken, Check, checked, ordered}
use Rattle.wire.specs.Refusals.{number_of}
use Rattle.blocks.specs.Blocks.{messages_of}
use Rattle.memx.specs.Packet.{messages}
use Rattle.memx.specs.Read.{kind_in, session_in, number_in, extra_in, blocks_in, header_checks, news_checks, messages_checks, news}
use Rattle.memx.specs.Read.{read_news}
use Rattle.memx.specs.Read.{read_messages, read}

-- all that is checked of a packet, in one list
module _ (d : List ℕ) where
  pub checked-as-messages : kind_in d ≡ 2
      → read d ≡ checked (header_checks d ++ messages_checks d)
      (taken (messages (session_in d) (number_in d) (extra_in d) (messages_of (blocks_in d))))
  unfolding read read_messages
  checked-as-messages k = rw k

  pub checked-as-news : (kind_in d is 2) ≡ false
      → read d ≡ checked (header_checks d ++ news_checks d) (taken (news (kind_in d) (session_in d) (number_in d) (extra_in d)))
  unfolding read read_news
  checked-as-news k = rw k

-- the numbers of some checks, one after the other
abbrev numbers : List Check → List ℕ
numbers [] = []
numbers (c ∷ cs) = number_of c.why ∷ numbers cs

module _ (d : List ℕ) where
  pub order-news : numbers (header_checks d ++ news_checks d) ≡ 1 ∷ 2 ∷ 3 ∷ 4 ∷ 5 ∷ 5 ∷ 4 ∷ 7 ∷ []
  order-news = refl

  pub order-messages : numbers (header_checks d ++ messages_checks d) ≡ 1 ∷ 2 ∷ 3 ∷ 4 ∷ 5 ∷ 5 ∷ 4 ∷ 4 ∷ 6 ∷ 6 ∷ 7 ∷ []
  order-messages = refl

  pub not-the-readers-order : (ordered (header_checks d ++ news_checks d) ≡ false) ×
      (ordered (header_checks d ++ messages_checks d) ≡ false)
  not-the-readers-order = (refl, refl)
