-- What the reader says to a packet as it is laid out, by its fields.
-- Assumes nothing.
use Rattle.std.specs.Prelude.{if◌then◌else◌}
use Prim.Native.Nat.{ℕ, ◌+◌, ◌-◌, ◌^◌, ◌<◌}
use mathlib.Core.Path.{◌≡◌, sym, ◌∙◌}
use mathlib.Core.List.{List, [], ◌∷◌, ◌++◌}
use mathlib.Core.Bool.{false, not}
use native.Mathlib.Omega.{arith}
use borrow.Author.Tests.{le-leb, eq-eqb, ne_eqb, eqb-true, eqb-false}
use lib.ListN.{length, length-append}
use Rattle.wire.specs.Fields.{bytes_of}
use Rattle.wire.specs.Checks.{◌is◌, ◌at_most◌, taken, Check, ◌else◌, checked}
use Rattle.wire.specs.declared.refusal.Refusal.TheVariants.{Overlong, UnknownType, Framing, Form, Absent, Bound}
use Rattle.wire.proofs.Tests.{by-test}
use Rattle.wire.proofs.Width.{length-bytes_of}
use Rattle.blocks.specs.Blocks.{cut, is_whole, messages_of}
use Rattle.memx.specs.Packet.{messages, limit, header_size, headed, laid}
use Rattle.memx.specs.Read.{blocks_at, news, read_news, read_messages, read}
use Rattle.memx.proofs.Header.{length-headed, kind-headed, header-headed, session-headed, number-headed, extra-headed, length-laid}
use Rattle.memx.proofs.Header.{count-laid, blocks-laid}

-- what is left to check of a header before so many bytes
abbrev pub headed_checks : (kind : ℕ) (extra : List ℕ) (size : ℕ) → List Check
headed_checks kind extra size =
    (header_size + length extra + size at_most limit else Overlong)
    ∷ (kind at_most 2 else UnknownType)
    ∷ (header_size + length extra at_most 255 else Form)
    ∷ []

-- of a heartbeat or shutdown before so many bytes
abbrev pub rest_checks : (highest size : ℕ) → List Check
rest_checks highest size = (size is 0 else Framing) ∷ (highest at_most 2 ^ 64 - 2 else Bound) ∷ []

-- and of blocks of messages
abbrev pub blocks_checks : (first count : ℕ) → List ℕ → List Check
blocks_checks first count blocks =
    (is_whole (cut count blocks) else Framing)
    ∷ (not (first is 0) else Absent)
    ∷ (not (count is 0) else Absent)
    ∷ (first + count at_most 2 ^ 64 - 1 else Bound)
    ∷ []

-- a sum is its first part exactly if the second is 0
pub same_size : (a n : ℕ) → (a + n is a) ≡ (n is 0)
same_size a n =
    by-test (n is 0)
    (λ e. let z = eqb-true n 0 e in eq-eqb (a + n) a (omega arith) ∙ sym e)
    (λ e. let z = eqb-false n 0 e in ne_eqb (a + n) a (λ q. z (omega arith)) ∙ sym e)

module _ (kind session number : ℕ) (extra follows : List ℕ) where
  pub headed-verdict : let d = headed kind session number extra follows in
      read d ≡ checked (headed_checks kind extra (length follows)) (if kind is 2 then read_messages d else read_news kind d)
  unfolding read
  headed-verdict =
      let n = header_size + length extra + length follows in
      rw (
        length-headed,
        kind-headed,
        header-headed,
        ne_eqb n 0 (λ e. omega arith),
        le-leb header_size n (omega arith),
        le-leb header_size (header_size + length extra) (omega arith),
      )

  pub news-verdict : session < 2 ^ 64 → number < 2 ^ 64 → (kind is 2) ≡ false
      → read (headed kind session number extra follows) ≡ checked
      (headed_checks kind extra (length follows) ++ rest_checks number (length follows)) (taken (news kind session number extra))
  unfolding read_news
  news-verdict s h k =
      rw (
        headed-verdict,
        k,
        extra-headed,
        length-headed,
        header-headed,
        session-headed kind session number extra follows s,
        number-headed kind session number extra follows h,
        same_size (header_size + length extra) (length follows),
      )

module _ (session first count : ℕ) (extra blocks : List ℕ) (s : session < 2 ^ 64) (f : first < 2 ^ 64) (c : count < 2 ^ 16) where
  pub laid-verdict : read (laid session first count extra blocks)
      ≡ checked (headed_checks 2 extra (2 + length blocks) ++ blocks_checks first count blocks)
      (taken (messages session first extra (messages_of (cut count blocks))))
  unfolding read_messages
  laid-verdict =
      let follows = bytes_of 2 count ++ blocks in
      let d = headed 2 session first extra follows in
      let size : length follows ≡ 2 + length blocks = rw (length-append, length-bytes_of) in
      let l = length-laid session first count extra blocks in
      let h = header-headed 2 session first extra follows in
      rw (
        headed-verdict 2 session first extra follows,
        size,
        extra-headed,
        session-headed 2 session first extra follows s,
        number-headed 2 session first extra follows f,
        count-laid session first count extra blocks c,
        blocks-laid,
        le-leb (blocks_at d) (length d) (omega arith),
      )
