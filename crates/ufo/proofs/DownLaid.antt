-- What the reader says of a packet that was laid out: the checks of its fields, in the reader's order.
-- Assumes nothing.
use Prim.Native.Nat.{ℕ, ◌+◌, ◌-◌, ◌^◌, ◌<◌}
use mathlib.Core.Path.{◌≡◌, refl}
use mathlib.Core.List.{List, [], ◌∷◌, ◌++◌}
use mathlib.Core.Bool.{not, ◌||◌}
use native.Mathlib.Omega.{arith}
use borrow.Author.Tests.{le-leb, ne_eqb}
use lib.ListN.{length, set, length-append}
use lib.Seq.{take_at, drop_at, sets}
use Rattle.wire.specs.Fields.{bytes_of}
use Rattle.wire.specs.Checks.{◌is◌, ◌at_most◌, Check, ◌else◌, checked, taken}
use Rattle.text.specs.Text.{blank, text_then_spaces}
use Rattle.wire.specs.Datagram.{limit}
use Rattle.wire.specs.declared.refusal.Refusal.TheVariants.{Overlong, Framing, Form, Absent, Bound}
use Rattle.wire.proofs.Width.{be-bytes_of, be-last, length-bytes_of}
use Rattle.blocks.specs.Blocks.{cut, is_whole, messages_of}
use Rattle.ufo.specs.Down.{accept, reject, messages, end, laid, write, read_a, read_j, read_s, read_e, read}

abbrev pub of_accept : List ℕ → ℕ → List Check
of_accept session next =
    (text_then_spaces session else Form)
    ∷ (not (blank session) else Absent)
    ∷ (not (next is 0) else Absent)
    ∷ (next at_most 2 ^ 32 - 1 else Bound)
    ∷ []

abbrev pub of_reject : ℕ → List Check
of_reject reason = (reason is 65 || reason is 83 else Form) ∷ []

abbrev pub of_messages : ℕ → ℕ → List ℕ → List Check
of_messages first count blocks =
    (7 + length blocks at_most limit else Overlong)
    ∷ (is_whole (cut count blocks) else Framing)
    ∷ (not (first is 0) else Absent)
    ∷ (first + count at_most 2 ^ 32 - 1 else Bound)
    ∷ []

abbrev pub of_end : ℕ → List Check
of_end total = (total at_most 2 ^ 32 - 2 else Bound) ∷ []

pub length-laid : (first count : ℕ) (blocks : List ℕ) → length (laid first count blocks) ≡ 7 + length blocks
length-laid first count blocks = simp (length-append, length-bytes_of) (omega arith)

-- the fields and the blocks, stored one after the other, are the packet
pub laid-stored : (first count : ℕ) (blocks out : List ℕ)
    → sets (sets (sets (set out 0 83) 1 (bytes_of 4 first)) 5 (bytes_of 2 count)) 7 blocks ≡ sets out 0 (laid first count blocks)
unfolding bytes_of
laid-stored first count blocks out = refl

pub laid-accept : (session : List ℕ) (next : ℕ) → length session ≡ 10 → next < 2 ^ 32
    → read (write (accept session next)) ≡ checked (of_accept session next) (taken (accept session next))
unfolding read read_a
laid-accept session next l h =
    let t = bytes_of 4 next in
    let n : length (session ++ t) ≡ 14 = rw (length-append, length-bytes_of, l) in
    rw (n, take_at session t 10 l, drop_at session t 10 l, be-last 4 next h, le-leb next (2 ^ 32 - 1) (omega arith))

pub laid-reject : (reason : ℕ) → read (write (reject reason)) ≡ checked (of_reject reason) (taken (reject reason))
unfolding read read_j
laid-reject reason = refl

pub laid-messages : (first count : ℕ) (blocks : List ℕ) → first < 2 ^ 32 → count < 2 ^ 16
    → read (laid first count blocks) ≡ checked (of_messages first count blocks) (taken (messages first (messages_of (cut count blocks))))
unfolding read read_s bytes_of
laid-messages first count blocks h k =
    rw (
      length-laid first count blocks,
      ne_eqb (7 + length blocks) 0 (λ e. omega arith),
      le-leb 7 (7 + length blocks) (omega arith),
      be-bytes_of 4 first (bytes_of 2 count ++ blocks) h,
      be-bytes_of 2 count blocks k,
    )

pub laid_end : (total : ℕ) → total < 2 ^ 32 → read (write (end total)) ≡ checked (of_end total) (taken (end total))
unfolding read read_e
laid_end total h = rw (length-bytes_of 4 total, be-last 4 total h)
