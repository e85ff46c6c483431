-- The limit: a packet of more than 8,972 bytes is 2, whatever it says, and the longest message, of 8,950, fills one.
-- Assumes nothing.
use Prim.Native.Nat.{ℕ, ◌+◌, ◌-◌, ◌^◌, ◌≤◌, ◌<◌}
use mathlib.Core.Path.{◌≡◌, refl}
use mathlib.Core.List.{List, [], ◌∷◌}
use native.Mathlib.Omega.{arith}
use borrow.Author.Tests.{lt-leb, ne_eqb}
use lib.ListN.{length}
use Rattle.wire.specs.Fields.{Bytes}
use Rattle.wire.specs.Checks.{refused, taken}
use Rattle.wire.specs.declared.refusal.Refusal.TheVariants.{Overlong}
use Rattle.blocks.proofs.Frames.{length-one}
use Rattle.memx.specs.Packet.{messages, limit, header_size, write}
use Rattle.memx.specs.Read.{read}
use Rattle.memx.proofs.Header.{length-laid}
use Rattle.memx.proofs.Exact.{written-is-read}

-- a header, the count, a block's length and the longest message
pub longest-fills-a-packet : limit ≡ header_size + 2 + 2 + 8950
longest-fills-a-packet = refl

pub overlong-is-2 : (d : List ℕ) → limit < length d → read d ≡ refused Overlong
unfolding read
overlong-is-2 d h = rw (ne_eqb (length d) 0 (λ e. omega arith), lt-leb (length d) limit h)

-- a packet of one message
module _ (session first : ℕ) (m : List ℕ) where
  size : length (write (messages session first [] (m ∷ []))) ≡ header_size + 2 + 2 + length m
  unfolding write
  size = rw (length-laid, length-one) (omega arith)

  pub longest-taken : session < 2 ^ 64 → 1 ≤ first → first + 1 ≤ 2 ^ 64 - 1 → Bytes m → length m ≤ 8950
      → read (write (messages session first [] (m ∷ []))) ≡ taken (messages session first [] (m ∷ []))
  longest-taken s f b bytes l =
      let n = size in
      written-is-read (messages session first [] (m ∷ []))
      (record {
        session = s;
        numbered = f;
        some = omega arith;
        bound = b;
        extra = record { few = omega arith; bytes = λ i. omega arith };
        bytes = (bytes, tt);
        size = omega arith;
      })

  pub one-byte-longer : 8950 < length m → read (write (messages session first [] (m ∷ []))) ≡ refused Overlong
  one-byte-longer l = let n = size in overlong-is-2 (write (messages session first [] (m ∷ []))) (omega arith)
