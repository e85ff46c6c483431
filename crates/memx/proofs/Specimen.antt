-- The paper's example and the specimens of document 01, byte by byte.
-- Assumes nothing.
use Prim.Native.Nat.{ℕ}
use mathlib.Core.Path.{◌≡◌, refl}
use mathlib.Core.List.{List, [], ◌∷◌, ◌++◌}
use lib.ListN.{length}
use Rattle.wire.specs.Fields.{be}
use Rattle.wire.specs.Checks.{refused, taken}
use Rattle.wire.specs.declared.refusal.Refusal.TheVariants.{Framing, Form}
use Rattle.blocks.specs.Blocks.{cut}
use Rattle.memx.specs.Packet.{heartbeat, messages}
use Rattle.memx.specs.Read.{read_news, read_messages, read}

-- The Quick Brown Fox
abbrev fox : List ℕ
fox = 84 ∷ 104 ∷ 101 ∷ 32 ∷ 81 ∷ 117 ∷ 105 ∷ 99 ∷ 107 ∷ 32 ∷ 66 ∷ 114 ∷ 111 ∷ 119 ∷ 110 ∷ 32 ∷ 70 ∷ 111 ∷ 120 ∷ []

-- Jumped Over the Lazy Dog
abbrev dog : List ℕ
dog =
    74 ∷ 117 ∷ 109 ∷ 112 ∷ 101 ∷ 100 ∷ 32 ∷ 79 ∷ 118 ∷ 101 ∷ 114 ∷ 32
    ∷ 116 ∷ 104 ∷ 101 ∷ 32 ∷ 76 ∷ 97 ∷ 122 ∷ 121 ∷ 32 ∷ 68 ∷ 111 ∷ 103 ∷ []

-- eight bytes that spell a small number
abbrev eight : ℕ → List ℕ
eight n = 0 ∷ 0 ∷ 0 ∷ 0 ∷ 0 ∷ 0 ∷ 0 ∷ n ∷ []

-- two messages from 6 on. The paper leaves the session open: here it is 1
abbrev example : List ℕ
example = 2 ∷ 18 ∷ eight 1 ++ eight 6 ++ 0 ∷ 2 ∷ 0 ∷ 19 ∷ fox ++ 0 ∷ 24 ∷ dog

pub example-length : length example ≡ 67
example-length = refl

pub example-read : read example ≡ taken (messages 1 6 [] (fox ∷ dog ∷ []))
unfolding read read_messages be cut
example-read = refl

pub one-byte-more : read (example ++ 0 ∷ []) ≡ refused Framing
unfolding read read_messages be cut
one-byte-more = refl

pub heartbeat-zero : read (0 ∷ 18 ∷ eight 1 ++ eight 0) ≡ taken (heartbeat 1 0 [])
unfolding read read_news be
heartbeat-zero = refl

pub header-short : read (0 ∷ 17 ∷ eight 1 ++ eight 0) ≡ refused Form
unfolding read read_news be
header-short = refl

-- a header of 19 bytes: the last is skipped, and the count follows it
pub one-skipped : read (2 ∷ 19 ∷ eight 1 ++ eight 6 ++ 171 ∷ 0 ∷ 1 ∷ 0 ∷ 2 ∷ 72 ∷ 73 ∷ [])
    ≡ taken (messages 1 6 (171 ∷ []) ((72 ∷ 73 ∷ []) ∷ []))
unfolding read read_messages be cut
one-skipped = refl

pub header-past-the-end : read (0 ∷ 19 ∷ eight 1 ++ eight 0) ≡ refused Framing
unfolding read read_news be
header-past-the-end = refl
