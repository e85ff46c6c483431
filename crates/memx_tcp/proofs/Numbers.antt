-- Every count, session and number that its bytes can spell is taken, but a next number of 0, refused Absent: in 5, 8 and 101 alone.
-- Assumes nothing.
use Prim.Native.Nat.{ℕ, ◌^◌, ◌<◌}
use mathlib.Core.Path.{◌≡◌, refl}
use mathlib.Core.List.{List, [], ◌∷◌, ◌++◌}
use mathlib.Core.Bool.{Bool}
use native.Mathlib.Omega.{arith}
use types.Run.{OneOf}
use lib.ListN.{get_or, drop}
use Rattle.wire.specs.Fields.{bytes_of}
use Rattle.wire.specs.Checks.{refused, taken}
use Rattle.wire.specs.declared.refusal.Refusal.TheVariants.{Absent}
use Rattle.wire.proofs.Tests.{not-zero}
use Rattle.memx_tcp.specs.Layout.{Row, numbered, known, fields_of, most_of, size}
use Rattle.memx_tcp.specs.Packet.{Packet, header_size, laid, write, Sized, each}
use Rattle.memx_tcp.specs.Read.{kind_in, values_in, packet_in, checks, read}
use Rattle.memx_tcp.proofs.Every.{otherwise}
use Rattle.memx_tcp.proofs.Verdicts.{written-verdict}
use Rattle.memx_tcp.proofs.Letters.{never-refused}

abbrev packet : ℕ → List ℕ → Packet
packet kind values = record { kind = kind; values = values; tail = [] }

-- a packet of these bytes is taken with these values; is refused for a number
abbrev Takes : ℕ → List ℕ → List ℕ → Type 0
Takes kind follows values = read (kind ∷ follows) ≡ taken (packet kind values)

abbrev Refuses : ℕ → List ℕ → Type 0
Refuses kind follows = read (kind ∷ follows) ≡ refused Absent

-- a count, a session, the highest number, and a number
module _ (c s t : ℕ) (hc : c < 2 ^ 32) (hs : s < 2 ^ 64) (ht : t < 2 ^ 64) where
  pub every-count-and-session :
      Takes 3 (0 ∷ 8 ∷ bytes_of 8 s) (s ∷ [])
      × Takes 7 (0 ∷ 4 ∷ bytes_of 4 c) (c ∷ [])
      × Takes 102 (0 ∷ 8 ∷ bytes_of 8 s) (s ∷ [])
  unfolding write laid bytes_of known fields_of most_of size each Sized
  every-count-and-session = (
    written-verdict (packet 3 (s ∷ [])) (hs, tt),
    written-verdict (packet 7 (c ∷ [])) (hc, tt),
    written-verdict (packet 102 (s ∷ [])) (hs, tt),
  )

  pub every-number : (n : ℕ) → 0 < n → n < 2 ^ 64 →
      Takes 5 (0 ∷ 12 ∷ bytes_of 8 n ++ bytes_of 4 c) (n ∷ c ∷ [])
      × Takes 8 (0 ∷ 16 ∷ bytes_of 8 n ++ bytes_of 8 t) (n ∷ t ∷ [])
      × Takes 10 (0 ∷ 8 ∷ bytes_of 8 n) (n ∷ [])
      × Takes 101 (0 ∷ 20 ∷ bytes_of 8 s ++ bytes_of 8 n ++ bytes_of 4 c) (s ∷ n ∷ c ∷ [])
      × Takes 103 (0 ∷ 16 ∷ bytes_of 8 s ++ bytes_of 8 n) (s ∷ n ∷ [])
  unfolding write laid bytes_of known fields_of most_of size each Sized
  every-number n z hn = (
    rw (written-verdict (packet 5 (n ∷ c ∷ [])) (hn, (hc, tt)), not-zero n z),
    rw (written-verdict (packet 8 (n ∷ t ∷ [])) (hn, (ht, tt)), not-zero n z),
    written-verdict (packet 10 (n ∷ [])) (hn, tt),
    rw (written-verdict (packet 101 (s ∷ n ∷ c ∷ [])) (hs, (hn, (hc, tt))), not-zero n z),
    written-verdict (packet 103 (s ∷ n ∷ [])) (hs, (hn, tt)),
  )

  -- a number of 0
  abbrev nought : List ℕ
  nought = 0 ∷ 0 ∷ 0 ∷ 0 ∷ 0 ∷ 0 ∷ 0 ∷ 0 ∷ []

  pub nought-is-no-next-number :
      Refuses 5 (0 ∷ 12 ∷ nought ++ bytes_of 4 c)
      × Refuses 8 (0 ∷ 16 ∷ nought ++ bytes_of 8 t)
      × Refuses 101 (0 ∷ 20 ∷ bytes_of 8 s ++ nought ++ bytes_of 4 c)
      × Takes 10 (0 ∷ 8 ∷ nought) (0 ∷ [])
      × Takes 103 (0 ∷ 16 ∷ bytes_of 8 s ++ nought) (s ∷ 0 ∷ [])
  unfolding write laid bytes_of known fields_of most_of size each Sized
  nought-is-no-next-number =
      let z : 0 < 2 ^ 64 = omega arith in (
        written-verdict (packet 5 (0 ∷ c ∷ [])) (z, (hc, tt)),
        written-verdict (packet 8 (0 ∷ t ∷ [])) (z, (ht, tt)),
        written-verdict (packet 101 (s ∷ 0 ∷ c ∷ [])) (hs, (z, (hc, tt))),
        written-verdict (packet 10 (0 ∷ [])) (z, tt),
        written-verdict (packet 103 (s ∷ 0 ∷ [])) (hs, (z, tt)),
      )

-- a packet of any other type is never refused for a number
pub no-number-elsewhere : (d : List ℕ) → (OneOf (5 ∷ 8 ∷ 101 ∷ []) (get_or d 0 0) → ⊥) → read d ≡ refused Absent → ⊥
unfolding read fields_of each values_in
no-number-elsewhere d h =
    let test : Row → Bool = λ r. each numbered r.fields (values_in r.fields (drop header_size d)) in
    let l = otherwise test ((5 ∷ 8 ∷ 101 ∷ []) ∷ []) refl (λ k. refl) (kind_in d) (tt, h) in
    never-refused Absent (checks d) (packet_in d) (rw l)
