-- Delivering: the bytes of a packet's own blocks from N on, and behind them what is released.
-- Assumes nothing.
use Rattle.std.specs.Prelude.{ℕ, ◌≡◌, List, ◌++◌, length, drop}
use Rattle.wire.specs.Checks.{Verdict, taken, ◌into◌, ◌told_by◌}
use Rattle.wire.specs.Reply.{Reply, left_of, within}
use Rattle.blocks.specs.Blocks.{frames, place_after}
use Rattle.held.specs.Releasing.{releasing}
use Rattle.held.specs.declared.releasing.Released.{Released}

-- the bytes of the blocks from p on without the first k, into a room
abbrev pub handed_own : ℕ → List ℕ → ℕ → ℕ → Reply
handed_own k s p room = place_after k s p into λ q. within room (drop q s)

-- what is handed over where messages are held: the bytes of the packet's own blocks, and what is released behind them
pub record Given : Type 0 where
  pub own : List ℕ
  pub released : List (List ℕ)

-- the blocks from p on without the first k, and what is held from number m on, into a room; HandingOver.hands-others: whose blocks
abbrev pub handed : ℕ → List ℕ → ℕ → (held : ℕ) → List ℕ → (m room : ℕ) → Verdict Given
handed k s p held area m room =
    place_after k s p into λ q.
    releasing held area m (length (drop q s)) room into λ ms. taken (record { own = drop q s; released = ms })

abbrev pub given_bytes : Given → List ℕ
given_bytes g = g.own ++ frames g.released

-- how many are released, and the bytes of all that is handed over
abbrev pub handed_of : Given → Released
handed_of g = record { messages = length g.released; bytes = length (given_bytes g) }

-- the answer r and the bytes left are those of the verdict
pub record Handed (verdict : Verdict Given) (out : List ℕ) (r : Verdict Released) (left : List ℕ) : Type 0 where
  pub answer : r ≡ verdict told_by handed_of
  pub bytes : left ≡ left_of (verdict into λ g. taken (given_bytes g)) out
