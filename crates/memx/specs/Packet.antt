-- MEMX-UDP's packets as the paper has them: what they hold, how they are laid out, which are lawful.
-- Assumes nothing.
use Rattle.std.specs.Prelude.{ℕ, ◌+◌, ◌-◌, ◌^◌, ◌≤◌, ◌<◌, List, [], ◌∷◌, ◌++◌, length}
use Rattle.wire.specs.Fields.{bytes_of, Bytes}
use Rattle.blocks.specs.Blocks.{frames, Each}

-- the highest number published, 0 if none; or messages, numbered from the first on. `extra` are the header's bytes past its own fields
pub data Packet : Type 0 where
  heartbeat : (session highest : ℕ) (extra : List ℕ) → Packet
  shutdown : (session highest : ℕ) (extra : List ℕ) → Packet
  messages : (session first : ℕ) (extra : List ℕ) (ms : List (List ℕ)) → Packet

-- its extra bytes, and the packet without them
abbrev pub extra_of : Packet → List ℕ
extra_of (heartbeat session highest extra) = extra
extra_of (shutdown session highest extra) = extra
extra_of (messages session first extra ms) = extra

abbrev pub plain : Packet → Packet
plain (heartbeat session highest extra) = heartbeat session highest []
plain (shutdown session highest extra) = shutdown session highest []
plain (messages session first extra ms) = messages session first [] ms

-- the most bytes that a packet may have: a frame of 9,000 less 28 for the headers around it; Limits has the longest message that goes in
abbrev pub limit : ℕ
limit = 8972

-- the bytes of the header's own fields
abbrev pub header_size : ℕ
header_size = 18

-- the header, which says how long it is, and what follows it
unfoldable pub headed : (kind session number : ℕ) (extra follows : List ℕ) → List ℕ
headed kind session number extra follows =
    kind ∷ (header_size + length extra) ∷ (bytes_of 8 session ++ (bytes_of 8 number ++ (extra ++ follows)))

-- messages that stand as blocks already; Specimen reads the paper's own example
abbrev pub laid : (session first count : ℕ) (extra blocks : List ℕ) → List ℕ
laid session first count extra blocks = headed 2 session first extra (bytes_of 2 count ++ blocks)

unfoldable pub write : Packet → List ℕ
write (heartbeat session highest extra) = headed 0 session highest extra []
write (shutdown session highest extra) = headed 1 session highest extra []
write (messages session first extra ms) = laid session first (length ms) extra (frames ms)

-- a header's length is one byte, which leaves at most 237 for the extra ones
pub record FitExtra (extra : List ℕ) : Type 0 where
  pub few : length extra ≤ 237
  pub bytes : Bytes extra

-- the lawful packets: a heartbeat or shutdown, and messages; Exact shows that these are taken, and no others
pub record FitNews (s h : ℕ) (x : List ℕ) : Type 0 where
  pub session : s < 2 ^ 64
  pub bound : h ≤ 2 ^ 64 - 2
  pub extra : FitExtra x

pub record FitMessages (s f : ℕ) (x : List ℕ) (ms : List (List ℕ)) : Type 0 where
  pub session : s < 2 ^ 64
  pub numbered : 1 ≤ f
  pub some : 1 ≤ length ms
  pub bound : f + length ms ≤ 2 ^ 64 - 1
  pub extra : FitExtra x
  pub bytes : Each Bytes ms
  pub size : length (write (messages s f x ms)) ≤ limit

abbrev pub Fit : Packet → Type 0
Fit (heartbeat session highest extra) = FitNews session highest extra
Fit (shutdown session highest extra) = FitNews session highest extra
Fit (messages session first extra ms) = FitMessages session first extra ms
