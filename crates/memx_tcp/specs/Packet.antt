-- A MEMX-TCP packet: what it holds, how it is laid out, which are lawful.
-- Assumes nothing.
use Rattle.std.specs.Prelude.{ℕ, ◌+◌, ◌-◌, ◌*◌, ◌^◌, ◌≤◌, ◌<◌, ◌≡◌, List, [], ◌∷◌, ◌++◌, Bool, true, ◌&&◌, length}
use Rattle.wire.specs.Fields.{bytes_of, Bytes}
use Rattle.memx_tcp.specs.Layout.{Field, width, lettered, numbered, known, fields_of, most_of}

-- the type, a value for each of its fields, and the bytes after them
pub record Packet : Type 0 where
  pub kind : ℕ
  pub values : List ℕ
  pub tail : List ℕ

-- the bytes of the header: the type, and in two bytes how many follow
abbrev pub header_size : ℕ
header_size = 3

-- the most bytes that a packet may have: those of the header, and as many more as it can say
abbrev pub limit : ℕ
limit = header_size + (2 ^ 16 - 1)

-- the header, and what follows it
abbrev pub headed : ℕ → List ℕ → List ℕ
headed kind follows = kind ∷ (bytes_of 2 (length follows) ++ follows)

-- values side by side, each in its field's bytes
unfoldable pub laid : List Field → List ℕ → List ℕ
laid [] vs = []
laid (f ∷ fs) [] = []
laid (f ∷ fs) (v ∷ vs) = bytes_of (width f) v ++ laid fs vs

unfoldable pub write : Packet → List ℕ
write p = headed p.kind (laid (fields_of p.kind) p.values ++ p.tail)

-- as many values as fields, and each has room in its field
unfoldable pub Sized : List Field → List ℕ → Type 0
Sized [] [] = Unit
Sized [] (v ∷ vs) = ⊥
Sized (f ∷ fs) [] = ⊥
Sized (f ∷ fs) (v ∷ vs) = (v < 2 ^ (8 * width f)) × Sized fs vs

-- each value passes its field's test
unfoldable pub each : (Field → ℕ → Bool) → List Field → List ℕ → Bool
each test [] vs = true
each test (f ∷ fs) [] = true
each test (f ∷ fs) (v ∷ vs) = test f v && each test fs vs

-- the lawful packets; Exact shows that these are taken, and no others
pub record Fit (p : Packet) : Type 0 where
  pub type : known p.kind ≡ true
  pub sizes : Sized (fields_of p.kind) p.values
  pub letters : each lettered (fields_of p.kind) p.values ≡ true
  pub numbers : each numbered (fields_of p.kind) p.values ≡ true
  pub bound : length p.tail ≤ most_of p.kind
  pub bytes : Bytes p.tail
