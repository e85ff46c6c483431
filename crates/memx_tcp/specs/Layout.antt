-- MEMX-TCP's messages as the paper's tables have them: the fields of each type, in their order.
-- Assumes nothing.
use Rattle.std.specs.Prelude.{ℕ, ◌+◌, List, [], ◌∷◌, Bool, true, false, not, ◌||◌, if◌then◌else◌}
use Rattle.wire.specs.Checks.{◌is◌}

infix 20 ◌has◌then_up_to◌
infix 40 ◌is_one_of◌
-- a letter out of some, a count of messages, a session, a next number that is not 0, a number, the highest number published
pub data Field : Type 0 where
  letter : List ℕ → Field
  count : Field
  session : Field
  next : Field
  number : Field
  top : Field

-- its bytes
abbrev pub width : Field → ℕ
width (letter set) = 1
width count = 4
width session = 8
width next = 8
width number = 8
width top = 8

-- a letter stands in its table
abbrev pub ◌is_one_of◌ : ℕ → List ℕ → Bool
n is_one_of [] = false
n is_one_of (m ∷ set) = n is m || n is_one_of set

abbrev pub lettered : Field → ℕ → Bool
lettered (letter set) v = v is_one_of set
lettered count v = true
lettered session v = true
lettered next v = true
lettered number v = true
lettered top v = true

-- a next number is not 0
abbrev pub numbered : Field → ℕ → Bool
numbered (letter set) v = true
numbered count v = true
numbered session v = true
numbered next v = not (v is 0)
numbered number v = true
numbered top v = true

-- S R T
abbrev modes : List ℕ
modes = 83 ∷ 82 ∷ 84 ∷ []

-- T U V A
abbrev login_rejects : List ℕ
login_rejects = 84 ∷ 85 ∷ 86 ∷ 65 ∷ []

-- R A P S
abbrev replay_rejects : List ℕ
replay_rejects = 82 ∷ 65 ∷ 80 ∷ 83 ∷ []

-- R P S
abbrev stream_rejects : List ℕ
stream_rejects = 82 ∷ 80 ∷ 83 ∷ []

-- P
abbrev token_types : List ℕ
token_types = 80 ∷ []

-- a type, its fields, and the most bytes that may follow them: a token or a payload
pub record Row : Type 0 where
  pub kind : ℕ
  pub fields : List Field
  pub most : ℕ

abbrev ◌has◌then_up_to◌ : ℕ → List Field → ℕ → Row
kind has fields then_up_to most = record { kind = kind; fields = fields; most = most }

-- heartbeat; login accepted, login rejected; start and end of session; replay begin, rejected, complete; stream begin, rejected, complete;
-- sequenced message; then the client's: login, replay, replay all, stream, unsequenced message. Specimen reads a packet of each
abbrev pub table : List Row
table =
    (0 has [] then_up_to 0)
    ∷ (1 has (letter modes ∷ []) then_up_to 0)
    ∷ (2 has (letter login_rejects ∷ []) then_up_to 0)
    ∷ (3 has (session ∷ []) then_up_to 0)
    ∷ (4 has [] then_up_to 0)
    ∷ (5 has (next ∷ count ∷ []) then_up_to 0)
    ∷ (6 has (letter replay_rejects ∷ []) then_up_to 0)
    ∷ (7 has (count ∷ []) then_up_to 0)
    ∷ (8 has (next ∷ top ∷ []) then_up_to 0)
    ∷ (9 has (letter stream_rejects ∷ []) then_up_to 0)
    ∷ (10 has (number ∷ []) then_up_to 0)
    ∷ (11 has [] then_up_to 65535)
    ∷ (100 has (letter token_types ∷ []) then_up_to 255)
    ∷ (101 has (session ∷ next ∷ count ∷ []) then_up_to 0)
    ∷ (102 has (session ∷ []) then_up_to 0)
    ∷ (103 has (session ∷ number ∷ []) then_up_to 0)
    ∷ (104 has [] then_up_to 65535)
    ∷ []

-- the row of a type; a type that is none has nothing
abbrev pub row_in : List Row → ℕ → Row
row_in [] kind = kind has [] then_up_to 0
row_in (r ∷ rows) kind = if kind is r.kind then r else row_in rows kind

abbrev pub known_in : List Row → ℕ → Bool
known_in [] kind = false
known_in (r ∷ rows) kind = kind is r.kind || known_in rows kind

unfoldable pub known : ℕ → Bool
known kind = known_in table kind

unfoldable pub fields_of : ℕ → List Field
fields_of kind = (row_in table kind).fields

unfoldable pub most_of : ℕ → ℕ
most_of kind = (row_in table kind).most

-- the bytes of some fields
unfoldable pub size : List Field → ℕ
size [] = 0
size (f ∷ fs) = width f + size fs
