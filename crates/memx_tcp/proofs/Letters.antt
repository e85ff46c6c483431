-- The letters that the paper's tables list are taken in their types, every other letter is refused Form, and no other type has a letter.
-- Assumes nothing.
use Rattle.std.specs.Prelude.{if◌then◌else◌}
use Prim.Native.Nat.{ℕ, ◌+◌, ◌*◌, ◌/◌, ◌%◌, ◌<◌}
use mathlib.Core.Path.{◌≡◌, refl, sym, ap}
use mathlib.Core.Logic.{inl, inr}
use mathlib.Core.List.{List, [], ◌∷◌}
use mathlib.Core.Bool.{Bool, true, not, ◌&&◌, ◌||◌, or-true, true≢false}
use native.Mathlib.Omega.{arith}
use borrow.Author.Tests.{eq-eqb}
use types.Run.{OneOf}
use lib.ListN.{get_or, drop}
use Rattle.wire.specs.Fields.{be, bytes_of}
use Rattle.wire.specs.Checks.{◌is◌, refused, taken, Check, checked}
use Rattle.wire.specs.Refusals.{number_of}
use Rattle.wire.specs.declared.refusal.Refusal.{Refusal}
use Rattle.wire.specs.declared.refusal.Refusal.TheVariants.{Form}
use Rattle.wire.proofs.Checks.{refused-same}
use Rattle.wire.proofs.Tests.{by-test, and_left, and_right, impossible}
use Rattle.memx_tcp.specs.Layout.{Row, ◌is_one_of◌, lettered, known, fields_of, most_of, size}
use Rattle.memx_tcp.specs.Packet.{header_size, laid, write, each}
use Rattle.memx_tcp.specs.Read.{kind_in, values_in, framed, packet_in, checks, read}
use Rattle.memx_tcp.specs.Reading.{fields}
use Rattle.memx_tcp.specs.Writing.{values_of, packet_of, reply}
use Rattle.memx_tcp.proofs.Every.{missed, otherwise}

-- ---- the types that have a letter

-- what the reader says to a letter alone behind its header: one of some letters is taken, any other refused; and the writer refuses it too
module _ (b : ℕ) where
  pub record Only (kind : ℕ) (letters : List ℕ) : Type 0 where
    pub takes : OneOf letters b → read (kind ∷ 0 ∷ 1 ∷ b ∷ []) ≡ taken (record { kind = kind; values = b ∷ []; tail = [] })
    pub refuses : (OneOf letters b → ⊥) → read (kind ∷ 0 ∷ 1 ∷ b ∷ []) ≡ refused Form
    pub unwritten : b < 256 → (OneOf letters b → ⊥) → (c s n t room : ℕ) → reply (fields kind b c s n t) [] room ≡ refused Form

  abbrev Says : ℕ → List ℕ → Type 0
  Says kind letters = read (kind ∷ 0 ∷ 1 ∷ b ∷ []) ≡
      (if b is_one_of letters && true then taken (record { kind = kind; values = b ∷ []; tail = [] }) else refused Form)

  listed : (letters : List ℕ) → OneOf letters b → b is_one_of letters ≡ true
  listed [] e = absurd e
  listed (m ∷ []) e = rw (eq-eqb b m e)
  listed (m ∷ n ∷ letters) (inl e) = rw (eq-eqb b m e)
  listed (m ∷ n ∷ letters) (inr e) = rw (listed (n ∷ letters) e) (or-true (b is m))

  abbrev Lays : ℕ → Type 0
  Lays kind = b < 256 → (c s n t : ℕ) → write (packet_of (fields kind b c s n t) []) ≡ kind ∷ 0 ∷ 1 ∷ b ∷ []

  only : (kind : ℕ) (letters : List ℕ) → Says kind letters → Lays kind → Only kind letters
  only kind letters says lays = record {
    takes = λ e. rw (says, listed letters e);
    refuses = λ e. rw (says, missed letters b e);
    unwritten = λ h e c s n t room. rw (lays h c s n t, says, missed letters b e);
  }

  -- the number that one byte spells, and the byte that spells it
  one_byte : b * 1 + 0 ≡ b
  one_byte = omega arith

  same_byte : b < 256 → b / 1 % 256 ≡ b
  same_byte h = omega arith

  -- login accepted: S R T; login rejected: T U V A; replay rejected: R A P S; stream rejected: R P S; login: P
  pub papers-letters :
      Only 1 (83 ∷ 82 ∷ 84 ∷ [])
      × Only 2 (84 ∷ 85 ∷ 86 ∷ 65 ∷ [])
      × Only 6 (82 ∷ 65 ∷ 80 ∷ 83 ∷ [])
      × Only 9 (82 ∷ 80 ∷ 83 ∷ [])
      × Only 100 (80 ∷ [])
  unfolding read write framed be bytes_of known fields_of most_of size each laid values_in values_of
  papers-letters = (
    only 1 _ (rw one_byte) (λ h c s n t. rw (same_byte h)),
    only 2 _ (rw one_byte) (λ h c s n t. rw (same_byte h)),
    only 6 _ (rw one_byte) (λ h c s n t. rw (same_byte h)),
    only 9 _ (rw one_byte) (λ h c s n t. rw (same_byte h)),
    only 100 _ (rw one_byte) (λ h c s n t. rw (same_byte h)),
  )

-- ---- the others

-- a list in which no check can fail that refuses so
abbrev pub spared : Refusal → List Check → Bool
spared why [] = true
spared why (c ∷ cs) = (not (number_of c.why is number_of why) || c.test) && spared why cs

-- does not refuse so
pub never-refused : {A : Type 0} (why : Refusal) (cs : List Check) (a : A) → spared why cs ≡ true → checked cs (taken a) ≡ refused why → ⊥
never-refused why [] a s e = impossible cc
never-refused why (c ∷ cs) a s e =
    let here = not (number_of c.why is number_of why) || c.test in
    by-test c.test
    (λ q. never-refused why cs a (and_right here (spared why cs) s) (rw q at e))
    (λ q.
    let same : c.why ≡ why = refused-same c.why why (rw q at e) in
    let m : number_of c.why ≡ number_of why = ap number_of same in
    true≢false (sym (rw (eq-eqb (number_of c.why) (number_of why) m, q) at (and_left here (spared why cs) s))))

-- a packet of any other type is never refused for a letter
pub no-letter-elsewhere : (d : List ℕ) → (OneOf (1 ∷ 2 ∷ 6 ∷ 9 ∷ 100 ∷ []) (get_or d 0 0) → ⊥) → read d ≡ refused Form → ⊥
unfolding read fields_of each values_in
no-letter-elsewhere d h =
    let test : Row → Bool = λ r. each lettered r.fields (values_in r.fields (drop header_size d)) in
    let l = otherwise test ((1 ∷ 2 ∷ 6 ∷ 9 ∷ 100 ∷ []) ∷ []) refl (λ k. refl) (kind_in d) (tt, h) in
    never-refused Form (checks d) (packet_in d) (rw l)
