-- The refusals stand in their order: of a call 10, then 4; of a packet whose turn it is not 16, then 7; and the reader's come before them.
-- Assumes nothing.
use Prim.Native.Nat.{ℕ}
use mathlib.Core.Path.{◌≡◌, refl}
use mathlib.Core.Bool.{true, false}
use mathlib.Core.List.{List, [], ◌∷◌}
use Rattle.wire.specs.Checks.{refused, in_order}
use Rattle.wire.specs.declared.refusal.Refusal.{Refusal}
use Rattle.wire.specs.declared.refusal.Refusal.TheVariants.{Broken}
use Rattle.soup.specs.Read.{read}
use Rattle.soup_pieces.specs.Machine.{Role, begins, counted, neither, turn_checks, judge}
use Rattle.soup_pieces.specs.Eating.{ready, call_checks, eating}
use Rattle.soup_pieces.specs.declared.Pieces.{Pieces}

pub call-order : (pieces : Pieces) (buffer piece : List ℕ) (place : ℕ) → in_order (10 ∷ 4 ∷ []) (call_checks pieces buffer piece place)
    ≡ true
call-order pieces buffer piece place = refl

-- a broken state is 10, wherever the place is
pub broken-first : (pieces : Pieces) (buffer piece : List ℕ) (place : ℕ) → ready pieces buffer ≡ false
    → eating pieces buffer piece place ≡ refused Broken
unfolding eating
broken-first pieces buffer piece place h = rw h

pub turn-order : (next : ℕ) (role : Role) → in_order (16 ∷ 7 ∷ []) (turn_checks next role) ≡ true
turn-order next (begins number) = refl
turn-order next counted = refl
turn-order next neither = refl

pub reader-first : (next : ℕ) (d : List ℕ) (why : Refusal) → read d ≡ refused why → judge next d ≡ refused why
unfolding judge
reader-first next d why e = rw e
