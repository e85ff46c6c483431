-- A packet laid out part by part is the line that it should be.
-- Assumes nothing.
use Prim.Native.Nat.{ℕ, ◌+◌}
use mathlib.Core.Path.{◌≡◌}
use mathlib.Core.List.{List, [], ◌∷◌, ◌++◌}
use native.Mathlib.Omega.{arith}
use lib.ListN.{length, take, set, length-append}
use lib.Seq.{sets, take_all}
use Rattle.wire.proofs.Settling.{replaced}
use Rattle.wire.proofs.Width.{sets-append, sets-after}
use Rattle.decimal.specs.Decimal.{written}
use Rattle.soup.specs.Packet.{accept, login, line, write}
use Rattle.decimal.proofs.Written.{length-written}
use Rattle.soup.proofs.Lines.{length-line}

-- storing the type byte, the payload and the linefeed stores the line
pub stored-line : (out s : List ℕ) (kind : ℕ) → set (sets (set out 0 kind) 1 s) (length s + 1) 10 ≡ sets out 0 (line kind s)
stored-line out s kind =
    let e : length s + 1 ≡ 1 + length s = omega arith in
    rw e (sets-append (set out 0 kind) 1 s (10 ∷ []))

-- the type byte, a payload of n bytes and the linefeed fill a packet of n + 2
filled : (l s : List ℕ) (kind n : ℕ) → length s ≡ n → length l ≡ n + 2 → set (sets (set l 0 kind) 1 s) (n + 1) 10 ≡ line kind s
filled l s kind n e h =
    rw (← e, stored-line l s kind) (replaced (line kind s) l (omega (arith, length-line kind s)))

-- the twenty characters of a number, copied whole
pub number-laid : (x y s : List ℕ) (at number : ℕ) → s ≡ written number → y ≡ sets x at (take 20 s) → y ≡ sets x at (written number)
number-laid x y s at number e f = rw (f, e, take_all 20 (written number) (omega (arith, length-written number)))

-- `A` and `L`: what each store leaves is x, y, ..., from the zeros l on
pub accept-laid : (l x y session : List ℕ) (number : ℕ) → length l ≡ 32 → length session ≡ 10 → x ≡ sets (set l 0 65) 1 session
    → y ≡ sets x 11 (written number) → set y 31 10 ≡ write (accept session number)
accept-laid l x y session number h s e f =
    let w = written number in
    let m : length (session ++ w) ≡ 30 = simp (length-append, length-written) (omega arith) in
    rw (f, e, sets-after (set l 0 65) 1 10 session w s) (filled l (session ++ w) 65 30 m h)

pub login-laid : (l x y z t user password session : List ℕ) (number : ℕ) → length l ≡ 48 → length user ≡ 6 → length password ≡ 10
    → length session ≡ 10 → x ≡ sets (set l 0 76) 1 user → y ≡ sets x 7 password → z ≡ sets y 17 session → t ≡ sets z 27 (written number)
    → set t 47 10 ≡ write (login user password session number)
login-laid l x y z t user password session number h u p s e f g i =
    let w = written number in
    let up : length (user ++ password) ≡ 16 = simp length-append (omega arith) in
    let ups : length (user ++ password ++ session) ≡ 26 = simp length-append (omega arith) in
    let m : length (user ++ password ++ session ++ w) ≡ 46 = simp (length-append, length-written) (omega arith) in
    rw (
      i,
      g,
      f,
      e,
      sets-after (set l 0 76) 1 6 user password u,
      sets-after (set l 0 76) 1 16 (user ++ password) session up,
      sets-after (set l 0 76) 1 26 (user ++ password ++ session) w ups,
    )
    (filled l (user ++ password ++ session ++ w) 76 46 m h)
