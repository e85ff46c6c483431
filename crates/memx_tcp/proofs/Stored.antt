-- A type's fields stored one after another are its fields laid out: of each type by computation of its row.
-- Assumes nothing.
use Prim.Native.Nat.{ℕ, ◌+◌, ◌^◌, ◌<◌}
use mathlib.Core.Path.{◌≡◌}
use mathlib.Core.List.{List, [], ◌∷◌, ◌++◌, map}
use native.Mathlib.Omega.{arith}
use lib.ListN.{length, take, drop, set, length-append}
use lib.Seq.{sets, take-length}
use Rattle.wire.specs.Fields.{bytes_of}
use Rattle.wire.proofs.Width.{sets-after}
use Rattle.memx_tcp.specs.Layout.{Field, letter, count, session, next, number, top, fields_of, size}
use Rattle.memx_tcp.specs.Packet.{Packet, laid, write, Sized}
use Rattle.memx_tcp.specs.Writing.{under}
use Rattle.memx_tcp.specs.declared.packet.Fields.{Fields}
use Rattle.memx_tcp.proofs.Laid.{length-laid}

-- the fields as the code has them, by their types
pub record Ranged (p : Fields) : Type 0 where
  pub letter : p.letter < 2 ^ 8
  pub count : p.count < 2 ^ 32
  pub session : p.session.0 < 2 ^ 64
  pub number : p.number.0 < 2 ^ 64
  pub top : p.top.0 < 2 ^ 64

-- have room in any list of fields
pub sized-under : (p : Fields) → Ranged p → (fs : List Field) → Sized fs (map (under p) fs)
unfolding Sized
sized-under p r [] = tt
sized-under p r (letter set ∷ fs) = (r.letter, sized-under p r fs)
sized-under p r (count ∷ fs) = (r.count, sized-under p r fs)
sized-under p r (session ∷ fs) = (r.session, sized-under p r fs)
sized-under p r (next ∷ fs) = (r.number, sized-under p r fs)
sized-under p r (number ∷ fs) = (r.number, sized-under p r fs)
sized-under p r (top ∷ fs) = (r.top, sized-under p r fs)

-- a packet stored part by part: its type, how many bytes follow, its fields, and what follows them
module _ (p : Packet) (h : Sized (fields_of p.kind) p.values) where
  pub packet-put : (out a b left : List ℕ) (n end : ℕ)
      → end ≡ 3 + size (fields_of p.kind)
      → n ≡ size (fields_of p.kind) + length p.tail
      → a ≡ sets (set out 0 p.kind) 1 (bytes_of 2 n)
      → b ≡ sets a 3 (laid (fields_of p.kind) p.values)
      → left ≡ sets b end (take (length p.tail) (drop 0 p.tail))
      → left ≡ sets out 0 (write p)
  unfolding write bytes_of
  packet-put out a b left n end i e x y z =
      let fields = laid (fields_of p.kind) p.values in
      let l = length-laid (fields_of p.kind) p.values h in
      let same : length (fields ++ p.tail) ≡ n = rw (length-append fields p.tail) (omega arith) in
      rw (z, y, x, take-length, same, i)
      (sets-after (sets (set out 0 p.kind) 1 (bytes_of 2 n)) 3 (size (fields_of p.kind)) fields p.tail l)
