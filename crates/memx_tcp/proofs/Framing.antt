-- What the framing says: as many bytes follow the header as it says, the fields among them, and no more than may follow those.
-- Assumes nothing.
use Prim.Native.Nat.{ℕ, ◌+◌, ◌≤◌, ◌<◌}
use mathlib.Core.Path.{◌≡◌}
use mathlib.Core.List.{List}
use mathlib.Core.Bool.{true, false, ◌&&◌}
use native.Mathlib.Omega.{arith}
use borrow.Author.Tests.{eq-eqb, ne_eqb, le-leb, lt-leb, eqb-true, leb-true}
use lib.Dec.{leb}
use lib.ListN.{length, drop, length-drop}
use Rattle.wire.specs.Checks.{◌is◌, ◌at_most◌}
use Rattle.wire.proofs.Tests.{both}
use Rattle.memx_tcp.specs.Layout.{most_of}
use Rattle.memx_tcp.specs.Packet.{header_size}
use Rattle.memx_tcp.specs.Read.{kind_in, stated_in, end_in, framed}

pub record Framed (d : List ℕ) : Type 0 where
  pub stated : header_size + stated_in d ≡ length d
  pub fixed : end_in d ≤ length d
  pub rest : length (drop (end_in d) d) ≤ most_of (kind_in d)

pub framed-says : (d : List ℕ) → framed d ≡ true → Framed d
unfolding framed
framed-says d e =
    let tail = length (drop (end_in d) d) at_most most_of (kind_in d) in
    let a = both (header_size + stated_in d is length d && end_in d at_most length d) tail e in
    let b = both (header_size + stated_in d is length d) (end_in d at_most length d) a.0 in
    record {
      stated = eqb-true _ _ b.0;
      fixed = leb-true _ _ b.1;
      rest = leb-true _ _ a.1;
    }

pub misstated : (s : List ℕ) → (header_size + stated_in s ≡ length s → ⊥) → false ≡ framed s
unfolding framed
misstated s h = rw (ne_eqb (header_size + stated_in s) (length s) h)

pub cut_short : (s : List ℕ) → header_size + stated_in s ≡ length s → length s < end_in s → false ≡ framed s
unfolding framed
cut_short s e h = rw (eq-eqb (header_size + stated_in s) (length s) e, lt-leb (end_in s) (length s) h)

-- n bytes follow the fields
pub followed : (s : List ℕ) (n : ℕ) → header_size + stated_in s ≡ length s → end_in s + n ≡ length s
    → leb n (most_of (kind_in s)) ≡ framed s
unfolding framed
followed s n e h =
    let l : length (drop (end_in s) s) ≡ n = rw length-drop (omega arith) in
    rw (eq-eqb (header_size + stated_in s) (length s) e, le-leb (end_in s) (length s) (omega arith), l)
