-- Exactly the lawful packets are taken: reading what was written gives the packet, and writing what was read the bytes.
-- Assumes nothing.
use Prim.Native.Nat.{ℕ, ◌+◌}
use mathlib.Core.Path.{◌≡◌, sym}
use mathlib.Core.List.{List, ◌++◌}
use native.Mathlib.Omega.{arith}
use borrow.Author.Tests.{le-leb}
use lib.ListN.{length, drop, length-drop}
use lib.Seq.{drop-cons, drop-drop}
use Rattle.wire.specs.Fields.{Bytes}
use Rattle.wire.specs.Checks.{taken}
use Rattle.wire.proofs.Checks.{all-passed, taken-same}
use Rattle.wire.proofs.Width.{bytes_drop, written-again}
use Rattle.memx_tcp.specs.Layout.{fields_of, most_of, size}
use Rattle.memx_tcp.specs.Packet.{Packet, header_size, limit, laid, write, Fit}
use Rattle.memx_tcp.specs.Read.{stated_in, values_in, fields_in, end_in, packet_in, checks, read}
use Rattle.memx_tcp.proofs.Framing.{Framed, framed-says}
use Rattle.memx_tcp.proofs.Laid.{sized-values, laid-values}
use Rattle.memx_tcp.proofs.Every.{short}
use Rattle.memx_tcp.proofs.Verdicts.{written-verdict}

pub written-is-read : (p : Packet) → Fit p → read (write p) ≡ taken p
written-is-read p fit =
    let s = short p.kind in
    let b = fit.bound in
    rw (
      written-verdict p fit.sizes,
      le-leb (header_size + size (fields_of p.kind) + length p.tail) limit (omega arith),
      fit.type,
      le-leb (length p.tail) (most_of p.kind) b,
      fit.letters,
      fit.numbers,
    )

module _ (d : List ℕ) (b : Bytes d) where
  again : Framed d → write (packet_in d) ≡ d
  unfolding write
  again f =
      let s = drop header_size d in
      let l : length s ≡ stated_in d = rw length-drop (let e = f.stated in omega arith) in
      let fixed = f.fixed in
      let follows : laid (fields_in d) (values_in (fields_in d) s) ++ drop (end_in d) d ≡ s =
      rw (← drop-drop (size (fields_in d)) header_size d)
      (laid-values (fields_in d) s (bytes_drop header_size d b) (rw length-drop (omega arith))) in
      rw (follows, l, written-again 2 1 d b (let e = f.stated in omega arith)) (sym (drop-cons d 0 0 (let e = f.stated in omega arith)))

  pub read-is-written : (p : Packet) → read d ≡ taken p → Fit p × (write p ≡ d)
  unfolding read
  read-is-written p e =
      let c = all-passed (checks d) (taken (packet_in d)) p e in
      let f = framed-says d c.0.1.1.1.0 in
      let fit : Fit (packet_in d) =
      record {
        type = c.0.1.1.0;
        sizes = sized-values (fields_in d) (drop header_size d) (bytes_drop header_size d b);
        letters = c.0.1.1.1.1.0;
        numbers = c.0.1.1.1.1.1.0;
        bound = f.rest;
        bytes = bytes_drop (end_in d) d b;
      } in
      rw (← taken-same (packet_in d) p c.1) (fit, again f)
