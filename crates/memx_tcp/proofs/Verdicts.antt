-- What the reader says to what was laid out from values that have room in their fields, lawful or not.
-- Assumes nothing.
use Prim.Native.Nat.{ℕ, ◌+◌, ◌≤◌}
use mathlib.Core.Path.{◌≡◌}
use mathlib.Core.List.{List, [], ◌∷◌, ◌++◌}
use native.Mathlib.Omega.{arith}
use borrow.Author.Tests.{le-leb, eq-eqb, ne_eqb, leb-true}
use lib.ListN.{length, drop, length-append}
use lib.Seq.{drop-drop}
use Rattle.wire.specs.Fields.{bytes_of}
use Rattle.wire.specs.Checks.{◌at_most◌, Check, ◌else◌, checked, taken}
use Rattle.wire.specs.declared.refusal.Refusal.TheVariants.{Overlong, UnknownType, Framing, Form, Absent}
use Rattle.wire.proofs.Tests.{by-test}
use Rattle.wire.proofs.Width.{be-bytes_of}
use Rattle.memx_tcp.specs.Layout.{Field, lettered, numbered, known, fields_of, most_of, size}
use Rattle.memx_tcp.specs.Packet.{Packet, header_size, limit, laid, write, Sized, each}
use Rattle.memx_tcp.specs.Read.{stated_in, values_in, framed, read}
use Rattle.memx_tcp.proofs.Laid.{length-laid, after-laid, values-laid}

module _ (p : Packet) (h : Sized (fields_of p.kind) p.values) where
  abbrev fields : List Field
  fields = fields_of p.kind

  -- the bytes of the whole
  abbrev whole : ℕ
  whole = header_size + size fields + length p.tail

  pub length-written : length (write p) ≡ whole
  unfolding write bytes_of
  length-written =
      let l = length-laid fields p.values h in
      let a = length-append (laid fields p.values) p.tail in
      omega arith

  values-written : values_in fields (drop header_size (write p)) ≡ p.values
  unfolding write bytes_of
  values-written = values-laid fields p.values p.tail h

  tail_written : drop (header_size + size fields) (write p) ≡ p.tail
  unfolding write bytes_of
  tail_written = rw (← drop-drop (size fields) header_size (write p)) (after-laid fields p.values p.tail h)

  stated-written : whole ≤ limit → header_size + stated_in (write p) ≡ whole
  unfolding write
  stated-written s =
      let l = length-laid fields p.values h in
      let a = length-append (laid fields p.values) p.tail in
      let follows = laid fields p.values ++ p.tail in
      let e = be-bytes_of 2 (length follows) follows (omega arith) in
      omega arith

  framed-written : whole ≤ limit → framed (write p) ≡ length p.tail at_most most_of p.kind
  unfolding framed write
  framed-written s =
      rw (
        length-written,
        eq-eqb (header_size + stated_in (write p)) whole (stated-written s),
        le-leb (header_size + size fields) whole (omega arith),
        tail_written,
      )

  abbrev pub written_checks : List Check
  written_checks =
      (whole at_most limit else Overlong)
      ∷ (known p.kind else UnknownType)
      ∷ (length p.tail at_most most_of p.kind else Framing)
      ∷ (each lettered fields p.values else Form)
      ∷ (each numbered fields p.values else Absent)
      ∷ []

  pub written-verdict : read (write p) ≡ checked written_checks (taken p)
  unfolding read write
  written-verdict =
      by-test (whole at_most limit)
      (λ e. rw (
        length-written,
        ne_eqb whole 0 (λ z. omega arith),
        e,
        framed-written (leb-true whole limit e),
        values-written,
        tail_written,
      ))
      (λ e. rw (length-written, ne_eqb whole 0 (λ z. omega arith), e))
