-- A type with a payload has no fields (`bare`), so that of the checks only those of its length are left.
use Prim.Native.Nat.{ℕ, ◌+◌, ◌-◌, ◌≤◌, ◌<◌}
use mathlib.Core.Path.{◌≡◌, refl, sym, ◌∙◌}
use mathlib.Core.Logic.{⊎_elim}
use mathlib.Core.List.{List, []}
use mathlib.Core.Bool.{true, false, ◌||◌}
use native.Mathlib.Omega.{arith}
use borrow.Author.Tests.{le-leb, ne_eqb}
use lib.ListN.{length, length-drop}
use Rattle.wire.specs.Checks.{◌is◌, refused, taken, ◌told_by◌}
use Rattle.wire.specs.declared.refusal.Refusal.TheVariants.{Framing}
use Rattle.wire.proofs.Tests.{one-of-fact}
use Rattle.memx_tcp.specs.Layout.{known, fields_of, most_of, size}
use Rattle.memx_tcp.specs.Packet.{header_size, limit, each}
use Rattle.memx_tcp.specs.Read.{kind_in, stated_in, values_in, end_in, framed, read}
use Rattle.memx_tcp.specs.Reading.{fields, fields_by, tcp_of}
use Rattle.memx_tcp.proofs.Framing.{misstated, followed}
use Rattle.memx_tcp.proofs.reading.read_payload.Goals as goal

-- a type with a payload has nothing else
abbrev Bare : ℕ → Type 0
Bare k = (known k ≡ true) × (fields_of k ≡ []) × (most_of k ≡ 65535)

bare : (k : ℕ) → (k is 11 || k is 104) ≡ true → Bare k
unfolding known fields_of most_of
bare k e = ⊎_elim (λ q. rw q (refl, refl, refl)) (λ q. rw q (refl, refl, refl)) (one-of-fact k 11 104 e)

module _ (s : List ℕ) (some : 0 < length s) (short : length s ≤ limit) (k : (kind_in s is 11 || kind_in s is 104) ≡ true) where
  refuses : false ≡ framed s → read s ≡ refused Framing
  unfolding read
  refuses f =
      let b = bare (kind_in s) k in
      rw (ne_eqb (length s) 0 (λ e. omega arith), le-leb (length s) limit short, b.0, ← f)

  takes : (n : ℕ) → header_size + stated_in s ≡ length s → n ≡ length s - 3
      → taken (record { fields = fields (kind_in s) 0 0 0 0 0; start = 3; length = n }) ≡ read s told_by tcp_of
  unfolding read size values_in each fields_by
  takes n e l =
      let b = bare (kind_in s) k in
      let z : end_in s ≡ 3 = rw b.1 in
      let f : framed s ≡ true = sym (followed s n e (omega arith)) ∙ rw b.2 (le-leb n 65535 (omega arith)) in
      rw (ne_eqb (length s) 0 (λ e. omega arith), le-leb (length s) limit short, b.0, f, b.1, b.2, length-drop, l, b.1)

pub returns-then-d-lt-HEADER : goal.returns-then-d-lt-HEADER
returns-then-d-lt-HEADER c =
    let s = c.args.d.now in
    rw (refuses s c.requires.0 c.requires.1 c.requires.2 (misstated s (λ e. omega arith)))

pub returns-then-get2-length : goal.returns-then-get2-length
returns-then-get2-length c =
    let s = c.args.d.now in
    rw (refuses s c.requires.0 c.requires.1 c.requires.2 (misstated s (λ e. c.if-get2-length.true (omega arith))))

pub returns : goal.returns
returns c =
    let s = c.args.d.now in
    rw c.none.ensures (takes s c.requires.0 c.requires.1 c.requires.2 (length s - 3) (omega arith) refl)
