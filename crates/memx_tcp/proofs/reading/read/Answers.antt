-- The code makes the definition's checks in their order. At the place past each test the packet is known to pass that check, by the answer
-- of the call that made it; a return is then the list of checks with what is known of them.
use Prim.Native.Nat.{ℕ, ◌+◌, ◌-◌}
use mathlib.Core.Path.{◌≡◌, sym, ◌∙◌}
use mathlib.Core.List.{List, [], ◌∷◌, map}
use mathlib.Core.Bool.{Bool, true}
use native.Mathlib.Omega.{arith}
use borrow.Author.Tests.{eq-eqb, ne_eqb}
use lib.ListN.{length, drop, length-drop}
use Rattle.wire.specs.Checks.{Verdict, taken, ◌else◌, checked, ◌told_by◌}
use Rattle.wire.specs.declared.refusal.Refusal.TheVariants.{Framing, Form, Absent}
use Rattle.wire.proofs.Checks.{passed-on}
use Rattle.wire.proofs.Tests.{tests}
use Rattle.memx_tcp.specs.Layout.{Field, lettered, numbered, known, fields_of, most_of, size}
use Rattle.memx_tcp.specs.Packet.{Packet, header_size, each}
use Rattle.memx_tcp.specs.Read.{kind_in, fields_in, packet_in, framed, read}
use Rattle.memx_tcp.specs.Reading.{fields_by, start_of, tcp_of}
use Rattle.memx_tcp.specs.Writing.{under, values_of}
use Rattle.memx_tcp.specs.declared.packet.Fields.{Fields}
use Rattle.memx_tcp.specs.Types.{byte_of}
use Rattle.memx_tcp.proofs.Every.{named_again}
use Rattle.memx_tcp.proofs.OfTypes.{stands-for, stands-for-none, known-kind}
use Rattle.memx_tcp.proofs.Framing.{framed-says}
use Rattle.memx_tcp.proofs.reading.read.Goals.{Else-not-is_framed, In_ok-kind, Else-not-is_lettered, Else-not-is_numbered}
use Rattle.memx_tcp.proofs.reading.read.Goals as goal

-- a test of the fields by name is the test of the values
tested : (test : Field → ℕ → Bool) (s : List ℕ) (p : Fields) {k : ℕ} (b : Bool)
    → kind_in s ≡ k → p ≡ fields_by (kind_in s) (packet_in s).values
    → b ≡ each test (fields_of k) (map (under p) (fields_of k)) → b ≡ each test (fields_in s) (packet_in s).values
unfolding values_of
tested test s p b k e h =
    let a = named_again (kind_in s) (drop header_size s) in
    rw (← k, e, rw a.0 at a.1) at h

-- the answer to a packet that passed every check, by what the code found in it
answers : (s : List ℕ) (p : Fields) (fixed start : ℕ) → read s ≡ taken (packet_in s) → p ≡ fields_by (kind_in s) (packet_in s).values
    → fixed ≡ size (fields_in s) → start ≡ start_of (kind_in s)
    → taken (record { fields = p; start = start; length = length s - (3 + fixed) }) ≡ read s told_by tcp_of
answers s p fixed start r e f g = rw (r, e, f, g, length-drop)

-- what is left to check where the type is known
abbrev left : List ℕ → Verdict Packet
left s =
    checked
    ((framed s else Framing)
    ∷ (each lettered (fields_in s) (packet_in s).values else Form)
    ∷ (each numbered (fields_in s) (packet_in s).values else Absent)
    ∷ []) (taken (packet_in s))

kind_is : (c : In_ok-kind) → kind_in c.args.d.now ≡ byte_of c.in_ok-kind.kind
kind_is c = stands-for _ c.in_ok-kind.kind (sym c.try_from.ensures ∙ c.in_ok-kind.was)

opened : (c : In_ok-kind) → read c.args.d.now ≡ left c.args.d.now
unfolding read
opened c =
    let k : known (kind_in c.args.d.now) ≡ true = rw (kind_is c) (known-kind c.in_ok-kind.kind) in
    rw k (search tests)

-- and what the tests behind say
is_framed : (c : Else-not-is_framed) → framed c.args.d.now ≡ true
is_framed c = sym c.is_framed.ensures ∙ c.if-not-is_framed.false

has-letters : (c : Else-not-is_lettered) → kind_in c.args.d.now ≡ byte_of c.in_ok-kind.kind
    → let s = c.args.d.now in each lettered (fields_in s) (packet_in s).values ≡ true
has-letters c k =
    let s = c.args.d.now in
    sym (tested lettered s _ _ k c.fields_of-fields.ensures c.is_lettered.ensures) ∙ c.if-not-is_lettered.false

has-numbers : (c : Else-not-is_numbered) → kind_in c.args.d.now ≡ byte_of c.in_ok-kind.kind
    → let s = c.args.d.now in each numbered (fields_in s) (packet_in s).values ≡ true
has-numbers c k =
    let s = c.args.d.now in
    sym (tested numbered s _ _ k c.fields_of-fields.ensures c.is_numbered.ensures) ∙ c.if-not-is_numbered.false

-- past the last test
passed : (s : List ℕ) → read s ≡ left s → framed s ≡ true → each lettered (fields_in s) (packet_in s).values ≡ true
    → each numbered (fields_in s) (packet_in s).values ≡ true → read s ≡ taken (packet_in s)
passed s o f l n = rw (o, f, l, n)

pub returns-then-d-eq0 : goal.returns-then-d-eq0
unfolding read
returns-then-d-eq0 c = let s = c.args.d.now in search tests

pub returns-then-d-gt-LIMIT : goal.returns-then-d-gt-LIMIT
unfolding read
returns-then-d-gt-LIMIT c = let s = c.args.d.now in search tests

pub returns-then-byte : goal.returns-then-byte
returns-then-byte c = c.read_payload.ensures

pub returns-in_err-kind : goal.returns-in_err-kind
unfolding read
returns-in_err-kind c =
    let none = stands-for-none (kind_in c.args.d.now) c.in_err-kind.field-0.0 (sym c.try_from.ensures ∙ c.in_err-kind.was) in
    passed-on c.from_residual.result c.from_residual.ensures.1 ∙ rw (none.0, none.1) (search tests)

pub returns-then-not-is_framed : goal.returns-then-not-is_framed
returns-then-not-is_framed c =
    let f = sym c.is_framed.ensures ∙ c.if-not-is_framed.true in
    rw (opened (goal.at.returns-then-not-is_framed c).In_ok-kind, f)

pub fields_of-fields-requires : goal.fields_of-fields-requires
fields_of-fields-requires c =
    let at = goal.at.fields_of-fields-requires c in
    (kind_is at.In_ok-kind, (framed-says c.args.d.now (is_framed at.Else-not-is_framed)).fixed)

pub returns-then-not-is_lettered : goal.returns-then-not-is_lettered
returns-then-not-is_lettered c =
    let s = c.args.d.now in
    let at = goal.at.returns-then-not-is_lettered c in
    let l = sym (tested lettered s _ _ (kind_is at.In_ok-kind) c.fields_of-fields.ensures c.is_lettered.ensures)
    ∙ c.if-not-is_lettered.true in
    rw (opened at.In_ok-kind, is_framed at.Else-not-is_framed, l)

pub returns-then-not-is_numbered : goal.returns-then-not-is_numbered
returns-then-not-is_numbered c =
    let s = c.args.d.now in
    let at = goal.at.returns-then-not-is_numbered c in
    let n = sym (tested numbered s _ _ (kind_is at.In_ok-kind) c.fields_of-fields.ensures c.is_numbered.ensures)
    ∙ c.if-not-is_numbered.true in
    rw (opened at.In_ok-kind, is_framed at.Else-not-is_framed, has-letters at.Else-not-is_lettered (kind_is at.In_ok-kind), n)

pub overflow_add-end : goal.overflow_add-end
overflow_add-end c =
    let at = goal.at.overflow_add-end c in
    let f = (framed-says c.args.d.now (is_framed at.Else-not-is_framed)).fixed in
    let n = rw (← kind_is at.In_ok-kind) at c.fixed-fixed.ensures in
    omega arith

pub overflow_sub-length : goal.overflow_sub-length
overflow_sub-length c =
    let at = goal.at.overflow_sub-length c in
    let f = (framed-says c.args.d.now (is_framed at.Else-not-is_framed)).fixed in
    let n = rw (← kind_is at.In_ok-kind) at c.fixed-fixed.ensures in
    omega arith

pub returns-then-most-eq0 : goal.returns-then-most-eq0
returns-then-most-eq0 c =
    let s = c.args.d.now in
    let at = goal.at.returns-then-most-eq0 c in
    let k = kind_is at.In_ok-kind in
    let none = eq-eqb (most_of (kind_in s)) 0 (rw k (sym c.most-most.ensures ∙ c.if-most-eq0.true)) in
    let r =
    passed s (opened at.In_ok-kind) (is_framed at.Else-not-is_framed) (has-letters at.Else-not-is_lettered (kind_is at.In_ok-kind))
    (has-numbers at.Else-not-is_numbered (kind_is at.In_ok-kind)) in
    answers s _ _ 0 r c.fields_of-fields.ensures (rw (← k) at c.fixed-fixed.ensures) (rw none)

pub returns : goal.returns
returns c =
    let s = c.args.d.now in
    let at = goal.at.returns c in
    let k = kind_is at.In_ok-kind in
    let fixed = rw (← k) at c.fixed-fixed.ensures in
    let some = ne_eqb (most_of (kind_in s)) 0 (λ e. c.if-most-eq0.false (c.most-most.ensures ∙ rw k at e)) in
    let r =
    passed s (opened at.In_ok-kind) (is_framed at.Else-not-is_framed) (has-letters at.Else-not-is_lettered (kind_is at.In_ok-kind))
    (has-numbers at.Else-not-is_numbered (kind_is at.In_ok-kind)) in
    answers s _ _ _ r c.fields_of-fields.ensures fixed (rw (some, ← fixed))
