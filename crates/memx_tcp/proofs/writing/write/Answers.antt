-- What the reader says to the packet that would be written is a list of checks, and the code makes them in their order: at the place past
-- each test one more of them is known to hold. Past the last one the packet is stored part by part.
use Prim.Native.Nat.{ℕ, ◌+◌, ◌-◌, ◌≤◌}
use mathlib.Core.List.{[], ◌∷◌, map}
use mathlib.Core.Bool.{Bool, true}
use mathlib.Core.Path.{◌≡◌, sym, ◌∙◌}
use native.Mathlib.Omega.{arith}
use borrow.Author.Tests.{le-leb, lt-leb}
use lib.ListN.{length, set, length-set}
use Rattle.wire.specs.Checks.{◌at_most◌, taken, ◌else◌, checked}
use Rattle.wire.specs.declared.refusal.Refusal.TheVariants.{Overlong, UnknownType, Framing, Form, Absent}
use Rattle.wire.proofs.Checks.{passed-on}
use Rattle.wire.proofs.Settling.{refuses, lacks-room, has_room}
use Rattle.memx_tcp.specs.Layout.{Field, lettered, numbered, known, fields_of, most_of, size}
use Rattle.memx_tcp.specs.Packet.{Packet, header_size, limit, write, Sized, each}
use Rattle.memx_tcp.specs.Read.{read}
use Rattle.memx_tcp.specs.Writing.{under, values_of, packet_of}
use Rattle.memx_tcp.specs.declared.packet.Fields.{Fields}
use Rattle.memx_tcp.specs.Types.{byte_of}
use Rattle.memx_tcp.proofs.Every.{short}
use Rattle.memx_tcp.proofs.OfTypes.{stands-for, stands-for-none, known-kind}
use Rattle.memx_tcp.proofs.Stored.{Ranged, sized-under, packet-put}
use Rattle.memx_tcp.proofs.Verdicts.{length-written, written_checks, written-verdict}
use Rattle.memx_tcp.proofs.writing.write.Goals.{After-put2, In_ok-kind, Else-not-is_lettered, Else-not-is_numbered, Start}
use Rattle.memx_tcp.proofs.writing.write.Goals as goal

-- the packet that would be written, and what its reader says to it
abbrev laid_out : Start → Packet
laid_out c = packet_of c.args.p c.args.body.now

ranged : (c : Start) → Ranged c.args.p
ranged c = record { letter = omega arith; count = omega arith; session = omega arith; number = omega arith; top = omega arith }

sized : (c : Start) → Sized (fields_of c.args.p.kind) (values_of c.args.p)
unfolding values_of
sized c = sized-under c.args.p (ranged c) (fields_of c.args.p.kind)

verdict : (c : Start) → read (write (laid_out c)) ≡ checked (written_checks (laid_out c) (sized c)) (taken (laid_out c))
verdict c = written-verdict (laid_out c) (sized c)

-- its bytes
abbrev bytes_in : Start → ℕ
bytes_in c = header_size + size (fields_of c.args.p.kind) + length c.args.body.now

long : (c : Start) → length (write (laid_out c)) ≡ bytes_in c
long c = let l = length-written (laid_out c) (sized c) in omega arith

-- what is left to check where the type is known and the packet is not too long
opened : (c : Start) → known c.args.p.kind ≡ true → bytes_in c ≤ limit → let q = laid_out c in let fs = fields_of q.kind in
    read (write q) ≡ checked
    ((length q.tail at_most most_of q.kind else Framing)
    ∷ (each lettered fs q.values else Form)
    ∷ (each numbered fs q.values else Absent)
    ∷ []) (taken q)
opened c typed small = rw (verdict c, le-leb (bytes_in c) limit small, typed)

-- and what the tests behind say
kind_is : (c : In_ok-kind) → c.args.p.kind ≡ byte_of c.in_ok-kind.kind
kind_is c = stands-for _ c.in_ok-kind.kind (sym c.try_from.ensures ∙ c.in_ok-kind.was)

is_typed : (c : In_ok-kind) → known c.args.p.kind ≡ true
is_typed c = rw (kind_is c) (known-kind c.in_ok-kind.kind)

-- a test of the fields, told of the type's byte
by_byte : (test : Field → ℕ → Bool) (p : Fields) {k : ℕ} {b : Bool} → p.kind ≡ k
    → b ≡ each test (fields_of k) (map (under p) (fields_of k)) → b ≡ each test (fields_of p.kind) (values_of p)
unfolding values_of
by_byte test p e h = rw (← e) at h

has-letters : (c : Else-not-is_lettered) → c.args.p.kind ≡ byte_of c.in_ok-kind.kind
    → each lettered (fields_of c.args.p.kind) (values_of c.args.p) ≡ true
has-letters c k = sym (by_byte lettered c.args.p k c.is_lettered.ensures) ∙ c.if-not-is_lettered.false

has-numbers : (c : Else-not-is_numbered) → c.args.p.kind ≡ byte_of c.in_ok-kind.kind
    → each numbered (fields_of c.args.p.kind) (values_of c.args.p) ≡ true
has-numbers c k = sym (by_byte numbered c.args.p k c.is_numbered.ensures) ∙ c.if-not-is_numbered.false

pub overflow_add-end : goal.overflow_add-end
overflow_add-end c = let h = short c.args.p.kind in omega arith

pub overflow_sub-end : goal.overflow_sub-end
overflow_sub-end c = let h = short c.args.p.kind in omega arith

pub returns-then-end-body : goal.returns-then-end-body
returns-then-end-body c =
    let s = (goal.at.returns-then-end-body c).Start in
    let h = short c.args.p.kind in
    refuses _ _ Overlong (rw (verdict s, lt-leb (bytes_in s) limit (omega arith)))

pub returns-in_err-kind : goal.returns-in_err-kind
returns-in_err-kind c =
    let s = (goal.at.returns-in_err-kind c).Start in
    let h = short c.args.p.kind in
    let none = stands-for-none c.args.p.kind c.in_err-kind.field-0.0 (sym c.try_from.ensures ∙ c.in_err-kind.was) in
    rw (passed-on c.from_residual.result c.from_residual.ensures.1, none.0)
    (refuses _ _ UnknownType (rw (verdict s, le-leb (bytes_in s) limit (omega arith), none.1)))

pub returns-then-most-body : goal.returns-then-most-body
returns-then-most-body c =
    let at = goal.at.returns-then-most-body c in
    let a = c.args in
    let h = short a.p.kind in
    let m = rw (← kind_is at.In_ok-kind) at c.most.ensures in
    refuses _ _ Framing
    (rw (opened at.Start (is_typed at.In_ok-kind) (omega arith), lt-leb (length a.body.now) (most_of a.p.kind) (omega arith)))

pub returns-then-not-is_lettered : goal.returns-then-not-is_lettered
returns-then-not-is_lettered c =
    let at = goal.at.returns-then-not-is_lettered c in
    let a = c.args in
    let h = short a.p.kind in
    let m = rw (← kind_is at.In_ok-kind) at c.most.ensures in
    let l = sym (by_byte lettered c.args.p (kind_is at.In_ok-kind) c.is_lettered.ensures) ∙ c.if-not-is_lettered.true in
    refuses _ _ Form
    (rw (
      opened at.Start (is_typed at.In_ok-kind) (omega arith),
      le-leb (length a.body.now) (most_of a.p.kind) (omega arith),
      l,
    ))

pub returns-then-not-is_numbered : goal.returns-then-not-is_numbered
returns-then-not-is_numbered c =
    let at = goal.at.returns-then-not-is_numbered c in
    let a = c.args in
    let h = short a.p.kind in
    let m = rw (← kind_is at.In_ok-kind) at c.most.ensures in
    let n = sym (by_byte numbered c.args.p (kind_is at.In_ok-kind) c.is_numbered.ensures) ∙ c.if-not-is_numbered.true in
    refuses _ _ Absent
    (rw (
      opened at.Start (is_typed at.In_ok-kind) (omega arith),
      le-leb (length a.body.now) (most_of a.p.kind) (omega arith),
      has-letters at.Else-not-is_lettered (kind_is at.In_ok-kind),
      n,
    ))

-- past the last test the packet is taken
passed : (c : Start) → let p = c.args.p in known p.kind ≡ true → bytes_in c ≤ limit → length c.args.body.now ≤ most_of p.kind
    → each lettered (fields_of p.kind) (values_of p) ≡ true → each numbered (fields_of p.kind) (values_of p) ≡ true
    → read (write (laid_out c)) ≡ taken (laid_out c)
passed c typed small fits l n =
    rw (opened c typed small, le-leb (length c.args.body.now) (most_of c.args.p.kind) fits, l, n)

pub overflow_add-size : goal.overflow_add-size
overflow_add-size c = let h = short c.args.p.kind in omega arith

pub returns-then-out-size : goal.returns-then-out-size
returns-then-out-size c =
    let at = goal.at.returns-then-out-size c in
    let h = short c.args.p.kind in
    let m = rw (← kind_is at.In_ok-kind) at c.most.ensures in
    let l = long at.Start in
    let r =
    passed at.Start (is_typed at.In_ok-kind) (omega arith) (omega arith) (has-letters at.Else-not-is_lettered (kind_is at.In_ok-kind))
    (has-numbers at.Else-not-is_numbered (kind_is at.In_ok-kind)) in
    lacks-room _ (write (laid_out at.Start)) c.args.out.now (rw r) (omega arith)

pub overflow_cast-size : goal.overflow_cast-size
overflow_cast-size c = let h = short c.args.p.kind in omega arith

pub put2-requires : goal.put2-requires
put2-requires c = simp length-set (omega arith)

-- the type leaves the output as long as it was
kept : (c : After-put2) → let a = c.args in length (set a.out.now 0 a.p.kind) ≡ length a.out.now
kept c = simp length-set

pub put_fields-requires : goal.put_fields-requires
put_fields-requires c =
    let at = goal.at.put_fields-requires c in
    (kind_is at.In_ok-kind, omega (arith, kept at.After-put2))

pub copy-requires : goal.copy-requires
copy-requires c = omega (arith, kept (goal.at.copy-requires c).After-put2)

pub shape_of-out : goal.shape_of-out
shape_of-out c = omega (arith, kept (goal.at.shape_of-out c).After-put2)

pub returns : goal.returns
returns c =
    let at = goal.at.returns c in
    let s = at.Start in
    let fixed = c.fixed-end.result in
    let n = header_size + fixed + length c.args.body.now - header_size in
    let h = short c.args.p.kind in
    let m = rw (← kind_is at.In_ok-kind) at c.most.ensures in
    let l = long s in
    let r =
    passed s (is_typed at.In_ok-kind) (omega arith) (omega arith) (has-letters at.Else-not-is_lettered (kind_is at.In_ok-kind))
    (has-numbers at.Else-not-is_numbered (kind_is at.In_ok-kind)) in
    has_room _ (write (laid_out s)) c.args.out.now (rw r) _ _ (omega arith) (omega arith)
    (packet-put (laid_out s) (sized s) c.args.out.now _ _ _ n (header_size + fixed) (omega arith) (omega arith)
    c.put2.ensures c.put_fields.ensures c.copy.ensures)
