-- Once the bytes are known to be bytes, each case of the reader's answer is laid flat by the law of its kind: of any case (with the texts
-- where they stand), of a payload, or of a type alone.
use Prim.Native.Nat.{ℕ}
use mathlib.Core.Path.{◌≡◌}
use mathlib.Core.List.{List}
use native.Mathlib.Omega.{arith}
use Rattle.std.proofs.Common.{get_or, Fits, w8}
use Rattle.wire.specs.Checks.{taken, ◌told_by◌}
use Rattle.soup.specs.Read.{read}
use Rattle.soup.specs.Reading.{packet_of}
use Rattle.soup.specs.declared.reading.Reading.{Reading}
use Rattle.flat_pieces.proofs.Fields.{not-empty, by-case, by-payload, by-type-alone}
use Rattle.flat_pieces.proofs.Texts.{Stand, texts}
use Rattle.flat_pieces.proofs.told.Goals as goal

pub bounds-bytes-0 : goal.bounds-bytes-0
bounds-bytes-0 c = not-empty c.args.bytes.now c.args.said c.requires

-- where the texts of the answer x stand
stand : (d : List ℕ) (said x : Reading) → read d told_by packet_of ≡ taken said → ((i : ℕ) → Fits w8 (get_or d i 0)) → said ≡ x → Stand d x
stand d said x p b e = texts d said x p (λ i. (b i).fits) e

pub text-requires : goal.text-requires
text-requires c = omega (arith, (stand c.args.bytes.now c.args.said _ c.requires c.type_inv.bytes c.in-Accept.is).0)

pub text-user-requires : goal.text-user-requires
text-user-requires c = omega (arith, (stand c.args.bytes.now c.args.said _ c.requires c.type_inv.bytes c.in-Login.is).0)

pub text-requires-in-Login : goal.text-requires-in-Login
text-requires-in-Login c =
    omega (arith, (stand c.args.bytes.now c.args.said _ c.requires c.type_inv.bytes c.in-Login.is).0)

pub text-requires-in-Login-2 : goal.text-requires-in-Login-2
text-requires-in-Login-2 c =
    omega (arith, (stand c.args.bytes.now c.args.said _ c.requires c.type_inv.bytes c.in-Login.is).0)

pub returns-in-Accept : goal.returns-in-Accept
returns-in-Accept c =
    let t = stand c.args.bytes.now c.args.said _ c.requires c.type_inv.bytes c.in-Accept.is in
    by-case c.args.bytes.now c.args.said c.requires _ _ c.in-Accept.is (rw (c.text.ensures, ← t.1) at c.named.ensures)

pub returns-in-Reject : goal.returns-in-Reject
returns-in-Reject c =
    by-case c.args.bytes.now c.args.said c.requires _ _ c.in-Reject.is c.rejected.ensures

pub returns-in-Login : goal.returns-in-Login
returns-in-Login c =
    let t = stand c.args.bytes.now c.args.said _ c.requires c.type_inv.bytes c.in-Login.is in
    by-case c.args.bytes.now c.args.said c.requires _ _ c.in-Login.is
    (rw (c.text-user.ensures, c.text-in-Login.ensures, c.text-in-Login-2.ensures, ← t.1, ← t.2, ← t.3) at c.logged_in.ensures)

pub returns-in-Debug : goal.returns-in-Debug
returns-in-Debug c =
    by-payload c.args.bytes.now c.args.said c.requires (λ i. (c.type_inv.bytes i).fits) _ _ _ c.in-Debug.is c.payload.ensures

pub returns-in_default : goal.returns-in_default
returns-in_default c =
    by-type-alone c.args.bytes.now c.args.said c.requires (λ i. (c.type_inv.bytes i).fits) _
    (record {
      debug = c.in_default.not-Debug;
      accept = c.in_default.not-Accept;
      reject = c.in_default.not-Reject;
      sequenced = c.in_default.not-Sequenced;
      login = c.in_default.not-Login;
      unsequenced = c.in_default.not-Unsequenced;
    })
    c.bare.ensures
