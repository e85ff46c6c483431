-- `request` meets its contract: what is asked for is the first missing range, capped, and the record has asked.
use Prim.Native.Nat.{ℕ, ◌≤◌, min}
use mathlib.Core.Path.{◌≡◌, refl}
use mathlib.Core.List.{List, [], ◌∷◌}
use native.Mathlib.Omega.{arith}
use Rattle.std.specs.Prelude.{Some, slice_get}
use Rattle.missing.specs.Missing.{◌at◌}
use Rattle.missing.specs.declared.Range.{Range}
use Rattle.missing.proofs.Apart.{Within}
use Rattle.missing.proofs.Exactly.{next-missing, first-from-next, first-within}
use Rattle.record.specs.Standing.{missing_of}
use Rattle.record.specs.declared.Record.{Record}
use Rattle.asking.specs.Asking.{request_of}
use Rattle.asking.proofs.request.Goals.{After-unwrap-range}
use Rattle.asking.proofs.request.Goals as goal

there : (rs : List Range) (k : ℕ) → Within k rs → slice_get rs 0 ≡ Some (rs at 0)
there [] k w = absurd w
there (r ∷ rs) k w = refl

first-there : (r : Record) → r.next.0 ≤ r.top.0 → slice_get (missing_of r) 0 ≡ Some (missing_of r at 0)
first-there r h = there (missing_of r) r.next.0 (next-missing r.held r.next.0 r.top.0 h)

is-first : (c : After-unwrap-range) → c.unwrap-range.result ≡ missing_of c.args.kept at 0
is-first c =
    let e = first-there c.args.kept c.requires in
    let a = c.at.ensures in
    let b = c.unwrap-range.ensures in
    cc

pub unwrap-range-requires : goal.unwrap-range-requires
unwrap-range-requires c = rw (c.at.ensures, first-there c.args.kept c.requires) refl

pub overflow_sub-others : goal.overflow_sub-others
overflow_sub-others c =
    let k = c.args.kept in
    let a = first-from-next k.held k.next.0 k.top.0 c.requires in
    let b = (first-within k.held k.next.0 k.top.0 c.requires).0 in
    rw (is-first (goal.at.overflow_sub-others c).After-unwrap-range) (omega arith)

capped : (n : ℕ) → min (min n 18446744073709551615) 65535 ≡ min n 65535
capped n = omega arith

pub returns : goal.returns
unfolding request_of
returns c =
    rw (c.min.ensures, c.saturating_add.ensures, capped, is-first (goal.at.returns c).After-unwrap-range)
