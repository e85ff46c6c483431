-- A record that hangs together, told as facts.
-- Assumes nothing.
use Prim.Native.Nat.{◌+◌, ◌≤◌}
use mathlib.Core.Path.{◌≡◌}
use mathlib.Core.Bool.{true, ◌&&◌}
use borrow.Author.Tests.{leb-true, le-leb}
use lib.Dec.{leb}
use Rattle.held.specs.Hanging.{in_place}
use Rattle.record.specs.Record.{lawful, highest, hangs}
use Rattle.record.specs.declared.Record.{Record}
use Rattle.wire.proofs.Tests.{both}

-- `hangs` says so exactly if all of this is so
pub record Hanging (r : Record) : Type 0 where
  pub begun : 1 ≤ r.next.0
  pub near : r.next.0 ≤ r.top.0 + 1
  pub old : r.asked.0 ≤ r.next.0
  pub bound : r.top.0 ≤ highest r.session
  pub named : lawful r.session ≡ true
  pub placed : in_place r.held r.next.0 r.top.0 ≡ true

pub hanging : (r : Record) → hangs r ≡ true → Hanging r
unfolding hangs
hanging r e =
    let a = leb 1 r.next.0 in
    let b = leb r.next.0 (r.top.0 + 1) in
    let c = leb r.asked.0 r.next.0 in
    let d = leb r.top.0 (highest r.session) in
    let o = both (a && b && c && d && lawful r.session) (in_place r.held r.next.0 r.top.0) e in
    let p = both (a && b && c && d) (lawful r.session) o.0 in
    let q = both (a && b && c) d p.0 in
    let s = both (a && b) c q.0 in
    let t = both a b s.0 in
    record {
      begun = leb-true _ _ t.0;
      near = leb-true _ _ t.1;
      old = leb-true _ _ s.1;
      bound = leb-true _ _ q.1;
      named = p.1;
      placed = o.1;
    }

pub hangs-so : (r : Record) → Hanging r → hangs r ≡ true
unfolding hangs
hangs-so r h =
    rw (
      le-leb 1 r.next.0 h.begun,
      le-leb r.next.0 (r.top.0 + 1) h.near,
      le-leb r.asked.0 r.next.0 h.old,
      le-leb r.top.0 (highest r.session) h.bound,
      h.named,
      h.placed,
    )
