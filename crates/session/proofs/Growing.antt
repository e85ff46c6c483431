-- A log only grows, and not once it has ended: so what was genuine stays so, and a record and an area that told nothing false still do.
-- Assumes nothing.
use Prim.Native.Nat.{ℕ, ◌-◌, ◌≤◌}
use mathlib.Core.Path.{◌≡◌, sym, ap, ◌∙◌}
use mathlib.Core.List.{List, [], ◌++◌}
use mathlib.Core.Bool.{Bool, true}
use native.Mathlib.Omega.{arith}
use lib.ListN.{length, drop, length-append, length-drop, get_or-append}
use lib.Seq.{take-append-le, drop-append-le}
use Rattle.reports.specs.Reports.{Report, top_of}
use Rattle.record.specs.declared.Record.{Record}
use Rattle.session.proofs.Genuine.{first_of, carried, Genuine, Hold, held-known}

pub record Grows (log : List (List ℕ)) (over : Bool) (log' : List (List ℕ)) (over' : Bool) : Type 0 where
  pub tail : List (List ℕ)
  pub same : log' ≡ log ++ tail
  pub shut : over ≡ true → (over' ≡ true) × (log' ≡ log)

module _ (log : List (List ℕ)) (over : Bool) (log' : List (List ℕ)) (over' : Bool) (g : Grows log over log' over') where
  pub longer : length log ≤ length log'
  longer = omega (arith, ap length g.same, length-append log g.tail)

  -- a log that has ended is the same afterwards
  still-over : (n : ℕ) → (over ≡ true) × (n ≡ length log) → (over' ≡ true) × (n ≡ length log')
  still-over n e = ((g.shut e.0).0, e.1 ∙ ap length (sym (g.shut e.0).1))

  pub stays : (p : Report) → Genuine log over p → Genuine log' over' p
  stays p h =
      let l = longer in
      let i = h.inside in
      let a : first_of p - 1 ≤ length log = omega (arith, h.start) in
      let b : length (carried p) ≤ length (drop (first_of p - 1) log) = simp length-drop (omega (arith, h.start)) in
      record {
        start = h.start;
        inside = omega arith;
        part = rw (
          g.same,
          drop-append-le (first_of p - 1) log g.tail a,
          take-append-le (length (carried p)) (drop (first_of p - 1) log) g.tail b,
        ) h.part;
        final = λ e. still-over (top_of p) (h.final e);
      }

  pub still : (r : Record) (area : List ℕ) (got : List (List ℕ)) → Hold log over r area got → Hold log' over' r area got
  still r area got h =
      let l = longer in
      record {
        begun = rw (g.same, take-append-le (r.next.0 - 1) log g.tail (omega (arith, h.near, h.known))) h.begun;
        one = h.one;
        near = h.near;
        known = omega (arith, h.known);
        old = h.old;
        final = λ e. still-over r.top.0 (h.final e);
        placed = h.placed;
        sound = h.sound;
        sent = λ n e.
            let k = held-known log over r area got h n e in
            rw (g.same, get_or-append log g.tail [] (n - 1) (omega arith)) (h.sent n e);
      }
