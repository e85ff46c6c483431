-- When a request is made, what it names, and that it changes nothing but the number last asked from.
-- Assumes nothing.
use Prim.Native.Nat.{ℕ, ◌+◌, ◌-◌, ◌≤◌, ◌<◌, min}
use mathlib.Core.List.{[], ◌∷◌}
use mathlib.Core.Path.{◌≡◌, ◌∙◌}
use mathlib.Core.Bool.{Bool, true, false, not, ◌||◌, or-true}
use mathlib.Core.Logic.{◌⊎◌, inl, inr}
use native.Mathlib.Omega.{arith}
use borrow.Author.Tests.{le-leb, lt-leb, leb-true, eq-eqb, ne_eqb}
use lib.Dec.{leb}
use lib.Ieee.{Float}
use Rattle.wire.specs.Checks.{◌is◌, taken, ◌else◌, ◌into◌}
use Rattle.wire.specs.declared.refusal.Refusal.TheVariants.{Broken}
use Rattle.wire.proofs.Tests.{by-test, impossible}
use Rattle.wire.proofs.Checks.{all-passed, went}
use Rattle.clock.specs.Patience.{wait_over}
use Rattle.clock.specs.declared.sheet.Sheet.{Sheet}
use Rattle.clock.specs.declared.patience.Patience.{Patience}
use Rattle.missing.specs.Missing.{is_held, ◌at◌}
use Rattle.missing.proofs.Exactly.{first-from-next, first-missing, first-within}
use Rattle.record.specs.Record.{hangs}
use Rattle.record.specs.Standing.{missing_of}
use Rattle.asking.specs.Asking.{nothing, wait, request, asked_now, request_of, wish, asking}
use Rattle.record.specs.declared.Record.{Record}
use Rattle.record.proofs.Hanging.{hanging, hangs-so}

-- N and as many as the first missing range has, at most 65,535, and A becomes N
pub record Requests (r : Record) (first count : ℕ) (after : Record) : Type 0 where
  pub hangs : hangs r ≡ true
  pub lacks : r.next.0 ≤ r.top.0
  pub from : first ≡ r.next.0
  pub many : count ≡ min ((missing_of r at 0).last.0 - first + 1) 65535
  pub some : 1 ≤ count
  pub within : first + count ≤ r.top.0 + 1
  pub unheld : (k : ℕ) → first ≤ k → k < first + count → is_held r.held r.next.0 k ≡ false
  pub changes : after ≡ asked_now r

wishes : (r : Record) (late : Bool) (first count : ℕ) (after : Record) → wish r late ≡ request first count after
    → (r.next.0 ≤ r.top.0) × (request_of r ≡ request first count after)
unfolding wish
wishes r late first count after e =
    by-test (leb r.next.0 r.top.0)
    (λ p.
    by-test (not (r.asked.0 is r.next.0) || late)
    (λ q. (leb-true r.next.0 r.top.0 p, rw (p, q) at e))
    (λ q. let z : wait ≡ request first count after = rw (p, q) at e in impossible cc))
    (λ p. let z : nothing ≡ request first count after = rw p at e in impossible cc)

module _ (r : Record) (s : Sheet) (p : Patience) (elapsed : Float) where
  -- A request names what is missing from N on, and nothing of the record changes but A.
  pub requests : (first count : ℕ) (after : Record) → asking r s p elapsed ≡ taken (request first count after)
      → Requests r first count after
  unfolding asking request_of
  requests first count after e =
      let v = wait_over s p elapsed into λ late. taken (wish r late) in
      let c = all-passed ((hangs r else Broken) ∷ []) v (request first count after) e in
      let w = went (wait_over s p elapsed) (λ late. taken (wish r late)) (request first count after) c.1 in
      let q : wish r w.by ≡ request first count after = cc w.gave in
      let k = wishes r w.by first count after q in
      let range = missing_of r at 0 in
      let f : first ≡ range.first.0 = cc k.1 in
      let m : count ≡ min (range.last.0 - range.first.0 + 1) 65535 = cc k.1 in
      let n : range.first.0 ≡ r.next.0 = first-from-next r.held r.next.0 r.top.0 k.0 in
      let l = first-within r.held r.next.0 r.top.0 k.0 in
      record {
        hangs = c.0.0;
        lacks = k.0;
        from = f ∙ n;
        many = rw f m;
        some = omega arith;
        within = omega arith;
        unheld = λ i a b. (first-missing r.held r.next.0 r.top.0 k.0 i (omega arith) (omega arith)).1;
        changes = cc k.1;
      }

  -- A record that hangs together hangs together after any request.
  pub asking-hangs : (first count : ℕ) (after : Record) → asking r s p elapsed ≡ taken (request first count after) → hangs after ≡ true
  asking-hangs first count after e =
      let q = requests first count after e in
      let h = hanging r q.hangs in
      rw q.changes (hangs-so (asked_now r)
      (record { begun = h.begun; near = h.near; old = omega arith; bound = h.bound; named = h.named; placed = h.placed }))

  module _ (h : hangs r ≡ true) (late : Bool) (e : wait_over s p elapsed ≡ taken late) where
    -- Nothing is asked if nothing is missing.
    pub asks_nothing : r.top.0 < r.next.0 → asking r s p elapsed ≡ taken nothing
    unfolding asking wish
    asks_nothing l = rw (h, e, lt-leb r.next.0 r.top.0 l)

    -- It is asked at once if A differs from N, and again if the wait is over.
    pub asks-now : r.next.0 ≤ r.top.0 → ((r.asked.0 ≡ r.next.0) → ⊥) ⊎ (late ≡ true) → asking r s p elapsed ≡ taken (request_of r)
    unfolding asking wish
    asks-now l (inl n) = rw (h, e, le-leb r.next.0 r.top.0 l, ne_eqb r.asked.0 r.next.0 n)
    asks-now l (inr t) = rw (h, e, le-leb r.next.0 r.top.0 l, t, or-true)

    -- Else the desk waits.
    pub asks-later : r.next.0 ≤ r.top.0 → r.asked.0 ≡ r.next.0 → late ≡ false → asking r s p elapsed ≡ taken wait
    unfolding asking wish
    asks-later l n t = rw (h, e, le-leb r.next.0 r.top.0 l, eq-eqb r.asked.0 r.next.0 n, t)
