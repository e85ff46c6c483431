-- What was settled in the output from a place on, with that part given back, is settled in all of it.
-- Assumes nothing.
use Prim.Native.Nat.{ℕ, ◌+◌, ◌-◌, ◌≤◌}
use mathlib.Core.List.{List, [], ◌++◌, append_assoc, append-nil}
use mathlib.Core.Path.{◌≡◌, refl, sym, ◌∙◌}
use native.Mathlib.Omega.{arith}
use borrow.Rule.Slice.PartMut.{mid_of, put_mid, put_same, mid_len}
use lib.ListN.{length, take, drop, length-append, length-drop, length-take, drop_of_length-le}
use lib.Seq.{drop-drop, take_all}
use Rattle.wire.specs.Checks.{Verdict, refused, taken, ◌into◌}
use Rattle.wire.specs.declared.refusal.Refusal.{Refusal}
use Rattle.wire.specs.Reply.{Reply, Settled}
use Rattle.wire.proofs.Tests.{impossible}

module _ (out last : List ℕ) (at : ℕ) (h : at ≤ length out) where
  abbrev left : ℕ
  left = length out - at

  pub given-refused : (y : Reply) (r : Verdict ℕ) (why : Refusal) → r ≡ refused why → Settled y (mid_of at left out) r last
      → Settled (y into (λ b. taken (take at out ++ b))) out (refused why) (put_mid at left out last)
  given-refused (refused m) r why e s = record { answer = sym e ∙ s.answer; bytes = rw s.bytes (put_same at left out) }
  given-refused (taken b) r why e s = impossible (cc (s.answer, e))

  pub given-written : (y : Reply) (r : Verdict ℕ) (n : ℕ) → r ≡ taken n → Settled y (mid_of at left out) r last
      → Settled (y into (λ b. taken (take at out ++ b))) out (taken (at + n)) (put_mid at left out last)
  given-written (refused m) r n e s = impossible (cc (s.answer, e))
  given-written (taken b) r n e s =
      let l : length (take at out ++ b) ≡ at + length b = rw (length-append, length-take) (omega arith) in
      let k : n ≡ length b = cc (s.answer, e) in
      let whole : mid_of at left out ≡ drop at out = take_all left (drop at out) (rw length-drop (omega arith)) in
      let none : drop left (drop at out) ≡ [] = drop_of_length-le (drop at out) {i = left} (rw length-drop (omega arith)) in
      record { answer = rw (l, k); bytes = rw (s.bytes, whole, none, append-nil, drop-drop, l, append_assoc) }

  pub given_inside : (y : Reply) (r : Verdict ℕ) (n : ℕ) → r ≡ taken n → Settled y (mid_of at left out) r last
      → length last ≡ length (mid_of at left out) → at + n ≤ length out
  given_inside (refused m) r n e s l = impossible (cc (s.answer, e))
  given_inside (taken b) r n e s l =
      let k : n ≡ length b = cc (s.answer, e) in
      let q : length last ≡ length b + (length (mid_of at left out) - length b) = rw (s.bytes, length-append, length-drop) refl in
      omega (arith, mid_len at (length out) out (omega arith))
