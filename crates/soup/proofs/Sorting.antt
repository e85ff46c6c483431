-- A packet that is neither empty nor too long is read by its type byte.
-- Assumes nothing.
use Prim.Native.Nat.{ℕ, ◌-◌, ◌≤◌, ◌<◌}
use mathlib.Core.Path.{◌≡◌, refl, sym, ap, ◌∙◌}
use mathlib.Core.List.{List}
use native.Mathlib.Omega.{arith}
use lib.ListN.{length, get_or, drop, length-drop}
use lib.Seq.{length-take-le}
use borrow.Author.Tests.{le-leb, lt-leb}
use Rattle.wire.specs.Checks.{Verdict, refused, taken, Check, checked, ◌told_by◌}
use Rattle.wire.specs.declared.refusal.Refusal.TheVariants.{Empty, Overlong}
use Rattle.soup.specs.Packet.{Packet, line_limit}
use Rattle.soup.specs.Read.{payload, line_checks, sized_checks, by_type, read}
use Rattle.soup.specs.Reading.{packet_of}
use Rattle.soup.specs.declared.reading.Reading.{Reading}
use Rattle.wire.proofs.Checks.{through}

told-checked : (cs : List Check) (packet : Packet) → checked cs (taken packet) told_by packet_of ≡ checked cs (taken (packet_of packet))
told-checked cs packet = through (λ v. v told_by packet_of) (λ why. refl) cs (taken packet)

module _ (d : List ℕ) where
  pub empty : length d ≡ 0 → read d ≡ refused Empty
  unfolding read
  empty h = rw (lt-leb 1 (length d) (omega arith))

  pub overlong : line_limit < length d → read d ≡ refused Overlong
  unfolding read
  overlong h = rw (le-leb 1 (length d) (omega arith), lt-leb (length d) line_limit h)

  pub by-type : (kind : ℕ) → (length d ≡ 0 → ⊥) → length d ≤ line_limit → get_or d 0 0 ≡ kind → read d ≡ by_type kind d
  unfolding read
  by-type kind n h k = rw (le-leb 1 (length d) (omega arith), le-leb (length d) line_limit h, k)

  -- what the code answers for a payload, under any of the three types
  pub carried-as : (packet : List ℕ → Packet) (view : ℕ → Reading) → ((s : List ℕ) → packet_of (packet s) ≡ view (length s))
      → (n : ℕ) (r : Verdict Reading) → n ≡ length d - 2 → r ≡ checked (line_checks d) (taken (view n))
      → r ≡ checked (line_checks d) (taken (packet (payload d))) told_by packet_of
  carried-as packet view same n r l e =
      let m : length (payload d) ≡ n = length-take-le (length d - 2) (drop 1 d) (rw length-drop (omega arith)) ∙ omega arith in
      let v : view n ≡ packet_of (packet (payload d)) = rw (same, m) in
      e ∙ ap (λ (q : Reading). checked (line_checks d) (taken q)) v ∙ sym (told-checked (line_checks d) (packet (payload d)))

  -- and for a packet that holds nothing
  pub bare-as : (packet : Packet) (r : Verdict Reading) → r ≡ checked (sized_checks 2 d) (taken (packet_of packet))
      → r ≡ checked (sized_checks 2 d) (taken packet) told_by packet_of
  bare-as packet r e = e ∙ sym (told-checked (sized_checks 2 d) packet)
