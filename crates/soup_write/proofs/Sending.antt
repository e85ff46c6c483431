-- What a writer's reply comes to: by the reader's answer, and for a payload by its own checks.
-- Assumes nothing.
use Rattle.std.specs.Prelude.{if◌then◌else◌}
use Prim.Native.Nat.{ℕ, ◌≤◌, ◌<◌}
use mathlib.Core.Path.{◌≡◌, refl, sym, ◌∙◌}
use mathlib.Core.Logic.{⊎_elim}
use mathlib.Core.List.{List}
use mathlib.Core.Bool.{true, false, ◌||◌}
use native.Mathlib.Omega.{arith}
use lib.Dec.{eqb}
use lib.ListN.{length}
use borrow.Author.Tests.{ne_eqb, eqb-true, eqb-false}
use Rattle.wire.specs.Checks.{Verdict, refused, taken, checked, ◌told_by◌}
use Rattle.wire.specs.Reply.{within, settle}
use Rattle.wire.specs.declared.refusal.Refusal.{Refusal}
use Rattle.wire.specs.declared.refusal.Refusal.TheVariants.{Overlong, Linefeed}
use Rattle.wire.proofs.Checks.{told, told-refused}
use Rattle.soup.specs.Packet.{Packet, debug, sequenced, unsequenced}
use Rattle.soup.specs.Packet.{line, carries}
use Rattle.soup.specs.Read.{payload, unbroken, line_checks, by_type}
use Rattle.soup.specs.Reading.{packet_of}
use Rattle.soup_write.specs.Writing.{sent}
use Rattle.wire.proofs.Tests.{by-test, either}
use Rattle.soup.proofs.Lines.{length-line, last_line, front-line}
use Rattle.soup.proofs.Sorting.{overlong, by-type}
use Rattle.soup.specs.declared.reading.Reading.{Reading}

-- the reader's answer is a refusal: so is the reply
pub refused-by : (v : Verdict Packet) (why : Refusal) (packet : List ℕ) (room : ℕ) → v told_by packet_of ≡ refused why
    → settle v packet room ≡ refused why
refused-by v why packet room e = rw (told-refused v packet_of why e)

-- it is any other: the verdict has taken the packet
pub taken-by : (v : Verdict Packet) (r : Reading) (packet : List ℕ) (room : ℕ) → v told_by packet_of ≡ taken r
    → settle v packet room ≡ within room packet
taken-by v r packet room e = rw (told v packet_of r e).was

-- ---- a payload under its type byte

module _ (kind : ℕ) (s : List ℕ) (room : ℕ) where
  pub too_long : 4096 < length s → sent (line kind s) room ≡ refused Overlong
  too_long h = rw (overlong (line kind s) (omega (arith, length-line kind s)))

  -- any other payload is judged by its bytes alone
  abbrev Decided : Type 0
  Decided = sent (line kind s) room ≡ (if unbroken s then within room (line kind s) else refused Linefeed)

  judged : (p : Packet) → (kind ≡ 10 → ⊥)
      → settle (checked (line_checks (line kind s)) (taken p)) (line kind s) room
      ≡ (if unbroken s then within room (line kind s) else refused Linefeed)
  unfolding unbroken
  judged p k =
      by-test (unbroken s)
      (λ t. rw (last_line kind s, front-line kind s, ne_eqb kind 10 k, t))
      (λ t. rw (last_line kind s, front-line kind s, ne_eqb kind 10 k, t))

  under : (n : ℕ) (p : Packet) → by_type n (line kind s) ≡ checked (line_checks (line kind s)) (taken p) → eqb n 10 ≡ false
      → length s ≤ 4096
      → eqb kind n ≡ true → Decided
  under n p b z h t =
      let q : kind ≡ n = eqb-true kind n t in
      let l = length-line kind s in
      rw (by-type (line kind s) n (λ e. omega arith) (omega arith) q, b) (judged p (λ e. eqb-false n 10 z (sym q ∙ e)))

  pub payload-decides : carries kind ≡ true → length s ≤ 4096 → Decided
  payload-decides c h =
      ⊎_elim
      (λ e. ⊎_elim (under 43 (debug (payload (line kind s))) refl refl h) (under 83 (sequenced (payload (line kind s))) refl refl h)
      (either (eqb kind 43) (eqb kind 83) e))
      (under 85 (unsequenced (payload (line kind s))) refl refl h)
      (either (eqb kind 43 || eqb kind 83) (eqb kind 85) c)
