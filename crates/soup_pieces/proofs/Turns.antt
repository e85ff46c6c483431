-- Packets that are out of turn: an S before Login Accepted and a second Login Accepted are refused under 16, an S whose number would be
-- 2^64-1 under 7. Each is used up, and the count stays.
-- Assumes nothing.
use Prim.Native.Nat.{ℕ, ◌-◌, ◌^◌, ◌≤◌}
use mathlib.Core.Path.{◌≡◌, refl}
use mathlib.Core.List.{List}
use mathlib.Core.Bool.{false}
use native.Mathlib.Omega.{arith}
use borrow.Author.Tests.{ne_eqb}
use Rattle.wire.specs.Checks.{refused, taken}
use Rattle.wire.specs.declared.refusal.Refusal.{Refusal}
use Rattle.wire.specs.declared.refusal.Refusal.TheVariants.{Bound, NotForRecord}
use Rattle.soup.specs.Packet.{Packet, accept, sequenced}
use Rattle.soup.specs.Read.{read}
use Rattle.soup_pieces.specs.Machine.{Machine, refusal, gives, begins, counted, role_of, judge, empty, eat}
use Rattle.soup_pieces.proofs.Eats.{gathered}

-- ---- by their role in the count, for the code

module _ (next : ℕ) (d : List ℕ) (p : Packet) (e : read d ≡ taken p) where
  pub early : role_of p ≡ counted → next ≡ 0 → judge next d ≡ refused NotForRecord
  unfolding judge
  early r z = rw (e, r, z)

  pub past-last : role_of p ≡ counted → next ≡ 2 ^ 64 - 1 → judge next d ≡ refused Bound
  unfolding judge
  past-last r z = rw (e, r, z)

  pub second : (number : ℕ) → role_of p ≡ begins number → (next ≡ 0 → ⊥) → judge next d ≡ refused NotForRecord
  unfolding judge
  second number r n = rw (e, r, ne_eqb next 0 n)

-- ---- to the machine, when the linefeed comes that ends them

module _ (s : Machine) (listening : s.dropping ≡ false) where
  -- the packet that it ends is refused under this number, and the count stays
  abbrev pub Refuses : (why : Refusal) → Type 0
  Refuses why = eat s 10 ≡ record { fate = gives (refusal (gathered s 10) why); machine = empty false s.next }

  turned-away : (why : Refusal) → judge s.next (gathered s 10) ≡ refused why → Refuses why
  unfolding eat
  turned-away why e = rw (listening, e)

  module _ (message : List ℕ) (e : read (gathered s 10) ≡ taken (sequenced message)) where
    pub early-message : s.next ≡ 0 → Refuses NotForRecord
    early-message z = turned-away NotForRecord (early s.next (gathered s 10) (sequenced message) e refl z)

    pub message-past-last : s.next ≡ 2 ^ 64 - 1 → Refuses Bound
    message-past-last z = turned-away Bound (past-last s.next (gathered s 10) (sequenced message) e refl z)

  pub second-accept : (session : List ℕ) (number : ℕ) → read (gathered s 10) ≡ taken (accept session number)
      → 1 ≤ s.next → Refuses NotForRecord
  second-accept session number e h =
      turned-away NotForRecord (second s.next (gathered s 10) (accept session number) e number refl (λ z. omega arith))
