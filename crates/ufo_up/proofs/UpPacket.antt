-- A whole packet: once its length is right, its blocks decide, and once they are whole, its messages in turn.
-- Assumes nothing.
use Prim.Native.Nat.{ℕ, ◌≤◌}
use mathlib.Core.List.{List, [], ◌∷◌, ◌++◌}
use mathlib.Core.Path.{◌≡◌, refl, sym}
use mathlib.Core.Bool.{true, true≢false}
use borrow.Author.Tests.{le-leb, ne_eqb}
use lib.ListN.{length}
use Rattle.wire.specs.Checks.{Verdict, refused, taken, ◌into◌, ◌told_by◌}
use Rattle.wire.specs.Datagram.{limit}
use Rattle.wire.specs.declared.refusal.Refusal.{Refusal}
use Rattle.wire.specs.declared.refusal.Refusal.TheVariants.{Framing}
use Rattle.wire.proofs.Checks.{not-both, taken-same, told}
use Rattle.blocks.specs.Blocks.{Cut, torn, whole, upstream, is_whole, messages_of, count_of}
use Rattle.ufo_up.specs.Up.{Message, read_message, read_each, read_cut, read_up}

pub opened : (d : List ℕ) → (length d ≡ 0 → ⊥) → length d ≤ limit → read_up d ≡ read_cut (upstream d)
unfolding read_up
opened d some h = rw (ne_eqb (length d) 0 some, le-leb (length d) limit h)

pub torn-count : (q : Cut) (why : Refusal) → count_of q ≡ refused why → read_cut q ≡ refused why
torn-count torn why e = cc
torn-count (whole ms) why e = cc

-- as many messages as blocks were counted
pub as-many : (q : Cut) (n : ℕ) → count_of q ≡ taken n → length (messages_of q) ≡ n
as-many torn n e = not-both (count_of torn) Framing n refl e
as-many (whole ms) n e = taken-same (length ms) n e

pub whole-read : (q : Cut) → is_whole q ≡ true → read_cut q ≡ read_each (messages_of q)
whole-read torn w = absurd (true≢false (sym w))
whole-read (whole ms) w = refl

-- messages after messages
pub each_append : (bs more : List (List ℕ))
    → read_each (bs ++ more) ≡ read_each bs into (λ ms. read_each more into (λ os. taken (ms ++ os)))
unfolding read_each
each_append [] more = by (read_each more) where
  by : (v : Verdict (List Message)) → v ≡ v into (λ os. taken os)
  by (refused n) = refl
  by (taken os) = refl
each_append (b ∷ bs) more = rw (each_append bs more) (by (read_message b) (read_each bs) (read_each more)) where
  by : (u : Verdict Message) (v w : Verdict (List Message))
      → u into (λ m. (v into (λ ms. w into (λ os. taken (ms ++ os)))) into (λ ms. taken (m ∷ ms)))
      ≡ (u into (λ m. v into (λ ms. taken (m ∷ ms)))) into (λ ms. w into (λ os. taken (ms ++ os)))
  by (refused n) v w = refl
  by (taken m) (refused n) w = refl
  by (taken m) (taken ms) (refused n) = refl
  by (taken m) (taken ms) (taken os) = refl

-- a packet that was taken is some messages
pub record Took (v : Verdict (List Message)) : Type 0 where
  pub messages : List Message
  pub is : v ≡ taken messages

pub was-taken : (v : Verdict (List Message)) (k : ℕ) → v told_by length ≡ taken k → Took v
was-taken v k e = let t = told v length k e in record { messages = t.by; is = t.was }
