-- The fields of a packet by its type byte and what the reader found behind it: they are those that the reader's flat function gives.
-- Assumes nothing.
use Prim.Native.Nat.{ℕ, ◌<◌}
use native.Mathlib.Nat.{pos_of_ne-zero}
use mathlib.Core.Path.{◌≡◌, refl, sym, ap, ◌∙◌}
use mathlib.Core.Logic.{◌⊎◌, inl, inr}
use mathlib.Core.List.{List}
use lib.ListN.{length, get_or}
use Rattle.wire.specs.Checks.{taken, ◌told_by◌}
use Rattle.wire.specs.Fields.{Bytes}
use Rattle.wire.specs.declared.kinds.Name.{Name}
use Rattle.wire.specs.declared.kinds.Password.{Password}
use Rattle.wire.specs.declared.kinds.Sequence.{Sequence}
use Rattle.wire.specs.declared.kinds.User.{User}
use Rattle.wire.specs.declared.refusal.Refusal.TheVariants.{Empty}
use Rattle.wire.proofs.Checks.{not-both}
use Rattle.soup.proofs.Sorting.{empty}
use Rattle.soup.specs.Read.{read}
use Rattle.soup.specs.Reading.{packet_of}
use Rattle.soup.specs.declared.reading.Reading.{Reading}
use Rattle.soup.specs.declared.reading.Reading.TheVariants as says
use Rattle.flat_packet.specs.Packets.{payload, bare}
use Rattle.flat_packet.specs.declared.Read.{Read}
use Rattle.flat_soup.specs.Reading.{flat_soup, flat_said, soup_read}
use Rattle.flat_soup.proofs.Round.{kind-is-the-type-byte}

-- nothing was read of no bytes
pub not-empty : (d : List ℕ) (said : Reading) → read d told_by packet_of ≡ taken said → 0 < length d
not-empty d said e =
    pos_of_ne-zero (λ z. not-both (read d told_by packet_of) Empty said (rw (empty d z)) e)

-- the reader's answer is none of the cases that hold more than their type: it is H, Z, R or O
pub record Alone (r : Reading) : Type 0 where
  pub debug : (start size : ℕ) → r ≡ says.Debug start size → ⊥
  pub accept : (session : Name) (number : Sequence) → r ≡ says.Accept session number → ⊥
  pub reject : (reason : ℕ) → r ≡ says.Reject reason → ⊥
  pub sequenced : (start size : ℕ) → r ≡ says.Sequenced start size → ⊥
  pub login : (user : User) (password : Password) (session : Name) (number : Sequence) → r ≡ says.Login user password session number → ⊥
  pub unsequenced : (start size : ℕ) → r ≡ says.Unsequenced start size → ⊥

module _ (d : List ℕ) (said : Reading) (e : read d told_by packet_of ≡ taken said) where
  -- laid flat, what the reader has said is what its flat function says
  pub by-case : (x : Reading) (r : Read) → said ≡ x → r ≡ flat_soup x → r ≡ soup_read d
  by-case x r k q = q ∙ ap flat_soup (sym k) ∙ ap flat_said (sym e)

  module _ (b : Bytes d) where
    -- a packet whose fields are its type and a place behind it
    by-type : (x : Reading) (kind start size : ℕ) (r : Read) → said ≡ x → flat_soup x ≡ payload kind start size 0
        → r ≡ payload (get_or d 0 0) start size 0 → r ≡ soup_read d
    by-type x kind start size r k f q =
        let same : soup_read d ≡ payload kind start size 0 = ap flat_said e ∙ ap flat_soup k ∙ f in
        let letter : kind ≡ get_or d 0 0 = rw same at (kind-is-the-type-byte d b (rw same)) in
        q ∙ rw (← letter) (sym same)

    pub by-payload : (start size : ℕ) (r : Read)
        → (said ≡ says.Debug start size) ⊎ ((said ≡ says.Sequenced start size) ⊎ (said ≡ says.Unsequenced start size))
        → r ≡ payload (get_or d 0 0) start size 0 → r ≡ soup_read d
    by-payload start size r (inl k) q = by-type (says.Debug start size) 43 start size r k refl q
    by-payload start size r (inr (inl k)) q = by-type (says.Sequenced start size) 83 start size r k refl q
    by-payload start size r (inr (inr k)) q = by-type (says.Unsequenced start size) 85 start size r k refl q

    pub by-type-alone : (r : Read) → Alone said → r ≡ bare (get_or d 0 0) 0 → r ≡ soup_read d
    by-type-alone r o q = by said refl where
      by : (x : Reading) → said ≡ x → r ≡ soup_read d
      by (says.Debug start size) k = absurd (o.debug start size k)
      by (says.Accept session number) k = absurd (o.accept session number k)
      by (says.Reject reason) k = absurd (o.reject reason k)
      by (says.Sequenced start size) k = absurd (o.sequenced start size k)
      by says.ServerHeartbeat k = by-type says.ServerHeartbeat 72 0 0 r k refl q
      by says.EndOfSession k = by-type says.EndOfSession 90 0 0 r k refl q
      by (says.Login user password session number) k = absurd (o.login user password session number k)
      by (says.Unsequenced start size) k = absurd (o.unsequenced start size k)
      by says.ClientHeartbeat k = by-type says.ClientHeartbeat 82 0 0 r k refl q
      by says.Logout k = by-type says.Logout 79 0 0 r k refl q
