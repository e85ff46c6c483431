-- What was taken came by one of the four type bytes and passed every check of its type.
-- Assumes nothing.
use Prim.Native.Nat.{ℕ}
use mathlib.Core.Path.{◌≡◌, refl}
use mathlib.Core.List.{List}
use Rattle.wire.specs.Checks.{refused, taken, Passed}
use Rattle.wire.specs.Datagram.{opening}
use Rattle.wire.specs.declared.refusal.Refusal.TheVariants.{UnknownType}
use Rattle.wire.proofs.Checks.{not-both, all-passed, came-by}
use Rattle.blocks.specs.Blocks.{messages_of}
use Rattle.ufo.specs.Down.{Packet, accept, reject, messages, end, session_a, next_a, checks_a, read_a, reason_j, checks_j, read_j, first_s}
use Rattle.ufo.specs.Down.{blocks_s, checks_s, read_s, total_e, checks_e, read_e, kind, by_kind, read}

pub data Came (d : List ℕ) (p : Packet) : Type 0 where
  by-A : kind d ≡ 65 → Passed (checks_a d) → accept (session_a d) (next_a d) ≡ p → Came d p
  by-J : kind d ≡ 74 → Passed (checks_j d) → reject (reason_j d) ≡ p → Came d p
  by-S : kind d ≡ 83 → Passed (checks_s d) → messages (first_s d) (messages_of (blocks_s d)) ≡ p → Came d p
  by-E : kind d ≡ 69 → Passed (checks_e d) → end (total_e d) ≡ p → Came d p

pub came : (d : List ℕ) (p : Packet) → read d ≡ taken p → Passed (opening d) × Came d p
unfolding read read_a read_j read_s read_e
came d p e =
    let k = kind d in
    let c = all-passed (opening d) (by_kind d) p e in
    let by-type = came-by k 65 (checks_a d) _ p _ by-A
    (came-by k 74 (checks_j d) _ p _ by-J
    (came-by k 83 (checks_s d) _ p _ by-S
    (came-by k 69 (checks_e d) _ p _ by-E (not-both (refused UnknownType) UnknownType p refl)))) in
    (c.0, by-type c.1)
