-- What the reader says of any packet is what one list of checks says, and they stand in the readers' order: 1, 2, 3, 4, 8, 5, 6, 7.
-- Assumes nothing.
use Rattle.std.specs.Prelude.{if◌then◌else◌}
use Prim.Native.Nat.{ℕ}
use mathlib.Core.Path.{◌≡◌}
use mathlib.Core.List.{List, ◌∷◌, ◌++◌}
use mathlib.Core.Bool.{Bool, true, ◌||◌}
use Rattle.wire.specs.Checks.{◌is◌, taken, Check, ◌else◌, checked, ordered}
use Rattle.wire.specs.Datagram.{opening}
use Rattle.wire.specs.declared.refusal.Refusal.TheVariants.{UnknownType}
use Rattle.wire.proofs.Tests.{by-test}
use Rattle.blocks.specs.Blocks.{messages_of}
use Rattle.ufo.specs.Down.{Packet, accept, reject, messages, end, session_a, next_a, checks_a, read_a, reason_j, checks_j, read_j}
use Rattle.ufo.specs.Down.{first_s, blocks_s, checks_s, read_s, total_e, checks_e, read_e, kind, read}

module _ (d : List ℕ) where
  -- the type is one of the four
  abbrev known : Bool
  known = kind d is 65 || kind d is 74 || kind d is 83 || kind d is 69

  -- what is checked of its type
  abbrev of_type : List Check
  of_type =
      if kind d is 65 then checks_a d else
      if kind d is 74 then checks_j d else
      if kind d is 83 then checks_s d else
      checks_e d

  -- all that is checked of a packet, in one list
  abbrev pub checks : List Check
  checks = opening d ++ (known else UnknownType) ∷ of_type

  -- what it says, if none fails
  abbrev pub says : Packet
  says =
      if kind d is 65 then accept (session_a d) (next_a d) else
      if kind d is 74 then reject (reason_j d) else
      if kind d is 83 then messages (first_s d) (messages_of (blocks_s d)) else
      end (total_e d)

  pub read-is-checked : read d ≡ checked checks (taken says)
  unfolding read read_a read_j read_s read_e
  read-is-checked =
      by-test (kind d is 65) (λ a. rw a)
      (λ a. by-test (kind d is 74) (λ j. rw (a, j))
      (λ j. by-test (kind d is 83) (λ s. rw (a, j, s))
      (λ s. by-test (kind d is 69) (λ e. rw (a, j, s, e)) (λ e. rw (a, j, s, e)))))

  pub in_order : ordered checks ≡ true
  in_order =
      by-test (kind d is 65) (λ a. rw a)
      (λ a. by-test (kind d is 74) (λ j. rw (a, j))
      (λ j. by-test (kind d is 83) (λ s. rw (a, j, s)) (λ s. rw (a, j, s))))
