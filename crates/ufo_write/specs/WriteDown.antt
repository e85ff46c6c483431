-- UFO, server to client: what a writer lays into lent output, or the number under which it refuses.
-- Assumes nothing.
use Rattle.std.specs.Prelude.{ℕ, List, [], ◌∷◌}
use Rattle.wire.specs.Checks.{Verdict, taken, ◌else◌, checked, ◌into◌}
use Rattle.wire.specs.Reply.{Reply, settle}
use Rattle.wire.specs.declared.refusal.Refusal.TheVariants.{Bound}
use Rattle.ufo.specs.Numbers.{held, capped}
use Rattle.ufo.specs.Down.{Packet, accept, reject, end, laid, write, read}

-- what the reader says of the packet that `lay` makes of a number. One that the field can't hold is above its bound: that is 7, in its
-- place after all else that the reader refuses. `DownReplies` shows each reply by the packet's fields, `DownLawful` that a lawful packet is
-- written
abbrev pub verdict : (ℕ → List ℕ) → ℕ → Verdict Packet
verdict lay n = read (lay (capped n)) into (λ p. checked ((held n else Bound) ∷ []) (taken p))

abbrev pub reply : (ℕ → List ℕ) → ℕ → ℕ → Reply
reply lay n room = settle (verdict lay n) (lay n) room

unfoldable pub accept_reply : List ℕ → ℕ → ℕ → Reply
accept_reply session next room = reply (λ n. write (accept session n)) next room

unfoldable pub reject_reply : ℕ → ℕ → Reply
reject_reply reason room = settle (read (write (reject reason))) (write (reject reason)) room

-- the blocks stand there already
unfoldable pub messages_reply : ℕ → ℕ → List ℕ → ℕ → Reply
messages_reply first count blocks room = reply (λ n. laid n count blocks) first room

unfoldable pub end_reply : ℕ → ℕ → Reply
end_reply total room = reply (λ n. write (end n)) total room
