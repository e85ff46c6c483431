-- A lawful packet is written whenever the room is enough.
-- Assumes nothing.
use Prim.Native.Nat.{ℕ, ◌≤◌}
use mathlib.Core.Path.{◌≡◌, ◌∙◌}
use mathlib.Core.List.{List}
use native.Mathlib.Omega.{arith}
use borrow.Author.Tests.{le-leb}
use lib.ListN.{length}
use Rattle.wire.specs.Checks.{taken}
use Rattle.wire.specs.Reply.{Reply, within}
use Rattle.wire.proofs.Settling.{enough-room}
use Rattle.blocks.specs.Blocks.{frames}
use Rattle.ufo.specs.Numbers.{highest, capped}
use Rattle.ufo.specs.Down.{Packet, accept, reject, messages, end, write, Fit, read}
use Rattle.ufo_write.specs.WriteDown.{reply, accept_reply, reject_reply, messages_reply, end_reply}
use Rattle.ufo.proofs.Exact.{written-is-read}

-- what is replied to the fields of a packet
abbrev pub reply_to : Packet → ℕ → Reply
reply_to (accept session next) room = accept_reply session next room
reply_to (reject reason) room = reject_reply reason room
reply_to (messages first ms) room = messages_reply first (length ms) (frames ms) room
reply_to (end total) room = end_reply total room

numbered : (lay : ℕ → List ℕ) (n room : ℕ) (p : Packet) → n ≤ highest → read (lay n) ≡ taken p → reply lay n room ≡ within room (lay n)
numbered lay n room p h e = let same : capped n ≡ n = omega arith in rw (le-leb n highest h, same, e)

pub lawful-reply : (p : Packet) (room : ℕ) → Fit p → reply_to p room ≡ within room (write p)
unfolding accept_reply reject_reply messages_reply end_reply
lawful-reply (accept session next) room f =
    numbered (λ n. write (accept session n)) next room (accept session next) f.bound (written-is-read (accept session next) f)
lawful-reply (reject reason) room f = rw (written-is-read (reject reason) f)
lawful-reply (messages first ms) room f =
    numbered (λ n. write (messages n ms)) first room (messages first ms) (omega (arith, f.bound)) (written-is-read (messages first ms) f)
lawful-reply (end total) room f =
    numbered (λ n. write (end n)) total room (end total) (omega arith) (written-is-read (end total) f)

pub lawful-fit : (p : Packet) (room : ℕ) → Fit p → length (write p) ≤ room → reply_to p room ≡ taken (write p)
lawful-fit p room f h = lawful-reply p room f ∙ enough-room (write p) room h
