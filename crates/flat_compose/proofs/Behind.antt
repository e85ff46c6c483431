-- A body that doesn't belong is refused behind the packet so far, which is looked at first.
-- Assumes nothing.
use Prim.Native.Nat.{ℕ, ◌+◌, ◌≤◌, ◌<◌}
use mathlib.Core.Path.{◌≡◌}
use mathlib.Core.List.{List}
use borrow.Author.Tests.{le-leb, lt-leb}
use lib.ListN.{length, take}
use Rattle.wire.specs.Checks.{Verdict, refused}
use Rattle.wire.specs.Datagram.{limit}
use Rattle.wire.specs.Reply.{answer_of, Settled}
use Rattle.wire.specs.declared.refusal.Refusal.{Refusal}
use Rattle.wire.specs.declared.refusal.Refusal.TheVariants.{Framing}
use Rattle.wire.proofs.Settling.{refuses}
use Rattle.ufo_up.proofs.UpPacket.{Took}
use Rattle.ufo_compose.specs.Compose.{so_far}
use Rattle.flat_packet.specs.Fitting.{unfit}
use Rattle.flat_packet.proofs.Unfitting.{unfits}
use Rattle.flat_compose.specs.Adding.{unfit_behind}

module _ (out : List ℕ) (used size : ℕ) (why : Refusal) where
  pub past_the_end : length out < used → Settled (unfit_behind out used size why) out (refused Framing) out
  past_the_end h = refuses (unfit_behind out used size why) out Framing (rw (lt-leb used (length out) h))

  module _ (h : used ≤ length out) where
    pub as-so-far : (n : Refusal) → so_far (take used out) ≡ refused n → Settled (unfit_behind out used size why) out (refused n) out
    as-so-far n e = refuses (unfit_behind out used size why) out n (rw (le-leb used (length out) h, e))

    pub and-then-unfit : Took (so_far (take used out)) → (r : Verdict ℕ) → r ≡ answer_of (unfit limit (used + size) why)
        → Settled (unfit_behind out used size why) out r out
    and-then-unfit t r a =
        unfits (unfit_behind out used size why) out limit (used + size) why r (rw (le-leb used (length out) h, t.is)) a
