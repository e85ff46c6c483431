-- A header's extra bytes are skipped: a packet is reported to a record as the same packet without them.
-- Assumes nothing.
use Prim.Native.Nat.{ℕ, ◌≤◌}
use mathlib.Core.Path.{◌≡◌, refl, sym, ◌∙◌}
use mathlib.Core.List.{List, []}
use native.Mathlib.Omega.{arith}
use lib.ListN.{length}
use Rattle.wire.specs.declared.kinds.SessionId.{SessionId}
use Rattle.blocks.specs.Blocks.{frames}
use Rattle.memx.specs.Packet.{Packet, heartbeat, shutdown, messages, plain, limit, write, FitExtra, Fit}
use Rattle.memx.proofs.Header.{length-laid}
use Rattle.record.specs.declared.Session.TheVariants.{Memx}
use Rattle.reports.specs.Reports.{of_memx, report_of}
use Rattle.reports.proofs.Reports.{reports-memx}

none-fit : FitExtra []
none-fit = record { few = omega arith; bytes = λ i. omega arith }

-- without its extra bytes a packet is shorter
no_longer : (session first : ℕ) (extra : List ℕ) (ms : List (List ℕ)) → length (write (messages session first extra ms)) ≤ limit
    → length (write (messages session first [] ms)) ≤ limit
unfolding write
no_longer session first extra ms h =
    let long = length-laid session first (length ms) extra (frames ms) in
    let short = length-laid session first (length ms) [] (frames ms) in
    omega arith

pub plain-fit : (p : Packet) → Fit p → Fit (plain p)
plain-fit (heartbeat session highest extra) f = record { session = f.session; bound = f.bound; extra = none-fit }
plain-fit (shutdown session highest extra) f = record { session = f.session; bound = f.bound; extra = none-fit }
plain-fit (messages session first extra ms) f = record {
  session = f.session;
  numbered = f.numbered;
  some = f.some;
  bound = f.bound;
  extra = none-fit;
  bytes = f.bytes;
  size = no_longer session first extra ms f.size;
}

module _ (id : SessionId) where
  same : (p : Packet) → of_memx id.0 p ≡ of_memx id.0 (plain p)
  same (heartbeat session highest extra) = refl
  same (shutdown session highest extra) = refl
  same (messages session first extra ms) = refl

  pub extra-unreported : (p : Packet) → Fit p → report_of (Memx id) (write p) ≡ report_of (Memx id) (write (plain p))
  extra-unreported p f = reports-memx id p f ∙ same p ∙ sym (reports-memx id (plain p) (plain-fit p f))
