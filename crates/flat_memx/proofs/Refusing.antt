-- MEMX-UDP: a type that is none is 3, and a body behind a header alone 4, or 5 where the header is too long; where the whole is over the
-- limit, each is 2.
-- Assumes nothing.
use Rattle.std.specs.Prelude.{if◌then◌else◌}
use Prim.Native.Nat.{ℕ, ◌+◌, ◌^◌, ◌≤◌, ◌<◌}
use mathlib.Core.Path.{◌≡◌, refl, sym}
use mathlib.Core.Bool.{Bool, true, false}
use mathlib.Core.List.{List}
use native.Mathlib.Omega.{arith}
use borrow.Author.Tests.{le-leb, lt-leb, ne_eqb}
use lib.Dec.{leb}
use lib.ListN.{length}
use Rattle.wire.specs.Checks.{◌at_most◌, refused}
use Rattle.wire.specs.Reply.{settle}
use Rattle.wire.specs.declared.refusal.Refusal.TheVariants.{Overlong, UnknownType, Framing, Form}
use Rattle.wire.proofs.Tests.{leb-same}
use Rattle.memx.specs.Packet as memx
use Rattle.memx.specs.Packet.{limit, headed}
use Rattle.memx.proofs.Verdicts.{headed-verdict, news-verdict}
use Rattle.flat_packet.specs.declared.Packet.{Packet}
use Rattle.flat_packet.specs.Fitting.{unfit}
use Rattle.flat_packet.proofs.Refusing.{stands}
use Rattle.flat_memx.specs.Writing.{memx_reply}

-- one of two refusals stands
either-stands : (small few : Bool) (d : List ℕ) (room : ℕ)
    → settle {A = memx.Packet} (if small then if few then refused Framing else refused Form else refused Overlong) d room
    ≡ (if small then refused (if few then Framing else Form) else refused Overlong)
either-stands true true d room = refl
either-stands true false d room = refl
either-stands false few d room = refl

module _ (p : Packet) (extra body : List ℕ) (room : ℕ) where
  abbrev size : ℕ
  size = 18 + length extra + length body

  pub unknown-type : 2 < p.kind → memx_reply p extra body room ≡ unfit limit size UnknownType
  unfolding memx_reply
  unknown-type u =
      rw (ne_eqb p.kind 2 (λ e. omega arith), headed-verdict p.kind p.session p.number extra body, lt-leb p.kind 2 u)
      (sym (stands memx.Packet (headed p.kind p.session p.number extra body) room (leb size limit) UnknownType))

  pub news-with-body : p.session < 2 ^ 64 → p.number < 2 ^ 64 → p.kind ≤ 1 → 0 < length body
      → memx_reply p extra body room ≡ unfit limit size (if length extra at_most 237 then Framing else Form)
  unfolding memx_reply
  news-with-body s n k b =
      let other = ne_eqb p.kind 2 (λ e. omega arith) in
      rw (
        other,
        news-verdict p.kind p.session p.number extra body s n other,
        le-leb p.kind 2 (omega arith),
        ne_eqb (length body) 0 (λ e. omega arith),
        leb-same (18 + length extra) 255 (length extra) 237 (λ e. omega arith) (λ e. omega arith),
      )
      (either-stands (leb size limit) (leb (length extra) 237) (headed p.kind p.session p.number extra body) room)
