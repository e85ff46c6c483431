-- What hp_ufo_read_down says of a datagram tells an `E` from all else, and an answer to a login.
-- Assumes nothing.
use Prim.Native.Nat.{ℕ}
use mathlib.Core.Path.{◌≡◌, refl}
use mathlib.Core.List.{List}
use mathlib.Core.Logic.{inl, inr}
use mathlib.Core.Bool.{false}
use borrow.Author.Tests.{eqb-false}
use lib.ListN.{length}
use Rattle.wire.specs.Checks.{◌told_by◌, ◌is◌, Verdict, refused, taken}
use Rattle.ufo.specs.Down as ufo
use Rattle.session.specs.Promise.{LoginAnswer, accepted, rejected}
use Rattle.flat_packet.specs.declared.Read.{Read}
use Rattle.flat_ufo.specs.Reading.{flat_down}
use Rattle.flat_session.specs.Header.{hp-ufo-read-down}
use Rattle.flat_session.specs.Promise.{AnswersLogin}

other : {C : Type 0} (kind : ℕ) → (kind is 69) ≡ false → kind ≡ 69 → C
other kind f e = absurd (eqb-false kind 69 f e)

is-end : (size : ℕ) (v : Verdict ufo.Packet) (x : Read) → x ≡ flat_down size (v told_by ufo.down_of) → x.packet.kind ≡ 69
    → v ≡ taken (ufo.end x.packet.number)
is-end size (refused n) x e k = other 0 refl (rw e at k)
is-end size (taken (ufo.accept session next)) x e k = other 65 refl (rw e at k)
is-end size (taken (ufo.reject reason)) x e k = other 74 refl (rw e at k)
is-end size (taken (ufo.messages first ms)) x e k = other 83 refl (rw e at k)
is-end size (taken (ufo.end total)) x e k = rw e

pub end_read : (d : List ℕ) → hp-ufo-read-down d (λ x. x.packet.kind ≡ 69 → ufo.read d ≡ taken (ufo.end x.packet.number))
end_read d κs a x e g p = is-end (length d) (ufo.read d) x (rw g at p)

pub login-read : (d : List ℕ) → LoginAnswer d → AnswersLogin d
login-read d (accepted session next q) κs a x e g p = rw (p, g, q) (refl, inl refl)
login-read d (rejected reason q) κs a x e g p = rw (p, g, q) (refl, inr refl)
