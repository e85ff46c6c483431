-- What is added of the flat fields of a UFO message of the client behind the packet so far: the type says which fields are taken, and what
-- the body is.
-- Assumes nothing.
use Rattle.std.specs.Prelude.{ℕ, ◌+◌, ◌≡◌, List, [], ◌∷◌, length, take, if◌then◌else◌}
use Rattle.wire.specs.Checks.{◌is◌, ◌at_most◌, Verdict, ◌else◌, checked, ◌into◌}
use Rattle.wire.specs.Datagram.{limit}
use Rattle.wire.specs.Reply.{Reply}
use Rattle.wire.specs.declared.refusal.Refusal.{Refusal}
use Rattle.wire.specs.declared.refusal.Refusal.TheVariants.{UnknownType, Framing}
use Rattle.ufo_up.specs.Up as up
use Rattle.ufo_compose.specs.Compose.{message_of, so_far, add_reply}
use Rattle.ufo_compose.specs.declared.Message as declared
use Rattle.flat_packet.specs.declared.Packet.{Packet}
use Rattle.flat_packet.specs.Fitting.{unfit}

-- the packet so far, which must be in the output
abbrev pub begun : List ℕ → ℕ → Verdict (List up.Message)
begun out used = checked ((used at_most length out else Framing) ∷ []) (so_far (take used out))

-- a block of `size` bytes behind it that can't be
abbrev pub unfit_behind : (out : List ℕ) (used size : ℕ) → Refusal → Reply
unfit_behind out used size why = begun out used into λ _. unfit limit (used + size) why

-- a type that has no body
abbrev pub alone_behind : (out : List ℕ) (used size : ℕ) → List ℕ → Reply → Reply
alone_behind out used size body reply =
    if length body is 0 then reply else unfit_behind out used (size + length body) Framing

-- the login that the fields are, whatever bytes are lent beside it
abbrev pub IsLogin : Packet → declared.Message → Type 0
IsLogin p m = (bytes : List ℕ) → message_of m bytes ≡ up.login p.user p.password p.name

-- L T U R O. `Refusing` shows that the reader refuses of the whole packet what is refused here
unfoldable pub add_flat : Packet → (body out : List ℕ) (used : ℕ) → Reply
add_flat p body out used =
    if p.kind is 76 then alone_behind out used 29 body (add_reply (up.login p.user p.password p.name) out used) else
    if p.kind is 84 then alone_behind out used 9 body (add_reply (up.request p.number p.count) out used) else
    if p.kind is 85 then add_reply (up.unsequenced body) out used else
    if p.kind is 82 then alone_behind out used 3 body (add_reply up.heartbeat out used) else
    if p.kind is 79 then alone_behind out used 3 body (add_reply up.logout out used) else
    unfit_behind out used (3 + length body) UnknownType
