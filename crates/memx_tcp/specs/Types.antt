-- The code's types: the byte of each, and the type that a byte stands for, as the paper numbers them.
-- Assumes nothing.
use Rattle.std.specs.Prelude.{ℕ, List, [], ◌∷◌, if◌then◌else◌}
use Rattle.wire.specs.Checks.{◌is◌, Verdict, refused, taken}
use Rattle.wire.specs.declared.refusal.Refusal.TheVariants.{UnknownType}
use Rattle.memx_tcp.specs.declared.types.Kind.{Kind}
use Rattle.memx_tcp.specs.declared.types.Kind.TheVariants as kind

abbrev pub byte_of : Kind → ℕ
byte_of kind.Heartbeat = 0
byte_of kind.LoginAccepted = 1
byte_of kind.LoginRejected = 2
byte_of kind.StartOfSession = 3
byte_of kind.EndOfSession = 4
byte_of kind.ReplayBegin = 5
byte_of kind.ReplayRejected = 6
byte_of kind.ReplayComplete = 7
byte_of kind.StreamBegin = 8
byte_of kind.StreamRejected = 9
byte_of kind.StreamComplete = 10
byte_of kind.Sequenced = 11
byte_of kind.Login = 100
byte_of kind.Replay = 101
byte_of kind.ReplayAll = 102
byte_of kind.Stream = 103
byte_of kind.Unsequenced = 104

abbrev pub kinds : List Kind
kinds =
    kind.Heartbeat
    ∷ kind.LoginAccepted
    ∷ kind.LoginRejected
    ∷ kind.StartOfSession
    ∷ kind.EndOfSession
    ∷ kind.ReplayBegin
    ∷ kind.ReplayRejected
    ∷ kind.ReplayComplete
    ∷ kind.StreamBegin
    ∷ kind.StreamRejected
    ∷ kind.StreamComplete
    ∷ kind.Sequenced
    ∷ kind.Login
    ∷ kind.Replay
    ∷ kind.ReplayAll
    ∷ kind.Stream
    ∷ kind.Unsequenced
    ∷ []

abbrev pub kind_among : List Kind → ℕ → Verdict Kind
kind_among [] byte = refused UnknownType
kind_among (k ∷ ks) byte = if byte is byte_of k then taken k else kind_among ks byte

abbrev pub kind_of : ℕ → Verdict Kind
kind_of byte = kind_among kinds byte
