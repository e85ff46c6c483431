-- The outcomes of the room's entries are determined.
-- Assumes nothing.
use Prim.Native.Nat.{ℕ}
use mathlib.Core.List.{List}
use Rattle.wire.proofs.Outcomes.{Answered, Determined, same_answer, same-reply}
use Rattle.memx_tcp.proofs.types.Kind.byte.Kinds as byte
use Rattle.memx_tcp.proofs.types.Kind.byte.Reads as byte-reads
use Rattle.memx_tcp.proofs.types.KindTryFromU8.try_from.Kinds as try-from
use Rattle.memx_tcp.proofs.types.KindTryFromU8.try_from.Reads as try-from-reads
use Rattle.memx_tcp.proofs.packet.Fields.none.Kinds as none
use Rattle.memx_tcp.proofs.packet.Fields.none.Reads as none-reads
use Rattle.memx_tcp.proofs.reading.read.Kinds as read
use Rattle.memx_tcp.proofs.reading.read.Reads as read-reads
use Rattle.memx_tcp.proofs.writing.write.Kinds as write
use Rattle.memx_tcp.proofs.writing.write.Reads as write-reads

byte_is : Answered 0 byte.ps byte.r byte-reads.Post
byte_is κs a x y s t = same_answer

try-from-is : Answered 0 try-from.ps try-from.r try-from-reads.Post
try-from-is κs a x y s t = same_answer

none-is : Answered 0 none.ps none.r none-reads.Post
none-is κs a x y s t = same_answer

read_is : Answered 1 read.ps read.r read-reads.Post
read_is κs a x y s t = same_answer

write-is : Determined 2 write.ps write.r (List ℕ) (λ κs s. s.1.1.0.now) write-reads.Post
write-is κs a x y s t = same-reply
