-- The outcomes of the room's entries are determined.
-- Assumes nothing.
use Rattle.wire.proofs.Outcomes.{Answered, same_answer}
use Rattle.memx.proofs.layout.Kind.byte.Kinds as byte
use Rattle.memx.proofs.layout.Kind.byte.Reads as byte-reads
use Rattle.memx.proofs.layout.KindTryFromU8.try_from.Kinds as try-from
use Rattle.memx.proofs.layout.KindTryFromU8.try_from.Reads as try-from-reads
use Rattle.memx.proofs.reading.read.Kinds as read
use Rattle.memx.proofs.reading.read.Reads as read-reads

byte_is : Answered 0 byte.ps byte.r byte-reads.Post
byte_is κs a x y s t = same_answer

try-from-is : Answered 0 try-from.ps try-from.r try-from-reads.Post
try-from-is κs a x y s t = same_answer

read_is : Answered 1 read.ps read.r read-reads.Post
read_is κs a x y s t = same_answer
