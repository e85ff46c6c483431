-- The outcomes of the room's functions are determined.
-- Assumes nothing.
use Prim.Native.Nat.{ℕ}
use mathlib.Core.List.{List}
use Rattle.wire.proofs.Outcomes.{Answered, Determined, same_answer}
use Rattle.flat.proofs.Outcomes.{same-flat-reply}
use Rattle.flat_soup.proofs.read.Kinds as read
use Rattle.flat_soup.proofs.read.Reads as read-reads
use Rattle.flat_soup.proofs.write.Kinds as write
use Rattle.flat_soup.proofs.write.Reads as write-reads

read_is : Answered 1 read.ps read.r read-reads.Post
read_is κs a x y s t = same_answer

write-is : Determined 2 write.ps write.r (List ℕ) (λ κs s. s.1.1.0.now) write-reads.Post
write-is κs a x y s t = same-flat-reply
