-- The outcomes of the room's entries are determined.
-- Assumes nothing.
use Prim.Native.Nat.{ℕ}
use mathlib.Core.List.{List}
use Rattle.wire.proofs.Outcomes.{Determined, same-reply}
use Rattle.ufo_write.proofs.write_accept.Kinds as write-accept
use Rattle.ufo_write.proofs.write_accept.Reads as write-accept-reads
use Rattle.ufo_write.proofs.write_reject.Kinds as write-reject
use Rattle.ufo_write.proofs.write_reject.Reads as write-reject-reads
use Rattle.ufo_write.proofs.write_messages.Kinds as write-messages
use Rattle.ufo_write.proofs.write_messages.Reads as write-messages-reads
use Rattle.ufo_write.proofs.write_end.Kinds as write-end
use Rattle.ufo_write.proofs.write_end.Reads as write-end-reads

write-accept-is : Determined 1 write-accept.ps write-accept.r (List ℕ) (λ κs s. s.1.1.0.now) write-accept-reads.Post
write-accept-is κs a x y s t = same-reply

write-reject-is : Determined 1 write-reject.ps write-reject.r (List ℕ) (λ κs s. s.1.0.now) write-reject-reads.Post
write-reject-is κs a x y s t = same-reply

write-messages-is : Determined 2 write-messages.ps write-messages.r (List ℕ) (λ κs s. s.1.1.1.0.now) write-messages-reads.Post
write-messages-is κs a x y s t = same-reply

write-end-is : Determined 1 write-end.ps write-end.r (List ℕ) (λ κs s. s.1.0.now) write-end-reads.Post
write-end-is κs a x y s t = same-reply
