-- The outcomes of the room's entries are determined.
-- Assumes nothing.
use Prim.Native.Nat.{ℕ}
use mathlib.Core.List.{List}
use Rattle.wire.proofs.Outcomes.{Determined, same-reply}
use Rattle.memx_write.proofs.write_heartbeat.Kinds as write-heartbeat
use Rattle.memx_write.proofs.write_heartbeat.Reads as write-heartbeat-reads
use Rattle.memx_write.proofs.write_shutdown.Kinds as write-shutdown
use Rattle.memx_write.proofs.write_shutdown.Reads as write-shutdown-reads
use Rattle.memx_write.proofs.write_messages.Kinds as write-messages
use Rattle.memx_write.proofs.write_messages.Reads as write-messages-reads

write-heartbeat-is : Determined 2 write-heartbeat.ps write-heartbeat.r (List ℕ) (λ κs s. s.1.1.1.0.now) write-heartbeat-reads.Post
write-heartbeat-is κs a x y s t = same-reply

write-shutdown-is : Determined 2 write-shutdown.ps write-shutdown.r (List ℕ) (λ κs s. s.1.1.1.0.now) write-shutdown-reads.Post
write-shutdown-is κs a x y s t = same-reply

write-messages-is : Determined 3 write-messages.ps write-messages.r (List ℕ) (λ κs s. s.1.1.1.1.1.0.now) write-messages-reads.Post
write-messages-is κs a x y s t = same-reply
