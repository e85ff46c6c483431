-- The outcomes of the room's entries are determined.
-- Assumes nothing.
use Prim.Native.Nat.{ℕ}
use mathlib.Core.List.{List}
use Rattle.wire.proofs.Outcomes.{Determined, same-reply}
use Rattle.ufo_up_write.proofs.write_login.Kinds as write-login
use Rattle.ufo_up_write.proofs.write_login.Reads as write-login-reads
use Rattle.ufo_up_write.proofs.write_request.Kinds as write-request
use Rattle.ufo_up_write.proofs.write_request.Reads as write-request-reads
use Rattle.ufo_up_write.proofs.write_unsequenced.Kinds as write-unsequenced
use Rattle.ufo_up_write.proofs.write_unsequenced.Reads as write-unsequenced-reads
use Rattle.ufo_up_write.proofs.write_heartbeat.Kinds as write-heartbeat
use Rattle.ufo_up_write.proofs.write_heartbeat.Reads as write-heartbeat-reads
use Rattle.ufo_up_write.proofs.write_logout.Kinds as write-logout
use Rattle.ufo_up_write.proofs.write_logout.Reads as write-logout-reads

write-login-is : Determined 1 write-login.ps write-login.r (List ℕ) (λ κs s. s.1.1.1.0.now) write-login-reads.Post
write-login-is κs a x y s t = same-reply

write-request-is : Determined 1 write-request.ps write-request.r (List ℕ) (λ κs s. s.1.1.0.now) write-request-reads.Post
write-request-is κs a x y s t = same-reply

write-unsequenced-is : Determined 2 write-unsequenced.ps write-unsequenced.r (List ℕ) (λ κs s. s.1.0.now) write-unsequenced-reads.Post
write-unsequenced-is κs a x y s t = same-reply

write-heartbeat-is : Determined 1 write-heartbeat.ps write-heartbeat.r (List ℕ) (λ κs s. s.0.now) write-heartbeat-reads.Post
write-heartbeat-is κs a x y s t = same-reply

write-logout-is : Determined 1 write-logout.ps write-logout.r (List ℕ) (λ κs s. s.0.now) write-logout-reads.Post
write-logout-is κs a x y s t = same-reply
