-- The outcomes of the room's entries are determined.
-- Assumes nothing.
use Prim.Native.Nat.{ℕ}
use mathlib.Core.List.{List}
use Rattle.wire.proofs.Outcomes.{Determined, same-reply}
use Rattle.soup_write.proofs.write_debug.Kinds as write-debug
use Rattle.soup_write.proofs.write_debug.Reads as write-debug-reads
use Rattle.soup_write.proofs.write_sequenced.Kinds as write-sequenced
use Rattle.soup_write.proofs.write_sequenced.Reads as write-sequenced-reads
use Rattle.soup_write.proofs.write_unsequenced.Kinds as write-unsequenced
use Rattle.soup_write.proofs.write_unsequenced.Reads as write-unsequenced-reads
use Rattle.soup_write.proofs.write_server_heartbeat.Kinds as write-server-heartbeat
use Rattle.soup_write.proofs.write_server_heartbeat.Reads as write-server-heartbeat-reads
use Rattle.soup_write.proofs.write_end_of_session.Kinds as write-end-of-session
use Rattle.soup_write.proofs.write_end_of_session.Reads as write-end-of-session-reads
use Rattle.soup_write.proofs.write_client_heartbeat.Kinds as write-client-heartbeat
use Rattle.soup_write.proofs.write_client_heartbeat.Reads as write-client-heartbeat-reads
use Rattle.soup_write.proofs.write_logout.Kinds as write-logout
use Rattle.soup_write.proofs.write_logout.Reads as write-logout-reads
use Rattle.soup_write.proofs.write_reject.Kinds as write-reject
use Rattle.soup_write.proofs.write_reject.Reads as write-reject-reads
use Rattle.soup_write.proofs.write_accept.Kinds as write-accept
use Rattle.soup_write.proofs.write_accept.Reads as write-accept-reads
use Rattle.soup_write.proofs.write_login.Kinds as write-login
use Rattle.soup_write.proofs.write_login.Reads as write-login-reads

write-debug-is : Determined 2 write-debug.ps write-debug.r (List ℕ) (λ κs s. s.1.0.now) write-debug-reads.Post
write-debug-is κs a x y s t = same-reply

write-sequenced-is : Determined 2 write-sequenced.ps write-sequenced.r (List ℕ) (λ κs s. s.1.0.now) write-sequenced-reads.Post
write-sequenced-is κs a x y s t = same-reply

write-unsequenced-is : Determined 2 write-unsequenced.ps write-unsequenced.r (List ℕ) (λ κs s. s.1.0.now) write-unsequenced-reads.Post
write-unsequenced-is κs a x y s t = same-reply

write-server-heartbeat-is : Determined 1 write-server-heartbeat.ps write-server-heartbeat.r (List ℕ) (λ κs s. s.0.now)
    write-server-heartbeat-reads.Post
write-server-heartbeat-is κs a x y s t = same-reply

write-end-of-session-is : Determined 1 write-end-of-session.ps write-end-of-session.r (List ℕ) (λ κs s. s.0.now)
    write-end-of-session-reads.Post
write-end-of-session-is κs a x y s t = same-reply

write-client-heartbeat-is : Determined 1 write-client-heartbeat.ps write-client-heartbeat.r (List ℕ) (λ κs s. s.0.now)
    write-client-heartbeat-reads.Post
write-client-heartbeat-is κs a x y s t = same-reply

write-logout-is : Determined 1 write-logout.ps write-logout.r (List ℕ) (λ κs s. s.0.now) write-logout-reads.Post
write-logout-is κs a x y s t = same-reply

write-reject-is : Determined 1 write-reject.ps write-reject.r (List ℕ) (λ κs s. s.1.0.now) write-reject-reads.Post
write-reject-is κs a x y s t = same-reply

write-accept-is : Determined 1 write-accept.ps write-accept.r (List ℕ) (λ κs s. s.1.1.0.now) write-accept-reads.Post
write-accept-is κs a x y s t = same-reply

write-login-is : Determined 1 write-login.ps write-login.r (List ℕ) (λ κs s. s.1.1.1.1.0.now) write-login-reads.Post
write-login-is κs a x y s t = same-reply
