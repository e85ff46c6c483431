-- The outcomes of the room's entries are determined.
-- Assumes nothing.
use Prim.Native.Nat.{ℕ}
use mathlib.Core.List.{List}
use Rattle.wire.proofs.Outcomes.{Determined, same-reply}
use Rattle.lend.proofs.answer.Kinds as answer
use Rattle.lend.proofs.answer.Reads as answer-reads
use Rattle.lend.proofs.heartbeat.Kinds as heartbeat
use Rattle.lend.proofs.heartbeat.Reads as heartbeat-reads
use Rattle.lend.proofs.end_packet.Kinds as end-packet
use Rattle.lend.proofs.end_packet.Reads as end-packet-reads

answer-is : Determined 2 answer.ps answer.r (List ℕ) (λ κs s. s.1.1.1.1.0.now) answer-reads.Post
answer-is κs a x y s t = same-reply

heartbeat-is : Determined 2 heartbeat.ps heartbeat.r (List ℕ) (λ κs s. s.1.1.0.now) heartbeat-reads.Post
heartbeat-is κs a x y s t = same-reply

end-packet-is : Determined 2 end-packet.ps end-packet.r (List ℕ) (λ κs s. s.1.1.0.now) end-packet-reads.Post
end-packet-is κs a x y s t = same-reply
