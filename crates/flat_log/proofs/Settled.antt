-- The outcomes of the room's functions are determined.
-- Assumes nothing.
use Prim.Native.Nat.{ℕ}
use mathlib.Core.Path.{◌≡◌}
use mathlib.Core.List.{List}
use Rattle.wire.proofs.Outcomes.{Answered, Determined, same_answer, same-both}
use Rattle.wire.specs.Checks.{Verdict}
use Rattle.lent_log.specs.Log.{Kept}
use Rattle.flat.proofs.Outcomes.{same-flat-reply}
use Rattle.flat_log.specs.Lending.{FlatEntered}
use Rattle.flat_log.specs.declared.FlatLog.{FlatLog}
use Rattle.flat_log.specs.declared.FlatLogged.{FlatLogged}
use Rattle.flat_log.proofs.add.Kinds as add
use Rattle.flat_log.proofs.add.Reads as add_reads
use Rattle.flat_log.proofs.add_many.Kinds as add-many
use Rattle.flat_log.proofs.add_many.Reads as add-many-reads
use Rattle.flat_log.proofs.declare_end.Kinds as declare-end
use Rattle.flat_log.proofs.declare_end.Reads as declare-end-reads
use Rattle.flat_log.proofs.answer.Kinds as answer
use Rattle.flat_log.proofs.answer.Reads as answer-reads
use Rattle.flat_log.proofs.heartbeat.Kinds as heartbeat
use Rattle.flat_log.proofs.heartbeat.Reads as heartbeat-reads
use Rattle.flat_log.proofs.end_packet.Kinds as end-packet
use Rattle.flat_log.proofs.end_packet.Reads as end-packet-reads

-- a verdict settles the log, and its bytes
pub same-entered : {v : Verdict Kept} {given : FlatLog} {out l m : List ℕ} {x y : FlatLogged}
    → FlatEntered v given out x l → FlatEntered v given out y m → (x ≡ y) × (l ≡ m)
same-entered p q = same-both p.answer q.answer p.bytes q.bytes

add_is : Determined 2 add.ps add.r (List ℕ) (λ κs s. s.1.0.now) add_reads.Post
add_is κs a x y s t = same-entered

add-many-is : Determined 2 add-many.ps add-many.r (List ℕ) (λ κs s. s.1.0.now) add-many-reads.Post
add-many-is κs a x y s t = same-entered

declare-end-is : Answered 1 declare-end.ps declare-end.r declare-end-reads.Post
declare-end-is κs a x y s t = same_answer

answer-is : Determined 2 answer.ps answer.r (List ℕ) (λ κs s. s.1.1.1.1.0.now) answer-reads.Post
answer-is κs a x y s t = same-flat-reply

heartbeat-is : Determined 2 heartbeat.ps heartbeat.r (List ℕ) (λ κs s. s.1.1.0.now) heartbeat-reads.Post
heartbeat-is κs a x y s t = same-flat-reply

end-packet-is : Determined 2 end-packet.ps end-packet.r (List ℕ) (λ κs s. s.1.1.0.now) end-packet-reads.Post
end-packet-is κs a x y s t = same-flat-reply
