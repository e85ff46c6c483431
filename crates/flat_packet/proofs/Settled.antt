-- The outcomes of the room's functions are determined.
-- Assumes nothing.
use mir.Syntax.{Dict}
use denote.RattleType.{RattleType}
use denote.Param.Laws.{Laws, IsCopy}
use Rattle.std.specs.declared.clone.Clone as Clone
use Rattle.wire.specs.declared.told.Tells as Tells
use Rattle.wire.proofs.Outcomes.{Answered, same_answer}
use Rattle.flat_packet.proofs.nothing.Kinds as nothing
use Rattle.flat_packet.proofs.nothing.Reads as nothing-reads
use Rattle.flat_packet.proofs.no_packet.Kinds as no-packet
use Rattle.flat_packet.proofs.no_packet.Reads as no-packet-reads
use Rattle.flat_packet.proofs.bare.Kinds as bare
use Rattle.flat_packet.proofs.bare.Reads as bare-reads
use Rattle.flat_packet.proofs.named.Kinds as named
use Rattle.flat_packet.proofs.named.Reads as named-reads
use Rattle.flat_packet.proofs.rejected.Kinds as rejected
use Rattle.flat_packet.proofs.rejected.Reads as rejected-reads
use Rattle.flat_packet.proofs.payload.Kinds as payload
use Rattle.flat_packet.proofs.payload.Reads as payload-reads
use Rattle.flat_packet.proofs.logged_in.Kinds as logged-in
use Rattle.flat_packet.proofs.logged_in.Reads as logged-in-reads
use Rattle.flat_packet.proofs.numbered.Kinds as numbered
use Rattle.flat_packet.proofs.numbered.Reads as numbered-reads
use Rattle.flat_packet.proofs.counted.Kinds as counted
use Rattle.flat_packet.proofs.counted.Reads as counted-reads
use Rattle.flat_packet.proofs.broadcast.Kinds as broadcast
use Rattle.flat_packet.proofs.broadcast.Reads as broadcast-reads
use Rattle.flat_packet.proofs.requested.Kinds as requested
use Rattle.flat_packet.proofs.requested.Reads as requested-reads
use Rattle.flat_packet.proofs.fitting.unfit.Kinds as unfit
use Rattle.flat_packet.proofs.fitting.unfit.Reads as unfit-reads

nothing-is : Answered 0 nothing.ps nothing.r nothing-reads.Post
nothing-is κs a x y s t = same_answer

bare-is : Answered 0 bare.ps bare.r bare-reads.Post
bare-is κs a x y s t = same_answer

named-is : Answered 0 named.ps named.r named-reads.Post
named-is κs a x y s t = same_answer

rejected-is : Answered 0 rejected.ps rejected.r rejected-reads.Post
rejected-is κs a x y s t = same_answer

payload-is : Answered 0 payload.ps payload.r payload-reads.Post
payload-is κs a x y s t = same_answer

logged-in-is : Answered 0 logged-in.ps logged-in.r logged-in-reads.Post
logged-in-is κs a x y s t = same_answer

numbered_is : Answered 0 numbered.ps numbered.r numbered-reads.Post
numbered_is κs a x y s t = same_answer

counted_is : Answered 0 counted.ps counted.r counted-reads.Post
counted_is κs a x y s t = same_answer

broadcast-is : Answered 0 broadcast.ps broadcast.r broadcast-reads.Post
broadcast-is κs a x y s t = same_answer

requested-is : Answered 0 requested.ps requested.r requested-reads.Post
requested-is κs a x y s t = same_answer

-- whatever tells a refusal
module _ (W : RattleType) (laws : Laws W) (copy : IsCopy W) (tells : Tells.Ghosts W.Denot) (clone : Clone.Ghosts W.Denot) (d e : Dict) where
  no-packet-is : Answered 1 (no-packet.ps W laws copy) (no-packet.r W laws copy) (no-packet-reads.Post W laws copy tells d clone e)
  no-packet-is κs a x y s t = same_answer

  unfit-is : Answered 2 (unfit.ps W laws copy) (unfit.r W laws copy) (unfit-reads.Post W laws copy tells d clone e)
  unfit-is κs a x y s t = same_answer
