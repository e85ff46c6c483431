-- The outcomes of the room's functions are determined.
-- Assumes nothing.
use mir.Syntax.{Dict}
use denote.RattleType.{RattleType}
use denote.Param.Laws.{Laws, IsCopy}
use Rattle.std.specs.declared.clone.Clone as Clone
use Rattle.wire.specs.declared.told.Tells as Tells
use Rattle.wire.proofs.Outcomes.{Answered, same_answer}
use Rattle.flat.proofs.block.next_block.Kinds as next-block
use Rattle.flat.proofs.block.next_block.Reads as next-block-reads
use Rattle.flat.proofs.flag.is_flag.Kinds as is-flag
use Rattle.flat.proofs.flag.is_flag.Reads as is-flag-reads
use Rattle.flat.proofs.flag.byte_of.Kinds as byte_of
use Rattle.flat.proofs.flag.byte_of.Reads as byte-of-reads
use Rattle.flat.proofs.name.name_of.Kinds as name_of
use Rattle.flat.proofs.name.name_of.Reads as name-of-reads
use Rattle.flat.proofs.name.user_of.Kinds as user-of
use Rattle.flat.proofs.name.user_of.Reads as user-of-reads
use Rattle.flat.proofs.wrote.wrote_of.Kinds as Wrote-of
use Rattle.flat.proofs.wrote.wrote_of.Reads as wrote-of-reads

next-block-is : Answered 1 next-block.ps next-block.r next-block-reads.Post
next-block-is κs a x y s t = same_answer

is-flag-is : Answered 0 is-flag.ps is-flag.r is-flag-reads.Post
is-flag-is κs a x y s t = same_answer

byte-of-is : Answered 0 byte_of.ps byte_of.r byte-of-reads.Post
byte-of-is κs a x y s t = same_answer

name-of-is : Answered 1 name_of.ps name_of.r name-of-reads.Post
name-of-is κs a x y s t p q = same_answer p.0 q.0

user-of-is : Answered 1 user-of.ps user-of.r user-of-reads.Post
user-of-is κs a x y s t p q = same_answer p.0 q.0

-- whatever tells a refusal
module _ (W : RattleType) (laws : Laws W) (copy : IsCopy W) (tells : Tells.Ghosts W.Denot) (clone : Clone.Ghosts W.Denot) (d e : Dict) where
  wrote-of-is : Answered 1 (Wrote-of.ps W laws copy) (Wrote-of.r W laws copy) (wrote-of-reads.Post W laws copy tells d clone e)
  wrote-of-is κs a x y s t = same_answer
