-- `write_unsequenced` meets its contract: what the reader would refuse, then 9, then the block.
use mathlib.Core.Path.{◌∙◌}
use mathlib.Core.List.{◌∷◌}
use native.Mathlib.Omega.{arith}
use lib.ListN.{length}
use lib.Seq.{take-length}
use Rattle.wire.specs.declared.refusal.Refusal.TheVariants.{Overlong}
use Rattle.wire.proofs.Settling.{refuses, lacks-room, has_room}
use Rattle.wire.proofs.Tests.{tests}
use Rattle.blocks.specs.Blocks.{frame}
use Rattle.blocks.proofs.Frames.{length-frame}
use Rattle.ufo_up_write.proofs.UpReplies.{reply-unsequenced}
use Rattle.ufo_up_write.proofs.UpLaid.{laid-unsequenced}
use Rattle.ufo_up_write.proofs.write_unsequenced.Goals as goal

pub returns-then-size-gt-DATA : goal.returns-then-size-gt-DATA
returns-then-size-gt-DATA c = refuses _ _ Overlong (reply-unsequenced _ _ ∙ search tests)

pub returns-then-out-size : goal.returns-then-out-size
returns-then-out-size c =
    let a = c.args in
    let packet = frame (85 ∷ a.«data».now) in
    let l = length-frame (85 ∷ a.«data».now) in
    lacks-room _ packet a.out.now (reply-unsequenced a.«data».now (length a.out.now) ∙ search tests) (omega arith)

pub returns : goal.returns
returns c =
    let a = c.args in
    let bytes = a.«data».now in
    let out = a.out.now in
    let l = length-frame (85 ∷ bytes) in
    has_room _ (frame (85 ∷ bytes)) out (reply-unsequenced bytes (length out) ∙ search tests) _ _ (omega arith) (omega arith)
    (rw (c.copy.ensures, c.put_head.ensures, take-length bytes) (laid-unsequenced out bytes))
