use mathlib.Core.Path.{refl, sym}
use mathlib.Core.List.{[], ◌∷◌}
use native.Mathlib.Omega.{arith}
use Rattle.wire.proofs.Settling.{lacks-room, has_room}
use Rattle.blocks.specs.Blocks.{frame}
use Rattle.blocks.proofs.Frames.{length-frame}
use Rattle.ufo_up_write.proofs.UpLaid.{laid-alone}
use Rattle.ufo_up_write.proofs.write_alone.Goals as goal

pub returns-then-out-lt3 : goal.returns-then-out-lt3
returns-then-out-lt3 c =
    let a = c.args in
    let l = length-frame (a.kind ∷ []) in
    lacks-room _ (frame (a.kind ∷ [])) a.out.now refl (omega arith)

pub returns : goal.returns
returns c =
    let a = c.args in
    let l = length-frame (a.kind ∷ []) in
    has_room _ (frame (a.kind ∷ [])) a.out.now refl _ 3 (sym l) (omega arith)
    (rw c.put_head.ensures (laid-alone a.out.now a.kind))
