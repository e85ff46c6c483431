-- `write_request` meets its contract: what the reader would refuse, then 9, then the block.
use mathlib.Core.Path.{◌≡◌, refl, ◌∙◌}
use mathlib.Core.List.{[], ◌∷◌}
use native.Mathlib.Omega.{arith}
use lib.ListN.{length}
use Rattle.wire.specs.Fields.{bytes_of}
use Rattle.wire.specs.Checks.{◌else◌, checked}
use Rattle.wire.specs.Reply.{within}
use Rattle.wire.specs.declared.refusal.Refusal.TheVariants.{Absent, Bound, Room}
use Rattle.wire.proofs.Settling.{refuses, writes}
use Rattle.wire.proofs.Tests.{tests}
use Rattle.blocks.specs.Blocks.{frame}
use Rattle.ufo_up.specs.Up.{request, write_message}
use Rattle.ufo.specs.Numbers.{held}
use Rattle.ufo_up_write.specs.WriteUp.{reply}
use Rattle.ufo_up.proofs.UpExactOne.{left_t}
use Rattle.ufo_up_write.proofs.UpReplies.{reply-request}
use Rattle.ufo_up_write.proofs.UpLaid.{laid-request}
use Rattle.ufo_up_write.proofs.write_request.Goals.{Start}
use Rattle.ufo_up_write.proofs.write_request.Goals as goal

-- the reply, by what is left to check
replies : (s : Start) → let a = s.args in let m = request a.first.0 a.count in let room = length a.out.now in
    reply m room ≡ checked (left_t a.first.0 a.count)
    (checked ((held a.first.0 else Bound) ∷ []) (within room (frame (write_message m))))
replies s = let a = s.args in reply-request a.first.0 a.count (length a.out.now) (omega arith)

pub returns-then-number-eq0 : goal.returns-then-number-eq0
returns-then-number-eq0 c = refuses _ _ Absent (replies (goal.at.returns-then-number-eq0 c).Start ∙ search tests)

pub returns-then-count-eq0 : goal.returns-then-count-eq0
returns-then-count-eq0 c = refuses _ _ Absent (replies (goal.at.returns-then-count-eq0 c).Start ∙ search tests)

pub returns-then-number-gt-HIGHEST : goal.returns-then-number-gt-HIGHEST
returns-then-number-gt-HIGHEST c = refuses _ _ Bound (replies (goal.at.returns-then-number-gt-HIGHEST c).Start ∙ search tests)

pub returns-then-out-lt9 : goal.returns-then-out-lt9
unfolding bytes_of
returns-then-out-lt9 c = refuses _ _ Room (replies (goal.at.returns-then-out-lt9 c).Start ∙ search tests)

pub returns : goal.returns
unfolding bytes_of
returns c =
    let a = c.args in
    writes _ _ (frame (write_message (request a.first.0 a.count))) _ 9 (replies (goal.at.returns c).Start ∙ search tests) refl (omega arith)
    (rw (c.put2.ensures, c.put4.ensures, c.put_head.ensures) (laid-request a.out.now a.first.0 a.count))
