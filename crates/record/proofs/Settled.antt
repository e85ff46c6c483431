-- The outcomes of the room's entries are determined.
-- Assumes nothing.
use Rattle.wire.proofs.Outcomes.{Answered, same_answer}
use Rattle.record.proofs.open.open_ufo.Kinds as open-ufo
use Rattle.record.proofs.open.open_ufo.Reads as open-ufo-reads
use Rattle.record.proofs.open.open_memx.Kinds as open-memx
use Rattle.record.proofs.open.open_memx.Reads as open-memx-reads
use Rattle.record.proofs.hangs.is_well_kept.Kinds as is-well-kept
use Rattle.record.proofs.hangs.is_well_kept.Reads as is-well-kept-reads
use Rattle.record.proofs.hangs.hangs_together.Kinds as hangs-together
use Rattle.record.proofs.hangs.hangs_together.Reads as hangs-together-reads
use Rattle.record.proofs.standing.standing_of.Kinds as standing-of
use Rattle.record.proofs.standing.standing_of.Reads as standing-of-reads
use Rattle.record.proofs.standing.missing_range.Kinds as missing-range
use Rattle.record.proofs.standing.missing_range.Reads as missing-range-reads

open-ufo-is : Answered 0 open-ufo.ps open-ufo.r open-ufo-reads.Post
open-ufo-is κs a x y s t = same_answer

open-memx-is : Answered 0 open-memx.ps open-memx.r open-memx-reads.Post
open-memx-is κs a x y s t = same_answer

is-well-kept-is : Answered 0 is-well-kept.ps is-well-kept.r is-well-kept-reads.Post
is-well-kept-is κs a x y s t = same_answer

hangs-together-is : Answered 0 hangs-together.ps hangs-together.r hangs-together-reads.Post
hangs-together-is κs a x y s t = same_answer

standing-of-is : Answered 0 standing-of.ps standing-of.r standing-of-reads.Post
standing-of-is κs a x y s t = same_answer

missing-range-is : Answered 0 missing-range.ps missing-range.r missing-range-reads.Post
missing-range-is κs a x y s t = same_answer
