-- The outcomes of the room's entries are determined.
-- Assumes nothing.
use Prim.Native.Nat.{ℕ}
use mathlib.Core.List.{List}
use Rattle.wire.proofs.Outcomes.{Answered, Determined, same_answer, same-both}
use Rattle.held.proofs.slots.is_ahead_full.Kinds as is-ahead-full
use Rattle.held.proofs.slots.is_ahead_full.Reads as is-ahead-full-reads
use Rattle.held.proofs.slots.free_from.Kinds as free-from
use Rattle.held.proofs.slots.free_from.Reads as free-from-reads
use Rattle.held.proofs.hanging.is_in_place.Kinds as is-in-place
use Rattle.held.proofs.hanging.is_in_place.Reads as is-in-place-reads
use Rattle.held.proofs.hanging.is_sound.Kinds as is-sound
use Rattle.held.proofs.hanging.is_sound.Reads as is-sound-reads
use Rattle.held.proofs.hanging.is_whole.Kinds as is_whole
use Rattle.held.proofs.hanging.is_whole.Reads as is-whole-reads
use Rattle.held.proofs.holding.hold.Kinds as hold
use Rattle.held.proofs.holding.hold.Reads as hold-reads
use Rattle.held.proofs.releasing.release.Kinds as release
use Rattle.held.proofs.releasing.release.Reads as release-reads

is-ahead-full-is : Answered 0 is-ahead-full.ps is-ahead-full.r is-ahead-full-reads.Post
is-ahead-full-is κs a x y s t = same_answer

free-from-is : Answered 0 free-from.ps free-from.r free-from-reads.Post
free-from-is κs a x y s t = same_answer

is-in-place-is : Answered 0 is-in-place.ps is-in-place.r is-in-place-reads.Post
is-in-place-is κs a x y s t = same_answer

is-sound-is : Answered 1 is-sound.ps is-sound.r is-sound-reads.Post
is-sound-is κs a x y s t = same_answer

is-whole-is : Answered 1 is_whole.ps is_whole.r is-whole-reads.Post
is-whole-is κs a x y s t = same_answer

hold-is : Determined 2 hold.ps hold.r (List ℕ) (λ κs s. s.1.1.1.1.0.now) hold-reads.Post
hold-is κs a x y s t p q = same-both p.bitmap q.bitmap p.bytes q.bytes

release-is : Determined 2 release.ps release.r (List ℕ) (λ κs s. s.1.1.1.0.now) release-reads.Post
release-is κs a x y s t p q = same-both p.answer q.answer p.bytes q.bytes
