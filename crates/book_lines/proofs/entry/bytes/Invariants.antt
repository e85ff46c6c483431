-- `bytes`: what was put so far lies within the room.
use Rattle.std.proofs.Common.{◌≤◌, length}
use Rattle.book_lines.proofs.entry.bytes.Given as goal

abbrev pub invariant-loop : goal.invariant-loop
invariant-loop l = l.count ≤ length l.out
