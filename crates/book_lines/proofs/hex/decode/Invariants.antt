-- `decode`: the bytes put so far, with what the rest of the text still spells, are what the whole text spells.
use Rattle.std.proofs.Common.{◌≡◌, ◌<◌, ◌≤◌, IfSome, None, ◌++◌, take, drop}
use Rattle.book_lines.specs.Hex.{spelt}
use Rattle.book_lines.proofs.hex.decode.Given as goal

abbrev pub invariant-loop-b : goal.invariant-loop-b
invariant-loop-b l = (l.count ≤ l.b-index) × IfSome l.waits (λ d. d < 16)
    × (take l.count l.out ++ spelt l.waits (drop l.b-index l.text) ≡ spelt None l.text)
