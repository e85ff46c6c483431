-- What is answered of a line that has ended, step by step as the code has it.
-- Assumes nothing.
use Rattle.std.specs.Prelude.{ℕ, ◌≤◌, ◌≡◌, List, Bool, true, false, length}
use Rattle.wire.specs.Checks.{Verdict, refused, taken}
use Rattle.soup.specs.Packet.{Packet, line_limit}
use Rattle.soup.specs.Read.{last, front, unbroken}
use Rattle.soup.specs.Reading.{packet_of}
use Rattle.soup_pieces.specs.Machine.{role_of, judge, number_of, next_after, empty}
use Rattle.soup_pieces.specs.Eating.{pieces_of, told_number}
use Rattle.soup_pieces.specs.declared.closing.Judged.{Judged}
use Rattle.soup_pieces.specs.declared.Pieces.{Pieces}
use Rattle.soup_pieces.specs.declared.Taken.{Taken}
use Rattle.soup_pieces.specs.declared.Taken.TheVariants as takes

-- its only linefeed is its last byte, and it is no longer than a packet may be
pub record Line (d : List ℕ) : Type 0 where
  pub short : length d ≤ line_limit
  pub ends : last d ≡ 10
  pub whole : unbroken (front d) ≡ true

abbrev pub empty_pieces : Bool → ℕ → Pieces
empty_pieces dropping next = pieces_of (empty dropping next)

-- a packet whose turn it is, as the code tells it
abbrev pub judged_of : (next : ℕ) → Packet → Judged
judged_of next p = record {
  packet = packet_of p;
  number = told_number (number_of next (role_of p));
  next = record { 0 = next_after next (role_of p) };
}

-- what is answered of a packet that has ended
abbrev pub closed_of : ℕ → List ℕ → (place : ℕ) → Verdict Packet → Taken
closed_of next d place (refused why) = takes.Unfit why (length d) place (empty_pieces false next)
closed_of next d place (taken p) = takes.Packet (packet_of p) (told_number (number_of next (role_of p))) (length d) place
    (empty_pieces false (next_after next (role_of p)))

unfoldable pub closed : List ℕ → (next place : ℕ) → Taken
closed d next place = closed_of next d place (judge next d)
