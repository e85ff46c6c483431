-- A packet that is handed out is what the reader says of its bytes, which stand at the buffer's start.
-- Assumes nothing.
use Rattle.std.specs.Prelude.{Option}
use Prim.Native.Nat.{ℕ, ◌≤◌}
use mathlib.Core.Path.{◌≡◌, refl}
use mathlib.Core.List.{List, [], ◌∷◌}
use lib.ListN.{length, take, drop, length-append}
use lib.Seq.{take-append_seam}
use native.Mathlib.Omega.{arith}
use Rattle.wire.specs.Checks.{Verdict, refused, taken, ◌else◌, ◌told_by◌}
use Rattle.wire.specs.declared.kinds.Sequence.{Sequence}
use Rattle.wire.specs.declared.refusal.Refusal.TheVariants.{Broken}
use Rattle.wire.proofs.Checks.{all-passed, taken-same}
use Rattle.wire.proofs.Tests.{impossible}
use Rattle.soup.specs.Packet.{Packet}
use Rattle.soup.specs.Read.{read}
use Rattle.soup.specs.Reading.{packet_of}
use Rattle.soup.specs.declared.reading.Reading.{Reading}
use Rattle.soup_pieces.specs.Machine.{Machine, packet, refusal, First, used_up, given, first}
use Rattle.soup_pieces.specs.Eating.{machine_of, call_checks, eating, Returned}
use Rattle.soup_pieces.specs.declared.Pieces.{Pieces}
use Rattle.soup_pieces.specs.declared.Taken.{Taken}
use Rattle.soup_pieces.specs.declared.Taken.TheVariants as takes
use Rattle.soup_pieces.proofs.Genuine.{first-genuine}
use Rattle.flat.specs.Flag.{is_flag}
use Rattle.flat_pieces.specs.Taking.{pieces_of, take_verdict}
use Rattle.flat_pieces.specs.declared.FlatPieces.{FlatPieces}

pub record AsRead (said : Reading) (bytes : ℕ) (left : List ℕ) : Type 0 where
  pub fits : bytes ≤ length left
  pub says : read (take bytes left) told_by packet_of ≡ taken said

-- of a verdict whose packets are what the reader says
by-verdict : {buffer piece left : List ℕ} {said : Reading} {number : Option Sequence} {bytes place : ℕ} {after : Pieces} (v : Verdict First)
    → ((d : List ℕ) (p : Packet) (n : ℕ) (s : Machine) (rest : List ℕ) → v ≡ taken (given (packet d p n) s rest) → read d ≡ taken p)
    → Returned v buffer piece (taken (takes.Packet said number bytes place after)) left
    → AsRead said bytes left
by-verdict (refused why) genuine a = impossible (cc a.answer)
by-verdict (taken (used_up s)) genuine a = impossible (cc a.answer)
by-verdict (taken (given (refusal d why) s rest)) genuine a = impossible (cc a.answer)
by-verdict {buffer} {said = said} {bytes = bytes} (taken (given (packet d p n) s rest)) genuine a =
    let size : bytes ≡ length d = cc a.answer in
    let same : said ≡ packet_of p = cc a.answer in
    record {
      fits = rw (a.bytes, length-append) (omega arith);
      says = rw (a.bytes, size, take-append_seam d (drop (length d) buffer), genuine d p n s rest refl, same);
    }

module _ (lent : FlatPieces) (from : ℕ) where
  -- and those of the call are
  genuine : (buffer piece d : List ℕ) (p : Packet) (n : ℕ) (s : Machine) (rest : List ℕ)
      → take_verdict lent buffer piece from ≡ taken (given (packet d p n) s rest)
      → read d ≡ taken p
  unfolding eating
  genuine buffer piece d p n s rest e =
      let pieces : Pieces = pieces_of lent in
      let machine : Machine = machine_of pieces buffer in
      let left : List ℕ = drop from piece in
      let f : First = given (packet d p n) s rest in
      let known = (all-passed ((is_flag lent.dropping else Broken) ∷ []) (eating pieces buffer piece from) f e).1 in
      let passed = (all-passed (call_checks pieces buffer piece from) (taken (first machine left)) f known).1 in
      (first-genuine machine left (packet d p n) s rest (taken-same (first machine left) f passed)).0

  pub as_read : {buffer piece left : List ℕ} {r : Verdict Taken} {said : Reading} {number : Option Sequence}
      {bytes place : ℕ} {after : Pieces}
      → Returned (take_verdict lent buffer piece from) buffer piece r left
      → r ≡ taken (takes.Packet said number bytes place after)
      → AsRead said bytes left
  as_read {buffer} {piece} a e = by-verdict (take_verdict lent buffer piece from) (genuine buffer piece) (rw e at a)
