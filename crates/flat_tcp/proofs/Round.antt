-- MEMX-TCP's round: what was read is written with the same bytes, and what was written is read with the same fields.
-- Assumes nothing.
use Rattle.std.specs.Prelude.{if◌then◌else◌}
use Prim.Native.Nat.{ℕ}
use mathlib.Core.Path.{◌≡◌, refl}
use mathlib.Core.Bool.{true}
use mathlib.Core.List.{List, [], ◌∷◌, map}
use native.Mathlib.Omega.{arith}
use borrow.Author.Tests.{eqb-true, eqb-false}
use lib.ListN.{length, get_or, take, drop, drop_of_length-le}
use lib.Seq.{take-length}
use Rattle.wire.specs.Fields.{Bytes}
use Rattle.wire.specs.Checks.{◌is◌, Verdict, refused, taken, ◌told_by◌}
use Rattle.wire.specs.Refusals.{number_of}
use Rattle.wire.specs.Reply.{within}
use Rattle.wire.proofs.Checks.{all-passed, taken-same}
use Rattle.wire.proofs.Numbered.{has-number}
use Rattle.wire.proofs.Tests.{by-test}
use Rattle.memx_tcp.specs.Layout.{◌is_one_of◌, known, fields_of as layout_of, most_of, size}
use Rattle.memx_tcp.specs.Packet.{Packet, header_size, write}
use Rattle.memx_tcp.specs.Read.{kind_in, end_in, packet_in, checks, read}
use Rattle.memx_tcp.specs.Reading.{fields_by, start_of, tcp_of}
use Rattle.memx_tcp.specs.Writing.{under, values_of, packet_of}
use Rattle.memx_tcp.proofs.Every.{◌and◌, named_again, of-known}
use Rattle.memx_tcp.proofs.Stored.{Ranged, sized-under}
use Rattle.memx_tcp.proofs.Verdicts.{written_checks, written-verdict}
use Rattle.memx_tcp.proofs.Exact.{read-is-written}
use Rattle.memx_tcp.proofs.Framing.{Framed, framed-says}
use Rattle.flat_packet.proofs.Round.{settled}
use Rattle.flat_tcp.specs.declared.FlatTcp.{FlatTcp}
use Rattle.flat_tcp.specs.declared.FlatTcpReading.{FlatTcpReading}
use Rattle.flat_tcp.specs.Packets.{flat_tcp, tcp_read, fields_of, tcp_reply}

-- the token or payload of a packet, by its place
abbrev pub body_of : FlatTcp → List ℕ → List ℕ
body_of p d = take p.length (drop p.start d)

-- ---- what was read

module _ (d : List ℕ) (q : Packet) (e : read d ≡ taken q) where
  same : packet_in d ≡ q
  unfolding read
  same = taken-same (packet_in d) q (all-passed (checks d) (taken (packet_in d)) q e).1

  framed : Framed d
  unfolding read
  framed = framed-says d (all-passed (checks d) (taken (packet_in d)) q e).0.1.1.1.0

  -- a token or payload stands where the packet says; where there is none, nothing is left
  body : take (length (drop (end_in d) d)) (drop (start_of (kind_in d)) d) ≡ drop (end_in d) d
  body =
      by-test (most_of (kind_in d) is 0)
      (λ z.
      let f = framed.rest in
      let m = eqb-true (most_of (kind_in d)) 0 z in
      rw (drop_of_length-le (drop (end_in d) d) {i = 0} (omega arith)))
      (λ z. rw z (take-length (drop (end_in d) d)))

  -- the fields laid flat are those of the packet
  again : let p = (flat_tcp (taken (tcp_of (packet_in d)))).packet in packet_of (fields_of p) (body_of p d) ≡ packet_in d
  again =
      let n = named_again (kind_in d) (drop header_size d) in
      rw (body, n.1, n.0)

-- the flat fields of a packet: their kind is its type byte, and with its body they are written as the same bytes
abbrev Round : List ℕ → FlatTcp → Type 0
Round d p = (p.kind ≡ kind_in d) × ((room : ℕ) → tcp_reply p (body_of p d) room ≡ within room d)

module _ (d : List ℕ) (b : Bytes d) where
  round : (v : Verdict Packet) → read d ≡ v → (flat_tcp (v told_by tcp_of)).refusal ≡ 0 → Round d (flat_tcp (v told_by tcp_of)).packet
  round (refused why) r e = absurd (eqb-false (number_of why) 0 (has-number why) e)
  round (taken q) r e =
      let s = same d q r in
      let n = named_again (kind_in d) (drop header_size d) in
      let w = read-is-written d b q r in
      rw (← s) (n.0, λ room. rw (again d q r, s, w.1, r))

  -- What was read, written with its token or payload, is the same bytes.
  pub read-then-written : (room : ℕ) → (tcp_read d).refusal ≡ 0 → let p = (tcp_read d).packet in
      tcp_reply p (body_of p d) room ≡ within room d
  read-then-written room e = (round (read d) refl e).1 room

  -- The flat kind of a packet is its type byte.
  pub kind-is-the-type-byte : (tcp_read d).refusal ≡ 0 → (tcp_read d).packet.kind ≡ get_or d 0 0
  kind-is-the-type-byte e = (round (read d) refl e).0

-- ---- what was written

-- a field of the types that carry it; in the others it is 0
abbrev carried : List ℕ → ℕ → ℕ → ℕ
carried types kind field = if kind is_one_of types then field else 0

-- the fields of a type as the paper's tables have them, and where its token or payload stands
abbrev kept_as : ℕ → FlatTcp → List ℕ → FlatTcpReading
kept_as kind p body = record {
  refusal = 0;
  packet = record {
    kind = kind;
    letter = carried (1 ∷ 2 ∷ 6 ∷ 9 ∷ 100 ∷ []) kind p.letter;
    count = carried (5 ∷ 7 ∷ 101 ∷ []) kind p.count;
    session = carried (3 ∷ 101 ∷ 102 ∷ 103 ∷ []) kind p.session;
    number = carried (5 ∷ 8 ∷ 10 ∷ 101 ∷ 103 ∷ []) kind p.number;
    top = carried (8 ∷ []) kind p.top;
    start = if kind is 100 then 4 else carried (11 ∷ 104 ∷ []) kind 3;
    length = length body;
  };
}

abbrev pub kept : FlatTcp → List ℕ → FlatTcpReading
kept p body = kept_as p.kind p body

module _ (p : FlatTcp) (body : List ℕ) where
  -- what the reader tells of these fields, were the packet of the type k
  abbrev As : ℕ → Type 0
  As k = flat_tcp (taken (tcp_of (record { kind = k; values = map (under (fields_of p)) (layout_of k); tail = body }))) ≡ kept_as k p body

  told-as : (k : ℕ) → known k ≡ true → As k
  unfolding layout_of most_of size fields_by
  told-as =
      of-known As
      (refl and refl and refl and refl and refl and refl and refl and refl and refl and refl and refl and refl and refl and refl and refl
      and refl and refl and tt)

  -- What was written is read with the same fields, and nothing else.
  pub written-then-read : Ranged (fields_of p) → (room : ℕ) (d : List ℕ) → tcp_reply p body room ≡ taken d → tcp_read d ≡ kept p body
  unfolding values_of
  written-then-read f room d e =
      let q = packet_of (fields_of p) body in
      let h = sized-under (fields_of p) f (layout_of p.kind) in
      let g = settled read (written_checks q h) q (write q) room d (written-verdict q h) e in
      rw g.back (told-as p.kind g.passed.1.0)
