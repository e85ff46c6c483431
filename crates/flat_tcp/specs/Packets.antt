-- A MEMX-TCP packet, laid flat: the fields that its type lacks are 0.
-- Assumes nothing.
use Rattle.std.specs.Prelude.{ℕ, List}
use Rattle.wire.specs.Checks.{Verdict, refused, taken, ◌told_by◌}
use Rattle.wire.specs.Refusals.{number_of}
use Rattle.wire.specs.Reply.{Reply}
use Rattle.memx_tcp.specs.Read.{read}
use Rattle.memx_tcp.specs.Reading.{tcp_of}
use Rattle.memx_tcp.specs.Writing.{reply}
use Rattle.memx_tcp.specs.declared.packet.Fields.{Fields}
use Rattle.memx_tcp.specs.declared.reading.Tcp.{Tcp}
use Rattle.flat_tcp.specs.declared.FlatTcp.{FlatTcp}
use Rattle.flat_tcp.specs.declared.FlatTcpReading.{FlatTcpReading}

-- on a refusal every other number is 0; Round shows that writing these fields gives the same bytes
abbrev pub flat_tcp : Verdict Tcp → FlatTcpReading
flat_tcp (refused why) = record {
  refusal = number_of why;
  packet = record {
    kind = 0;
    letter = 0;
    count = 0;
    session = 0;
    number = 0;
    top = 0;
    start = 0;
    length = 0;
  };
}
flat_tcp (taken said) = let p = said.fields in record {
  refusal = 0;
  packet = record {
    kind = p.kind;
    letter = p.letter;
    count = p.count;
    session = p.session.0;
    number = p.number.0;
    top = p.top.0;
    start = said.start;
    length = said.length;
  };
}

abbrev pub tcp_read : List ℕ → FlatTcpReading
tcp_read d = flat_tcp (read d told_by tcp_of)

-- what is written of them: where a token or payload stood is not looked at; Round shows that reading it gives each field again
abbrev pub fields_of : FlatTcp → Fields
fields_of p = record {
  kind = p.kind;
  letter = p.letter;
  count = p.count;
  session = record { 0 = p.session };
  number = record { 0 = p.number };
  top = record { 0 = p.top };
}

abbrev pub tcp_reply : FlatTcp → List ℕ → ℕ → Reply
tcp_reply p body room = reply (fields_of p) body room
