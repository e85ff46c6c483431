-- What SoupTCP's reader says, laid flat.
-- Assumes nothing.
use Rattle.std.specs.Prelude.{ℕ, List}
use Rattle.wire.specs.Checks.{Verdict, refused, taken, ◌told_by◌}
use Rattle.names.specs.Names.{name_bytes, user_bytes}
use Rattle.soup.specs.Read.{read as read_soup}
use Rattle.soup.specs.Reading.{packet_of}
use Rattle.soup.specs.declared.reading.Reading.{Reading}
use Rattle.soup.specs.declared.reading.Reading.TheVariants as soup
use Rattle.flat_packet.specs.declared.Read.{Read}
use Rattle.flat_packet.specs.Packets.{no_packet, bare, named, rejected, payload, logged_in}

-- the type bytes are + A J S H Z L U R O; Round shows that writing these fields again gives the packet
abbrev pub flat_soup : Reading → Read
flat_soup (soup.Debug start size) = payload 43 start size 0
flat_soup (soup.Accept session number) = named (name_bytes session) number.0
flat_soup (soup.Reject reason) = rejected reason
flat_soup (soup.Sequenced start size) = payload 83 start size 0
flat_soup soup.ServerHeartbeat = bare 72 0
flat_soup soup.EndOfSession = bare 90 0
flat_soup (soup.Login user password session number) = logged_in (user_bytes user) (name_bytes password.0) (name_bytes session) number.0 0
flat_soup (soup.Unsequenced start size) = payload 85 start size 0
flat_soup soup.ClientHeartbeat = bare 82 0
flat_soup soup.Logout = bare 79 0

-- or why it can't be read
abbrev pub flat_said : Verdict Reading → Read
flat_said (refused why) = no_packet why
flat_said (taken said) = flat_soup said

abbrev pub soup_read : List ℕ → Read
soup_read d = flat_said (read_soup d told_by packet_of)
