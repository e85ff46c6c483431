-- Every starred entry of the specimen book holds: by computation, or by what a room has worked out already.
-- Assumes nothing.
use mathlib.Core.Path.{refl}
use Rattle.wire.specs.Fields.{be, bytes_of}
use Rattle.text.specs.Text.{letter_or_digit, blank, text_then_spaces}
use Rattle.blocks.specs.Blocks.{frames, cut, cut_full}
use Rattle.ufo.specs.Down.{read_s, read_e, read}
use Rattle.ufo_up.specs.Up.{read_t, read_message, read_each, read_up}
use Rattle.memx.specs.Read as memx
use Rattle.memx.proofs.Specimen.{heartbeat-zero, one-skipped}
use Rattle.soup.proofs.Specimen.{next_one, twenty-spaces}
use Rattle.clock.proofs.Specimen as clock
use Rattle.held.specs.Hanging.{every, in_place}
use Rattle.record.specs.Record.{hangs}
use Rattle.record.specs.Standing.{standing}
use Rattle.book.specs.Entry.{Says, All, none, ◌and◌}
use Rattle.book.specs.Book.{samples, book}
use Rattle.book.proofs.Stories.{empty_holds, headers-hold, tale-holds, gaps-hold}

sampled : Says samples
sampled = ((clock.samples).0, (clock.waits).0, ((clock.samples).1, (clock.waits).1, ((clock.samples).2, (clock.waits).2, tt)))

pub all_hold : All book
unfolding be bytes_of letter_or_digit blank text_then_spaces frames cut cut_full read read_s read_e read_up read_each read_message read_t
    memx.read
    memx.read_news memx.read_messages every in_place hangs standing
all_hold =
    refl
    and refl
    and refl
    and refl
    and refl
    and refl
    and refl
    and heartbeat-zero
    and one-skipped
    and next_one
    and twenty-spaces
    and refl
    and empty_holds
    and headers-hold
    and tale-holds
    and gaps-hold
    and sampled
    and none
