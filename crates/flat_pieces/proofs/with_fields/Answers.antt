use Rattle.flat_pieces.proofs.with_fields.Goals as goal

pub told-requires : goal.told-requires
told-requires c = c.requires.1

pub returns-in-Sequenced : goal.returns-in-Sequenced
returns-in-Sequenced c = rw (c.requires.0, c.requires.1, c.in-Sequenced.is)

pub returns-in_default : goal.returns-in_default
returns-in_default c = rw c.told.ensures
