use Rattle.soup_pieces.proofs.Searches.{found-behind}
use Rattle.soup_pieces.proofs.searching.linefeed.Goals as goal

pub returns : goal.returns
returns c = (
  found-behind c.args.s.now c.args.from c.behind_eights-at.result c.args.to c.find.result c.behind_eights-at.ensures.0
      c.behind_eights-at.ensures.1
      c.requires.1 c.behind_eights-at.ensures.2 c.find.ensures.0,
  c.find.ensures.1,
)
