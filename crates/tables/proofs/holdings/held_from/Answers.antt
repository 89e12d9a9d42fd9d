use Rattle.tables.proofs.PaddedFrom.{held-padded}
use Rattle.tables.proofs.holdings.held_from.Goals as goal

pub returns : goal.returns
returns c = held-padded _ c.requires.proper _ c.requires.position _ c.args.i _ (rw c.on_from_head.ensures at c.held_in.ensures)
