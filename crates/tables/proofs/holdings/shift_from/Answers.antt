use Rattle.tables.proofs.PaddedFrom.{shifted-padded}
use Rattle.tables.proofs.holdings.shift_from.Goals as goal

pub returns : goal.returns
returns c = rw (c.shift.ensures, c.on_from_head.ensures) (shifted-padded _ c.requires.proper _ c.requires.position _ c.args.i _)
