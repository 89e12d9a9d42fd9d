use Rattle.tables.proofs.PaddedFrom.{shifted-padded, most-padded}
use Rattle.tables.proofs.holdings.lower_all.Goals as goal

pub returns-clause-most : goal.returns-clause-most
returns-clause-most c =
    rw (c.lower.ensures.most, c.on_from_head.ensures) (most-padded _ c.requires.proper _ c.requires.position _ c.args.i)

pub returns-clause-shifts : goal.returns-clause-shifts
returns-clause-shifts c =
    rw (c.lower.ensures.shifts, c.on_from_head.ensures) (shifted-padded _ c.requires.proper _ c.requires.position _ c.args.i 255)
