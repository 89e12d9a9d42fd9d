use Rattle.crossing.proofs.Ticks.{dated-next}
use Rattle.crossing.proofs.shown.Goals as goal

pub returns : goal.returns
returns c = dated-next c.requires c.args.i _ c.next.ensures c.credit.ensures
